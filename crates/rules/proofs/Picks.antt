-- Picks of two processes do not meet: a statement reads and writes what belongs to its own process alone, so that the effect of
-- one process is the same after that of another, and the two commute.
-- Assumes nothing.
use mathlib.Core.Path.{◌≡◌, refl, sym}
use mathlib.Core.Bool.{true, false}
use mathlib.Core.List.{List}
use mathlib.Core.Logic.{◌≢◌, ◌⊎◌, inl, inr, ⊎_elim}
use Prim.Native.Nat.{ℕ, ◌<◌}
use native.Mathlib.Decide.{ℕ_discrete}
use native.Mathlib.Omega.{arith}
use lib.Dec.{eqb}
use lib.ListN.{length, get_or}
use lib.Seq.{get_or-set_other, set_comm}
use Rattle.base.specs.Cases.{◌∣◌, ◌⇒◌}
use Rattle.base.proofs.Below.{◌and◌, among}
use Rattle.blocks.specs.Records.{Model, variable_at, driver_at, statement_at}
use Rattle.blocks.specs.declared.records.StatementRecord.{StatementRecord}
use Rattle.fields.specs.Fields.{absent}
use Rattle.model.specs.Owners.{reads_own}
use Rattle.model.specs.Facts.{Expression, StatementFits, Facts}
use Rattle.rules.specs.declared.driven.Driven.{Driven}
use Rattle.rules.specs.declared.effect.Effect.{Effect}
use Rattle.rules.specs.declared.mechanism.Mechanism.{Mechanism}
use Rattle.rules.specs.declared.effect.Effect.TheVariants.{Skip, Store, Schedule, Jump, Wait, WaitFor, Stop}
use Rattle.rules.specs.Configuration.{DriverState, Configuration, driver_in, process_in}
use Rattle.rules.specs.Evaluation.{Environment, environment_of, eval_of}
use Rattle.rules.specs.Statements.{with_delay, effect_by, effect_of, variables_after, full_after, drivers_after, applied, stepped}
use Rattle.rules.specs.Orders.{is_ready}
use Rattle.rules.specs.Invariant.{Reachable}
use Rattle.rules.proofs.Evaluation.{agree}
use Rattle.rules.proofs.Effects.{own_statement, placed, effect_fits}

-- what an effect of process p writes is p's own
pub record Owns (M : Model) (p : ℕ) (x : Effect) : Type 0 where
  pub variable : (a v : ℕ) → x ≡ Store a v → (variable_at M a).process ≡ p
  pub driver : (k d : ℕ) (v : Driven) (m : Mechanism) → x ≡ Schedule k d v m → (driver_at M k).process ≡ p

-- an effect that stores, and one that schedules
abbrev Stores : Effect → Type 0
Stores x = (a : ℕ) × (v : ℕ) × (x ≡ Store a v)

abbrev Schedules : Effect → Type 0
Schedules x = (k : ℕ) × (d : ℕ) × (v : Driven) × (m : Mechanism) × (x ≡ Schedule k d v m)

-- one that leaves the drivers, and so overflows none
abbrev Leaves : Effect → Type 0
Leaves x = ((t : ℕ) (ds : List DriverState) → drivers_after x t ds ≡ ds) × ((t : ℕ) (ds : List DriverState) → full_after x t ds ≡ false)

stores : (x : Effect) → Stores x ⊎ ((vs : List ℕ) → variables_after x vs ≡ vs)
stores Skip = inr (λ vs. refl)
stores (Store a v) = inl (a, v, refl)
stores (Schedule k d v m) = inr (λ vs. refl)
stores (Jump a) = inr (λ vs. refl)
stores Wait = inr (λ vs. refl)
stores (WaitFor d) = inr (λ vs. refl)
stores (Stop f) = inr (λ vs. refl)

schedules : (x : Effect) → Schedules x ⊎ Leaves x
schedules Skip = inr (λ t ds. refl, λ t ds. refl)
schedules (Store a v) = inr (λ t ds. refl, λ t ds. refl)
schedules (Schedule k d v m) = inl (k, d, v, m, refl)
schedules (Jump a) = inr (λ t ds. refl, λ t ds. refl)
schedules Wait = inr (λ t ds. refl, λ t ds. refl)
schedules (WaitFor d) = inr (λ t ds. refl, λ t ds. refl)
schedules (Stop f) = inr (λ t ds. refl, λ t ds. refl)

-- an effect x of p leaves the process q
pub process_stays : (M : Model) (p q : ℕ) (x : Effect) → p ≢ q → (c : Configuration)
    → process_in (applied M p x c).processes q ≡ process_in c.processes q
unfolding applied
process_stays M p q x other c = get_or-set_other c.processes p q _ _ (λ e. other (sym e))

-- what q owns is the same after an effect x of p
module _ (M : Model) (p q : ℕ) (x : Effect) (other : p ≢ q) (ox : Owns M p x) where
  pub variable_stays : (vs : List ℕ) (a : ℕ) → (variable_at M a).process ≡ q → get_or (variables_after x vs) a 0 ≡ get_or vs a 0
  variable_stays vs a own =
      ⊎_elim
      (λ (s : Stores x). rw s.2 (get_or-set_other vs s.0 a s.1 0 (λ same. other (cc (ox.variable s.0 s.1 s.2)))))
      (λ stays. rw (stays vs))
      (stores x)

  pub driver_stays : (t : ℕ) (ds : List DriverState) (k : ℕ) → (driver_at M k).process ≡ q → driver_in (drivers_after x t ds) k ≡ driver_in ds k
  driver_stays t ds k own =
      ⊎_elim
      (λ (s : Schedules x). rw s.4 (get_or-set_other ds s.0 k _ _ (λ same. other (cc (ox.driver s.0 s.1 s.2 s.3 s.4)))))
      (λ (l : Leaves x). rw (l.0 t ds))
      (schedules x)

  -- a schedule of q overflows after x where it does before
  pub full_stays : (y : Effect) → Owns M q y → (t : ℕ) (ds : List DriverState) → full_after y t (drivers_after x t ds) ≡ full_after y t ds
  full_stays y oy t ds =
      ⊎_elim
      (λ (s : Schedules y). rw (s.4, driver_stays t ds s.0 (oy.driver s.0 s.1 s.2 s.3 s.4)))
      (λ (l : Leaves y). rw (l.1 t ds, l.1 t (drivers_after x t ds)))
      (schedules y)

-- effects of two processes commute: x of p, y of q
module _ (M : Model) (p q : ℕ) (x y : Effect) (other : p ≢ q) (ox : Owns M p x) (oy : Owns M q y) where
  variables_swap : (vs : List ℕ) → variables_after y (variables_after x vs) ≡ variables_after x (variables_after y vs)
  variables_swap vs =
      ⊎_elim
      (λ (s : Stores x).
      ⊎_elim
      (λ (r : Stores y).
      rw (s.2, r.2)
      (set_comm vs s.0 r.0 s.1 r.1
      (λ same. other (cc (ox.variable s.0 s.1 s.2, oy.variable r.0 r.1 r.2)))))
      (λ stays. rw (stays vs, stays (variables_after x vs)))
      (stores y))
      (λ stays. rw (stays vs, stays (variables_after y vs)))
      (stores x)

  drivers_swap : (t : ℕ) (ds : List DriverState) → drivers_after y t (drivers_after x t ds) ≡ drivers_after x t (drivers_after y t ds)
  drivers_swap t ds =
      ⊎_elim
      (λ (s : Schedules x).
      ⊎_elim
      (λ (r : Schedules y).
      let apart : s.0 ≢ r.0 = λ same. other (cc (ox.driver s.0 s.1 s.2 s.3 s.4, oy.driver r.0 r.1 r.2 r.3 r.4)) in
      rw (s.4, r.4, get_or-set_other ds s.0 r.0 _ _ (λ e. apart (sym e)), get_or-set_other ds r.0 s.0 _ _ apart)
      (set_comm ds s.0 r.0 _ _ apart))
      (λ (l : Leaves y). rw (l.0 t ds, l.0 t (drivers_after x t ds)))
      (schedules y))
      (λ (l : Leaves x). rw (l.0 t ds, l.0 t (drivers_after y t ds)))
      (schedules x)

  pub swap : (c : Configuration) → applied M q y (applied M p x c) ≡ applied M p x (applied M q y c)
  unfolding applied
  swap c =
      let back : q ≢ p = λ e. other (sym e) in
      rw (
        process_stays M p q x other c,
        process_stays M q p y back c,
        full_stays M p q x other ox y oy c.time c.drivers,
        full_stays M q p y back oy x ox c.time c.drivers,
        variables_swap c.variables,
        drivers_swap c.time c.drivers,
        set_comm c.processes p q _ _ other,
      )

-- two environments in which what process p reads has the same values
abbrev SameReads : Model → ℕ → Environment → Environment → Type 0
SameReads M p e e' = (n : ℕ) → n < length M.nodes → reads_own M p n ≡ true → eval_of M e n ≡ eval_of M e' n

-- in them a statement of p has the same effect
module _ (M : Model) (p : ℕ) (e e' : Environment) (same : SameReads M p e e') (s : StatementRecord) (f : StatementFits M p s) where
  value_same : {ty n : ℕ} → Expression M p ty n → eval_of M e n ≡ eval_of M e' n
  value_same {n = n} x = same n x.node x.own

  abbrev wait_by : Environment → Effect
  wait_by e = eqb s.c absent ⇒ Wait ∣ with_delay (eval_of M e s.c) WaitFor

  wait_same : s.kind ≡ 5 → wait_by e ≡ wait_by e'
  wait_same k = elim (ℕ_discrete s.c absent) [ yes h ↦ rw h | no h ↦ rw (value_same ((f.wait k).delay h)) ]

  pub effect_same : effect_by M e p s ≡ effect_by M e' p s
  unfolding effect_by
  effect_same =
      among (λ k. s.kind ≡ k → effect_by M e p s ≡ effect_by M e' p s) 0 8 s.kind
      ((λ k. rw k)
      and (λ k. rw (k, value_same (f.variable_assignment k).value))
      and (λ k. let g = f.signal_assignment (inl k) in rw (k, value_same g.value, value_same g.delay))
      and (λ k. rw (k, value_same (f.branch k).condition))
      and (λ k. rw k)
      and (λ k. rw k (wait_same k))
      and (λ k. rw (k, value_same (f.null_assignment k).delay))
      and (λ k. let g = f.signal_assignment (inr k) in rw (k, value_same g.value, value_same g.delay))
      and tt)
      (omega arith) (omega (arith, f.kind)) refl

module _ (M : Model) (fs : Facts M) (c : Configuration) (r : Reachable M c) where
  -- what a process does is its own
  owns : (p : ℕ) → p < length M.processes → Owns M p (effect_of M c p)
  owns p h =
      let fits = effect_fits M c r fs p h in
      record { variable = λ a v e. (rw e at fits).own; driver = λ k d v m e. (rw e at fits).own }

  -- the effect of q is the same after an effect x of p
  local : (p q : ℕ) (x : Effect) → p ≢ q → Owns M p x → q < length M.processes → effect_of M (applied M p x c) q ≡ effect_of M c q
  unfolding effect_of applied
  local p q x other ox h =
      rw (process_stays M p q x other c)
      (effect_same M q (environment_of (variables_after x c.variables) c.signals c.earlier) (environment_of c.variables c.signals c.earlier)
      (agree M fs _ _ q (λ s k h l. refl) (λ a l own. variable_stays M p q x other ox c.variables a own))
      (statement_at M (process_in c.processes q).place)
      (own_statement M fs q h (process_in c.processes q).place (placed M c r q h)))

  -- picks of two processes commute
  pub steps_commute : (p q : ℕ) → p ≢ q → p < length M.processes → q < length M.processes
      → stepped M q (stepped M p c) ≡ stepped M p (stepped M q c)
  unfolding stepped
  steps_commute p q other hp hq =
      rw (
        local p q (effect_of M c p) other (owns p hp) hq,
        local q p (effect_of M c q) (λ e. other (sym e)) (owns q hq) hp,
        swap M p q (effect_of M c p) (effect_of M c q) other (owns p hp) (owns q hq) c,
      )

-- a pick of p leaves the standing of every other process
pub standing_stays : (M : Model) (p q : ℕ) (c : Configuration) → p ≢ q → is_ready q (stepped M p c) ≡ is_ready q c
unfolding stepped is_ready
standing_stays M p q c other = rw (process_stays M p q (effect_of M c p) other c)
