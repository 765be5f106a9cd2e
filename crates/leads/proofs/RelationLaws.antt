-- What is read of a statement as sets of signals, and the sets of a process, made statement by statement. Assumes nothing.
use mathlib.Core.Path.{◌≡◌, sym, ◌∙◌}
use mathlib.Core.Logic.{inl, inr, ⊎_elim}
use mathlib.Core.Bool.{Bool, true, false, not, ◌&&◌, ◌||◌, true≢false, and-false, or-false}
use Prim.Native.Nat.{ℕ, ◌+◌, ◌≤◌, ◌<◌}
use native.Mathlib.Nat.{le_antisymm}
use native.Mathlib.Omega.{arith}
use lib.Dec.{eqb}
use lib.ListN.{length}
use mir.Syntax.{w64}
use mir.Val.{Fits}
use borrow.Author.Tests.{eqb-true, ne_eqb}
use Rattle.base.specs.Below.{any_below}
use Rattle.base.proofs.Below.{or_cases, any_start, any_next}
use Rattle.sets.specs.Sets.{in_set, SetOf}
use Rattle.sets.proofs.Bits.{in_none}
use Rattle.blocks.specs.Records.{Model, process_at, statement_at}
use Rattle.blocks.specs.declared.records.ProcessRecord.{ProcessRecord}
use Rattle.blocks.specs.declared.records.StatementRecord.{StatementRecord}
use Rattle.fields.specs.Fields.{absent, assigns, owner_of}
use Rattle.model.specs.Facts.{StatementFits, Facts}
use Rattle.leads.specs.Leads.{some_of, constant_above0, is_assignment, without_delay, waits_on, wait_later}
use Rattle.leads.specs.Relation.{assigns_soon, SeenWith, SidesOf}
use Rattle.leads.specs.declared.Sides.{Sides}

-- s is statement u, as it was read
module _ (M : Model) (s u : StatementRecord) (e : s ≡ u) where
  pub no_wait : (s.kind ≡ 5 → ⊥) → true ≡ wait_later M u
  unfolding wait_later
  no_wait f = rw (← e, ne_eqb s.kind 5 f)

  pub no_timeout : s.kind ≡ 5 → s.c ≡ absent → true ≡ wait_later M u
  unfolding wait_later
  no_timeout k a = rw (← e, k, a)

  pub timeout_later : s.kind ≡ 5 → (s.c ≡ absent → ⊥) → (x : Bool) → x ≡ constant_above0 M s.c → x ≡ wait_later M u
  unfolding wait_later
  timeout_later k f x q = rw (← e, k, ne_eqb s.c absent f) q

module _ (M : Model) (s u : StatementRecord) (e : s ≡ u) (set : ℕ) where
  signal_assigned : is_assignment s.kind ≡ true → (later : Bool) (r : ℕ) → later ≡ constant_above0 M s.c
      → SetOf (λ x. in_set set x || (eqb s.a x && not later)) r → SetOf (λ x. in_set set x || (eqb u.a x && without_delay M u)) r
  unfolding without_delay
  signal_assigned k later r q t = record { at = λ x l. t.at x l ∙ rw (← e, k, q) }

  none_assigned : is_assignment s.kind ≡ false → SetOf (λ x. in_set set x || (eqb u.a x && without_delay M u)) set
  unfolding without_delay
  none_assigned k = record { at = λ x l. rw (← e, k, and-false, or-false) }

-- s is statement u, as it was read
module _ (s u : StatementRecord) (e : s ≡ u) (set : ℕ) where
  signals_waited : s.kind ≡ 5 → (r : ℕ) → SetOf (λ x. in_set set x || in_set s.set x) r
      → SetOf (λ x. in_set set x || (eqb u.kind 5 && in_set u.set x)) r
  signals_waited k r t = record { at = λ x l. t.at x l ∙ rw (← e, k) }

  none_waited : (s.kind ≡ 5 → ⊥) → SetOf (λ x. in_set set x || (eqb u.kind 5 && in_set u.set x)) set
  none_waited k = record { at = λ x l. rw (← e, ne_eqb s.kind 5 k, or-false) }

-- what was seen of the statement as it was read: an assignment, a wait, or neither
module _ (M : Model) (s u : StatementRecord) (e : s ≡ u) (old : Sides) where
  pub assignment_seen : is_assignment s.kind ≡ true → (later : Bool) (set : ℕ) → later ≡ constant_above0 M s.c
      → SetOf (λ x. in_set old.assigned x || (eqb s.a x && not later)) set
      → SeenWith M u old (record { assigned = set; waited = old.waited })
  assignment_seen k later set q t =
      record {
        assigned = signal_assigned M s u e old.assigned k later set q t;
        waited = none_waited s u e old.waited (λ w. true≢false (sym k ∙ rw w));
      }

  pub wait_seen : is_assignment s.kind ≡ false → s.kind ≡ 5 → (set : ℕ) → SetOf (λ x. in_set old.waited x || in_set s.set x) set
      → SeenWith M u old (record { assigned = old.assigned; waited = set })
  wait_seen n k set t = record { assigned = none_assigned M s u e old.assigned n; waited = signals_waited s u e old.waited k set t }

  pub nothing_seen : is_assignment s.kind ≡ false → (s.kind ≡ 5 → ⊥) → SeenWith M u old old
  nothing_seen n k = record { assigned = none_assigned M s u e old.assigned n; waited = none_waited s u e old.waited k }

-- what acceptance says of a statement as it was read
module _ (M : Model) (fs : Facts M) (n : ℕ) (h : n < length M.statements) (s : StatementRecord) (e : s ≡ statement_at M n) where
  fits : StatementFits M (owner_of M n) s
  fits = rw e (fs.statement n h).fits

  -- an assignment names a signal and the node of its delay
  assigned : is_assignment s.kind ≡ true → (s.a < length M.signals) × (s.c < length M.nodes)
  assigned k =
      ⊎_elim
      (λ (v : assigns s.kind ≡ true).
      let a = fits.signal_assignment (⊎_elim (λ t. inl (eqb-true _ _ t)) (λ t. inr (eqb-true _ _ t)) (or_cases (eqb s.kind 2) _ v)) in
      (a.signal, a.delay.node))
      (λ (v : eqb s.kind 6 ≡ true). let a = fits.null_assignment (eqb-true _ _ v) in (a.signal, a.delay.node))
      (or_cases (assigns s.kind) _ k)

  pub signal_below : is_assignment s.kind ≡ true → s.a < 32
  signal_below k = omega (arith, (assigned k).0, fs.totals.signals)

  pub delay_there : is_assignment s.kind ≡ true → s.c < length M.nodes
  delay_there k = (assigned k).1

  pub timeout_there : s.kind ≡ 5 → (s.c ≡ absent → ⊥) → s.c < length M.nodes
  timeout_there k f = ((fits.wait k).delay f).node

-- statement i of process p, d being the process as it was read
module _ (M : Model) (fs : Facts M) (p : ℕ) (h : p < length M.processes) (d : ProcessRecord) (e : d ≡ process_at M p) (i : ℕ) (l : i < d.count) where
  within : d.first + d.count ≤ length M.statements
  within = rw e (fs.process p h).within

  pub statement_there : d.first + i < length M.statements
  statement_there = omega (arith, within)

  pub place_fits : Fits w64 (d.first + i)
  place_fits = omega (arith, within, fs.totals.statements)

  pub turn_fits : Fits w64 (i + 1)
  turn_fits = omega (arith, within, fs.totals.statements)

-- signal x passes the test with one of the first n statements of process p
unfoldable pub some_in : Model → ℕ → (ℕ → StatementRecord → Bool) → ℕ → ℕ → Bool
some_in M p test n x = any_below (λ i. test x (statement_at M ((process_at M p).first + i))) n

module _ (M : Model) (p : ℕ) (test : ℕ → StatementRecord → Bool) where
  none_in : SetOf (some_in M p test 0) 0
  unfolding some_in
  none_in = record { at = λ x l. in_none x ∙ sym (any_start _) }

  one_in : (d : ProcessRecord) → d ≡ process_at M p → (i set r : ℕ) → SetOf (some_in M p test i) set
      → SetOf (λ x. in_set set x || test x (statement_at M (d.first + i))) r → SetOf (some_in M p test (i + 1)) r
  unfolding some_in
  one_in d e i set r s t =
      record { at = λ x l. t.at x l ∙ rw (s.at x l, e) (sym (any_next (λ i. test x (statement_at M ((process_at M p).first + i))) i)) }

  all_in : (d : ProcessRecord) → d ≡ process_at M p → (i r : ℕ) → i ≤ d.count → d.count ≤ i → SetOf (some_in M p test i) r
      → SetOf (λ x. some_of M p (test x)) r
  unfolding some_in some_of
  all_in d e i r h g t = let same : i ≡ d.count = le_antisymm h g in rw (same, e) at t

module _ (M : Model) (p : ℕ) where
  -- the sets of the first i statements of the process
  pub record Seen (d : ProcessRecord) (i : ℕ) (r : Sides) : Type 0 where
    pub most : i ≤ d.count
    pub assigned : SetOf (some_in M p (λ x s. eqb s.a x && without_delay M s) i) r.assigned
    pub waited : SetOf (some_in M p (λ x s. eqb s.kind 5 && in_set s.set x) i) r.waited

  module _ (d : ProcessRecord) (e : d ≡ process_at M p) where
    pub none_seen : Seen d 0 (record { assigned = 0; waited = 0 })
    none_seen = record { most = omega arith; assigned = none_in M p _; waited = none_in M p _ }

    pub one_seen : (i : ℕ) (old new : Sides) → i < d.count → Seen d i old → SeenWith M (statement_at M (d.first + i)) old new → Seen d (i + 1) new
    one_seen i old new h s t =
        record {
          most = omega arith;
          assigned = one_in M p _ d e i old.assigned new.assigned s.assigned t.assigned;
          waited = one_in M p _ d e i old.waited new.waited s.waited t.waited;
        }

    pub all_seen : (i : ℕ) (r : Sides) → d.count ≤ i → Seen d i r → SidesOf M p r
    unfolding assigns_soon waits_on
    all_seen i r g s =
        record {
          assigned = all_in M p (λ x s. eqb s.a x && without_delay M s) d e i r.assigned s.most g s.assigned;
          waited = all_in M p (λ x s. eqb s.kind 5 && in_set s.set x) d e i r.waited s.most g s.waited;
        }
