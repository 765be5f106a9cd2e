-- A model without a delay of 0 never reads an earlier value: its expressions, statements and orders do not depend on them.
-- Assumes nothing.
use mathlib.Core.Path.{◌≡◌, refl, sym, ap, ◌∙◌}
use mathlib.Core.Logic.{⊎_elim}
use mathlib.Core.Bool.{not}
use mathlib.Core.List.{List, []}
use mathlib.Core.Option.{Option, none, some}
use Prim.Native.Nat.{ℕ, zero, suc, ◌≤◌, ◌<◌}
use native.Mathlib.Omega.{arith}
use lib.Dec.{ltb, leb}
use lib.ListN.{length, get_or-eq_default}
use borrow.Author.Tests.{ne_eqb}
use Rattle.base.specs.Below.{any_below}
use Rattle.base.proofs.Cases.{choices_by}
use Rattle.base.proofs.Below.{split}
use Rattle.base.proofs.Course.{course_same}
use Rattle.sets.specs.Sets.{in_set}
use Rattle.blocks.specs.Records.{Model, node_at, statement_at}
use Rattle.blocks.specs.declared.records.StatementRecord.{StatementRecord}
use Rattle.trees.specs.Trees.{type_of}
use Rattle.rules.specs.Configuration.{Configuration, process_in, last_time, delta_limit}
use Rattle.rules.specs.Evaluation.{environment_of, next_value, eval_of}
use Rattle.rules.specs.Statements.{effect_by, effect_of, applied, stepped}
use Rattle.rules.specs.Steps.{signal_after, signals_after, earlier_after, woken_at, process_after_delta, delta_step, time_step}
use Rattle.rules.specs.Orders.{Outcome, is_ready, is_stopped, pick_done, picked, due_times, earliest, due_now, advance_done, advancing, delta_order, time_order, delta_stepped, time_stepped, lowest_ready, Settled, settled_from, settle_done, settled, set_bits, some_member, stepped_below, set_done, picked_set, read_of}
use Rattle.rules.specs.Delays.{NoDelayOfZero, former_environment, without_earlier}
use Rattle.rules.proofs.Evaluation.{read_same}

module _ (M : Model) (free : NoDelayOfZero M) (vs : List ℕ) (ss : List (List ℕ)) (es : List ℕ) where
  -- no node at all, there or not
  no_zero : (n : ℕ) → (node_at M n).kind ≡ 5 → (node_at M n).k ≡ 0 → ⊥
  no_zero n k =
      ⊎_elim (λ (l : n < length M.nodes). free n l k)
      (λ (l : length M.nodes ≤ n) z. let none : 0 ≡ 5 = rw (get_or-eq_default M.nodes _ l) at k in omega arith)
      (split n (length M.nodes))

  -- a value is that of document 01
  pub former_value : (n : ℕ) → eval_of M (environment_of vs ss es) n ≡ eval_of M (former_environment vs ss) n
  unfolding eval_of next_value
  former_value =
      course_same (next_value M (environment_of vs ss es)) (next_value M (former_environment vs ss))
      (λ n values. read_same n (node_at M n) (type_of M n) _ _ _ _
      (record { variable = λ k. refl; current = λ k. refl; delayed = λ k. rw (ne_eqb (node_at M n).k 0 (no_zero n k)) }))

-- the outcome of an order, but for the earlier values of the configuration after it
abbrev pub bare : Outcome → Outcome
bare o = record { refusal = o.refusal; byte = o.byte; picks = o.picks; value = o.value; after = without_earlier o.after }

-- a delta step and a time step look at no earlier value
module _ (M : Model) (c : Configuration) where
  abbrev c₀ : Configuration
  c₀ = without_earlier c

  pub delta_bare : delta_step M c ≡ delta_step M c₀
  unfolding delta_step signals_after signal_after earlier_after process_after_delta woken_at
  delta_bare = refl

  delta_order_bare : bare (delta_order M c) ≡ bare (delta_order M c₀)
  delta_order_bare =
      choices_by bare (leb delta_limit c.deltas) _ _ _ _ (λ b. refl) (λ b. ap (λ (d : Configuration). bare (advance_done 1 d)) delta_bare)

  time_bare : (t : Option ℕ) → bare (time_order t c) ≡ bare (time_order t c₀)
  unfolding time_step
  time_bare none = refl
  time_bare (some t) = choices_by bare (ltb last_time t) _ _ _ _ (λ b. refl) (λ b. refl)

  advancing_bare : (r r₀ : Outcome) → bare r ≡ bare r₀ → bare (advancing M c r) ≡ bare (advancing M c₀ r₀)
  unfolding is_ready is_stopped
  advancing_bare r r₀ e =
      choices_by bare (any_below (λ p. is_ready p c) (length M.processes)) _ _ _ _ (λ b. refl)
      (λ b. choices_by bare (any_below (λ p. is_stopped p c) (length M.processes)) _ _ _ _ (λ b. refl) (λ b. e))

  pub delta_step_bare : bare (delta_stepped M c) ≡ bare (delta_stepped M c₀)
  unfolding delta_stepped due_now
  delta_step_bare = advancing_bare _ _ (choices_by bare (not (due_now M c)) _ _ _ _ (λ b. refl) (λ b. delta_order_bare))

  pub time_step_bare : bare (time_stepped M c) ≡ bare (time_stepped M c₀)
  unfolding time_stepped due_now due_times
  time_step_bare = advancing_bare _ _ (choices_by bare (due_now M c) _ _ _ _ (λ b. refl) (λ b. time_bare (earliest (due_times M c))))

  pub read_bare : (s : ℕ) → bare (read_of M s c) ≡ bare (read_of M s c₀)
  unfolding read_of
  read_bare s = choices_by bare (leb (length M.signals) s) _ _ _ _ (λ b. refl) (λ b. refl)

-- nor does a pick, where no node is delayed by 0
module _ (M : Model) (free : NoDelayOfZero M) where
  value_bare : (vs : List ℕ) (ss : List (List ℕ)) (es es' : List ℕ) (n : ℕ) → eval_of M (environment_of vs ss es) n ≡ eval_of M (environment_of vs ss es') n
  value_bare vs ss es es' n = former_value M free vs ss es n ∙ sym (former_value M free vs ss es' n)

  effect_bare : (c : Configuration) (p : ℕ) → effect_of M c p ≡ effect_of M (without_earlier c) p
  unfolding effect_of effect_by
  effect_bare c p =
      let s : StatementRecord = statement_at M (process_in c.processes p).place in
      let same : (n : ℕ) → _ = value_bare c.variables c.signals c.earlier [] in
      rw (same s.b, same s.c)

  pub step_bare : (c : Configuration) (p : ℕ) → without_earlier (stepped M p c) ≡ without_earlier (stepped M p (without_earlier c))
  unfolding stepped applied
  step_bare c p = rw (effect_bare c p)

  pub pick_bare : (c : Configuration) (p : ℕ) → bare (picked M p c) ≡ bare (picked M p (without_earlier c))
  unfolding picked is_ready
  pick_bare c p =
      choices_by bare (leb (length M.processes) p) _ _ _ _ (λ b. refl)
      (λ b. choices_by bare (not (is_ready p c)) _ _ _ _ (λ b. refl) (λ b. ap (λ (d : Configuration). bare (pick_done p d)) (step_bare c p)))

  -- what a settle comes to, but for the earlier values
  abbrev bare_settled : Settled → Settled
  bare_settled s = record { picks = s.picks; end = without_earlier s.end }

  settled_bare : (n k : ℕ) (c : Configuration) → bare_settled (settled_from M k n c) ≡ bare_settled (settled_from M k n (without_earlier c))
  unfolding settled_from lowest_ready is_ready
  settled_bare zero k c = refl
  settled_bare (suc n) k c =
      let p : ℕ = lowest_ready M c in
      choices_by bare_settled (ltb p (length M.processes)) _ _ _ _
      (λ b. settled_bare n (suc k) (stepped M p c)
      ∙ ap (λ (d : Configuration). bare_settled (settled_from M (suc k) n d)) (step_bare c p)
      ∙ sym (settled_bare n (suc k) (stepped M p (without_earlier c))))
      (λ b. refl)

  pub settle_bare : (n : ℕ) (c : Configuration) → bare (settled M n c) ≡ bare (settled M n (without_earlier c))
  unfolding settled lowest_ready is_ready
  settle_bare n c = ap (λ (s : Settled). settle_done M s) (settled_bare n 0 c)

  -- of a set, those below n
  members_bare : (set n : ℕ) (c : Configuration) → without_earlier (stepped_below M set n c) ≡ without_earlier (stepped_below M set n (without_earlier c))
  unfolding stepped_below
  members_bare set zero c = refl
  members_bare set (suc n) c =
      choices_by without_earlier (in_set set n) _ _ _ _
      (λ b. step_bare (stepped_below M set n c) n
      ∙ ap (λ (d : Configuration). without_earlier (stepped M n d)) (members_bare set n c)
      ∙ sym (step_bare (stepped_below M set n (without_earlier c)) n))
      (λ b. members_bare set n c)

  pub pick_set_bare : (set : ℕ) (c : Configuration) → bare (picked_set M set c) ≡ bare (picked_set M set (without_earlier c))
  unfolding picked_set is_ready is_stopped
  pick_set_bare set c =
      choices_by bare (some_member (leb (length M.processes)) set) _ _ _ _ (λ b. refl)
      (λ b. choices_by bare (some_member (λ p. not (is_ready p c)) set) _ _ _ _ (λ b. refl)
      (λ b. ap (λ (d : Configuration). bare (set_done set d)) (members_bare set set_bits c)))
