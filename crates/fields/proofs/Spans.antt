-- The laws of process spans: each statement lies in the span of one process, its owner. Assumes nothing.
use mathlib.Core.Path.{◌≡◌}
use mathlib.Core.Bool.{Bool, true}
use mathlib.Core.Logic.{⊎_elim}
use Prim.Native.Nat.{ℕ, zero, suc, ◌-◌, ◌≤◌, ◌<◌}
use native.Mathlib.Nat.{not-suc-le-zero, eq-or-lt_of_le, le_of_suc-le-suc}
use native.Mathlib.Omega.{arith}
use borrow.Author.Tests.{eqb-true, leb-true, ltb-true, ltb-false, lt-ltb, le-ltb}
use lib.Dec.{ltb}
use lib.ListN.{length}
use Rattle.base.specs.Course.{first_with}
use Rattle.base.proofs.Below.{every_at, all_at, split}
use Rattle.base.proofs.Course.{first_found, first_at, first_before}
use Rattle.blocks.specs.Records.{Model, process_at}
use Rattle.fields.specs.Fields.{end_of, due_start, process_ok, covered, owner_of, fields_ok}
use Rattle.fields.specs.Facts.{Spans, ProcessFits}

module _ (M : Model) (ok : fields_ok M ≡ true) where
  process_ok_lem : (p : ℕ) → p < length M.processes → process_ok M p ≡ true
  unfolding fields_ok
  process_ok_lem p h = all_at (process_ok M) _ p h (every_at _ 2 ok)

  starts : (p : ℕ) → p < length M.processes → (process_at M p).first ≡ due_start M p
  unfolding process_ok
  starts p h = eqb-true _ _ (every_at _ 0 (process_ok_lem p h))

  some : (p : ℕ) → p < length M.processes → 1 ≤ (process_at M p).count
  unfolding process_ok
  some p h = leb-true 1 _ (every_at _ 1 (process_ok_lem p h))

  all_covered : end_of M (length M.processes - 1) ≡ length M.statements
  unfolding fields_ok covered
  all_covered = eqb-true _ _ (every_at _ 3 ok)

  -- a process ends before a later one starts
  ends : (p q : ℕ) → p < q → q < length M.processes → end_of M p ≤ (process_at M q).first
  ends p zero l h = absurd (not-suc-le-zero l)
  ends p (suc q) l h =
      let e : (process_at M (suc q)).first ≡ end_of M q = starts (suc q) h in
      ⊎_elim (λ (k : p ≡ q). rw k (omega arith)) (λ (k : p < q). omega (arith, ends p q k (omega arith))) (eq-or-lt_of_le (le_of_suc-le-suc l))

  within : (p : ℕ) → p < length M.processes → end_of M p ≤ length M.statements
  within p h =
      let last : ℕ = length M.processes - 1 in
      ⊎_elim (λ (k : p < last). omega (arith, ends p last k (omega arith), all_covered))
      (λ (k : last ≤ p). let e : p ≡ length M.processes - 1 = omega arith in rw e (omega (arith, all_covered)))
      (split p last)

  owner : (p : ℕ) → p < length M.processes → (i : ℕ) → Spans M p i → owner_of M i ≡ p
  unfolding owner_of
  owner p h i s =
      first_found (λ k. ltb i (end_of M k)) (length M.processes) p h
      (λ k l. le-ltb i (end_of M k) (omega (arith, ends k p l h, s.from)))
      (lt-ltb i (end_of M p) s.below)

  pub process_fits : (p : ℕ) → p < length M.processes → ProcessFits M p
  process_fits p h =
      record {
        some = some p h;
        within = within p h;
        owner = owner p h;
        first = record { from = omega arith; below = omega (arith, some p h) };
        next = λ i s l. record { from = omega (arith, s.from); below = l };
      }

  pub owner_below : (n : ℕ) → n < length M.statements → 1 ≤ length M.processes → owner_of M n < length M.processes
  unfolding owner_of
  owner_below n h l =
      let test : ℕ → Bool = λ k. ltb n (end_of M k) in
      ⊎_elim (λ (k : first_with test (length M.processes) < length M.processes). k)
      (λ (k : length M.processes ≤ first_with test (length M.processes)).
      absurd (omega (arith, ltb-false n (end_of M (length M.processes - 1)) (first_before test (length M.processes) (length M.processes - 1) (omega arith)), all_covered)))
      (split (first_with test (length M.processes)) (length M.processes))

  -- where process p starts, statement n, past the end of each process before p, has been reached
  from : (p n : ℕ) → p < length M.processes → ((k : ℕ) → k < p → end_of M k ≤ n) → (process_at M p).first ≤ n
  from zero n h l = omega (arith, starts zero h)
  from (suc p) n h l = omega (arith, starts (suc p) h, l p (omega arith))

  pub owner_spans : (n : ℕ) → owner_of M n < length M.processes → Spans M (owner_of M n) n
  unfolding owner_of
  owner_spans n h =
      let test : ℕ → Bool = λ k. ltb n (end_of M k) in
      record {
        from = from _ n h (λ k l. ltb-false n (end_of M k) (first_before test (length M.processes) k l));
        below = ltb-true n _ (first_at test (length M.processes) h);
      }
