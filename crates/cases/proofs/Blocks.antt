-- Rules 2 and 3 block by block: a test of block n + 1 is the test of block n behind the first block. Bytes whose blocks pass, and which
-- are read as an accepted model, are accepted. Assumes nothing.
use mathlib.Core.Path.{◌≡◌, refl, ap, fun_ext}
use mathlib.Core.Bool.{Bool, true, ◌&&◌}
use mathlib.Core.List.{List, [], ◌∷◌, ◌++◌, flatten}
use Prim.Native.Nat.{ℕ, zero, suc, ◌+◌, ◌-◌, ◌*◌, ◌%◌}
use native.Mathlib.Omega.{arith}
use borrow.Author.Tests.{eqb-true}
use lib.Dec.{eqb, leb}
use lib.ListN.{length}
use lib.Seq.{get_or-append-add}
use Rattle.base.specs.Below.{all_below, sum_below, every}
use Rattle.base.specs.Bytes.{byte_at, word_at}
use Rattle.base.specs.Rules.{first_failing}
use Rattle.base.proofs.Below.{and_left, and_right, every_at}
use Rattle.blocks.specs.Blocks.{blocks_of, length_ok, block_sum, sum_ok, sums_ok, kind_at, count_at, trailing_at, trailing_ok, head_ok, heads_ok}
use Rattle.blocks.specs.Records.{Model, model_of}
use Rattle.blocks.specs.Totals.{block_rules}
use Rattle.tables.specs.Tables.{table_rules}
use Rattle.model.specs.Rules.{record_rules, rules_of, refusal_of, Accepted}

all_first : (f : ℕ → Bool) (n : ℕ) → f 0 ≡ true → all_below (λ i. f (suc i)) n ≡ true → all_below f (suc n) ≡ true
unfolding all_below
all_first f zero h t = h
all_first f (suc n) h t =
    rw (all_first f n h (and_left _ _ t), and_right (all_below (λ i. f (suc i)) n) (f (suc n)) t)

-- the first n blocks pass
record Pass (m : List ℕ) (n : ℕ) : Type 0 where
  pub sums : all_below (sum_ok m) n ≡ true
  pub trailing : all_below (trailing_ok m) n ≡ true

-- b is a block, and passes
record Block (b m : List ℕ) : Type 0 where
  pub size : length b ≡ 512
  pub sum : sum_ok (b ++ m) 0 ≡ true
  pub trailing : trailing_ok (b ++ m) 0 ≡ true

module _ (b m : List ℕ) (is : Block b m) where
  byte_behind : (i j : ℕ) → j ≡ 512 + i → byte_at (b ++ m) j ≡ byte_at m i
  byte_behind i j e = rw (e, ← is.size, get_or-append-add)

  sum_behind : (n : ℕ) → sum_ok (b ++ m) (suc n) ≡ sum_ok m n
  unfolding sum_ok block_sum
  sum_behind n =
      ap (λ (f : ℕ → ℕ). eqb (sum_below f 256 % 65536) 1)
      (fun_ext (λ i. cc (byte_behind (512 * n + 2 * i) (512 * suc n + 2 * i) (omega arith), byte_behind (512 * n + 2 * i + 1) (512 * suc n + 2 * i + 1) (omega arith))))

  trailing_behind : (n : ℕ) → trailing_ok (b ++ m) (suc n) ≡ trailing_ok m n
  unfolding trailing_ok trailing_at
  trailing_behind n =
      ap (λ (f : ℕ → Bool). all_below f 510)
      (fun_ext (λ i. cc (byte_behind (512 * n + 3) (512 * suc n + 3) (omega arith), byte_behind (512 * n + i) (512 * suc n + i) (omega arith))))

  -- one block more in front
  in_front : (n : ℕ) → Pass m n → Pass (b ++ m) (suc n)
  in_front n p =
      record {
        sums = all_first (sum_ok (b ++ m)) n is.sum (rw (fun_ext sum_behind) p.sums);
        trailing = all_first (trailing_ok (b ++ m)) n is.trailing (rw (fun_ext trailing_behind) p.trailing);
      }

-- each of some blocks passes
abbrev Blocks : List (List ℕ) → Type 0
Blocks [] = Unit {0}
Blocks (b ∷ bs) = Block b (flatten bs) × Blocks bs

all_pass : (bs : List (List ℕ)) → Blocks bs → Pass (flatten bs) (length bs)
unfolding all_below flatten
all_pass [] is = record { sums = refl; trailing = refl }
all_pass (b ∷ bs) is = in_front b (flatten bs) is.0 (length bs) (all_pass bs is.1)

-- the same as one test
abbrev pub passing : List (List ℕ) → Bool
passing [] = true
passing (b ∷ bs) = every (eqb (length b) 512 ∷ sum_ok (b ++ flatten bs) 0 ∷ trailing_ok (b ++ flatten bs) 0 ∷ []) && passing bs

each_passes : (bs : List (List ℕ)) → passing bs ≡ true → Blocks bs
each_passes [] h = tt
each_passes (b ∷ bs) h =
    let tests : List Bool = eqb (length b) 512 ∷ sum_ok (b ++ flatten bs) 0 ∷ trailing_ok (b ++ flatten bs) 0 ∷ [] in
    let t : every tests ≡ true = and_left (every tests) (passing bs) h in (
      record { size = eqb-true (length b) 512 (every_at tests 0 t); sum = every_at tests 1 t; trailing = every_at tests 2 t },
      each_passes bs (and_right (every tests) (passing bs) h),
    )

-- what rule 3 says of a block but for its trailing zeros
abbrev pub numbers_ok : List ℕ → ℕ → Bool
numbers_ok m b =
    every
    (eqb (word_at m (512 * b)) b
    ∷ leb 1 (kind_at m b)
    ∷ leb (kind_at m b) 7
    ∷ leb (count_at m b) 42
    ∷ leb (kind_at m (b - 1)) (kind_at m b)
    ∷ [])

heads_hold : (m : List ℕ) (n : ℕ) → all_below (numbers_ok m) n ≡ true → all_below (trailing_ok m) n ≡ true → all_below (head_ok m) n ≡ true
unfolding all_below head_ok every
heads_hold m zero h t = refl
heads_hold m (suc n) h t =
    rw (
      heads_hold m n (and_left (all_below (numbers_ok m) n) (numbers_ok m n) h) (and_left (all_below (trailing_ok m) n) (trailing_ok m n) t),
      and_right (all_below (numbers_ok m) n) (numbers_ok m n) h,
      and_right (all_below (trailing_ok m) n) (trailing_ok m n) t,
    )

-- no rule of the model applies
pub accepted_bytes : (bs : List (List ℕ)) (M : Model) → passing bs ≡ true → length_ok (flatten bs) ≡ true → blocks_of (flatten bs) ≡ length bs
    → all_below (numbers_ok (flatten bs)) (length bs) ≡ true → model_of (flatten bs) ≡ M → Accepted M → refusal_of (flatten bs) ≡ 0
unfolding refusal_of rules_of block_rules record_rules table_rules first_failing sums_ok heads_ok
accepted_bytes bs M passes size counted numbers read rules =
    let pass = all_pass bs (each_passes bs passes) in
    rw (
      size,
      counted,
      pass.sums,
      heads_hold (flatten bs) (length bs) numbers pass.trailing,
      read,
      rules.totals,
      rules.fields,
      rules.trees,
      rules.types,
      rules.owners,
      rules.nulls,
      rules.symmetric,
      rules.associative,
    )
