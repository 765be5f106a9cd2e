-- The bytes of blocks that hold pages, one block behind the other: each block passes the rules of blocks.
-- Assumes nothing.
use mathlib.Core.Path.{◌≡◌, refl, ap, ap₂, ◌∙◌}
use mathlib.Core.Bool.{true}
use mathlib.Core.List.{List, [], ◌∷◌, ◌++◌}
use mathlib.Core.Logic.{⊎_elim}
use Prim.Native.Nat.{ℕ, zero, suc, ◌+◌, ◌*◌, ◌/◌, ◌%◌, ◌-◌, ◌≤◌, ◌<◌}
use native.Mathlib.Omega.{arith}
use borrow.Author.Tests.{lt-ltb, le-leb, eq-eqb, ne_eqb}
use lib.Dec.{ltb}
use lib.ListN.{length, get_or, get_or-append, get_or-eq_default}
use lib.Seq.{get_or-append-add}
use Rattle.base.specs.Below.{sum_below, list_below, every}
use Rattle.base.specs.Bytes.{byte_at, word_at}
use Rattle.base.proofs.Below.{split, or_second, all_of, sum_more, list_none, list_first, list_length, list_at}
use Rattle.blocks.specs.Blocks.{blocks_of, block_sum, sum_ok, sums_ok, kind_at, count_at, trailing_at, trailing_ok, head_ok, heads_ok}
use Rattle.packing.specs.Packed.{Page, block_byte, words_of, last_word, block_of, blocks_from}
use Rattle.packing.proofs.BlockLaws.{sum_same}
use Rattle.packing.proofs.PageLaws.{length_block, length_blocks}
use Rattle.writing.specs.Written.{word_bytes}

-- a page of whole records, as many as a block has room for, of one of the kinds
pub record PageFits (p : Page) : Type 0 where
  pub low : 1 ≤ p.kind
  pub high : p.kind ≤ 7
  pub short : length p.bytes ≤ 504
  pub whole : length p.bytes ≡ 12 * (length p.bytes / 12)

-- such pages, whose kinds do not fall, from a kind on
abbrev pub Ordered : ℕ → List Page → Type 0
Ordered lo [] = Unit {0}
Ordered lo (p ∷ ps) = (lo ≤ p.kind) × PageFits p × Ordered p.kind ps

abbrev pub page_at : List Page → ℕ → Page
page_at ps j = get_or ps j (record { kind = 0; bytes = [] })

pub ordered_from : {lo k : ℕ} (ps : List Page) → lo ≤ k → Ordered k ps → Ordered lo ps
ordered_from [] h o = tt
ordered_from (p ∷ ps) h o = (omega (arith, o.0), o.1, o.2)

-- pages of one kind, and then those of higher ones
pub ordered_kind : (f : ℕ → Page) (k lo n : ℕ) (qs : List Page) → lo ≤ k → ((j : ℕ) → j < n → ((f j).kind ≡ k) × PageFits (f j)) → Ordered k qs → Ordered lo (list_below f n ++ qs)
ordered_kind f k lo zero qs h e o = rw (list_none f) (ordered_from qs h o)
ordered_kind f k lo (suc n) qs h e o =
    let (same, fits) = e 0 (omega arith) in
    rw (list_first f n) (omega (arith, same), fits, ordered_kind (λ j. f (suc j)) k (f 0).kind n qs (omega (arith, same)) (λ j l. e (suc j) (omega arith)) o)

pub fits_at : (lo : ℕ) (ps : List Page) → Ordered lo ps → (j : ℕ) → j < length ps → PageFits (page_at ps j)
fits_at lo [] o j h = absurd (omega arith)
fits_at lo (p ∷ ps) o zero h = o.1
fits_at lo (p ∷ ps) o (suc j) h = fits_at p.kind ps o.2 j (omega arith)

kind_first : (lo : ℕ) (ps : List Page) → Ordered lo ps → 0 < length ps → lo ≤ (page_at ps 0).kind
kind_first lo [] o h = absurd (omega arith)
kind_first lo (p ∷ ps) o h = o.0

kind_next : (lo : ℕ) (ps : List Page) → Ordered lo ps → (j : ℕ) → suc j < length ps → (page_at ps j).kind ≤ (page_at ps (suc j)).kind
kind_next lo [] o j h = absurd (omega arith)
kind_next lo (p ∷ ps) o zero h = kind_first p.kind ps o.2 (omega arith)
kind_next lo (p ∷ ps) o (suc j) h = kind_next p.kind ps o.2 j (omega arith)

kind_rises : (lo : ℕ) (ps : List Page) → Ordered lo ps → (j : ℕ) → j < length ps → (page_at ps (j - 1)).kind ≤ (page_at ps j).kind
kind_rises lo ps o zero h = omega arith
kind_rises lo ps o (suc j) h = let e : suc j - 1 ≡ j = omega arith in rw e (kind_next lo ps o j h)

-- the bytes of a block
module _ (b : ℕ) (p : Page) where
  block_at : (i : ℕ) → i < 510 → byte_at (block_of b p) i ≡ block_byte b p i
  unfolding block_of
  block_at i h =
      let g : i < length (list_below (block_byte b p) 510) = rw (list_length (block_byte b p) 510) h in
      get_or-append (list_below (block_byte b p) 510) (word_bytes (last_word b p)) 0 i g ∙ list_at (block_byte b p) 0 510 i h

  last_at : (k i : ℕ) → i ≡ 510 + k → byte_at (block_of b p) i ≡ byte_at (word_bytes (last_word b p)) k
  unfolding block_of
  last_at k i h =
      let e : i ≡ length (list_below (block_byte b p) 510) + k = omega (arith, list_length (block_byte b p) 510) in
      rw e (get_or-append-add (list_below (block_byte b p) 510) (word_bytes (last_word b p)) k 0)

  last_low : byte_at (block_of b p) 510 ≡ last_word b p % 256
  unfolding word_bytes
  last_low = last_at 0 510 (omega arith)

  last_high : byte_at (block_of b p) 511 ≡ last_word b p / 256
  unfolding word_bytes
  last_high = last_at 1 511 (omega arith)

  byte_number : block_byte b p 0 ≡ b % 256
  unfolding block_byte
  byte_number = refl

  byte_more : block_byte b p 1 ≡ b / 256
  unfolding block_byte
  byte_more = refl

  byte_kind : block_byte b p 2 ≡ p.kind
  unfolding block_byte
  byte_kind = refl

  byte_count : block_byte b p 3 ≡ length p.bytes / 12
  unfolding block_byte
  byte_count = refl

  pub byte_rest : (i k : ℕ) → i ≡ 4 + k → block_byte b p i ≡ byte_at p.bytes k
  unfolding block_byte
  byte_rest i k h =
      let e : i - 4 ≡ k = omega arith in
      rw (ne_eqb i 0 (λ z. omega arith), ne_eqb i 1 (λ z. omega arith), ne_eqb i 2 (λ z. omega arith), ne_eqb i 3 (λ z. omega arith), e)

blocks_byte : (b : ℕ) (ps : List Page) (j i : ℕ) → j < length ps → i < 512 → byte_at (blocks_from b ps) (512 * j + i) ≡ byte_at (block_of (b + j) (page_at ps j)) i
unfolding blocks_from
blocks_byte b [] j i h l = absurd (omega arith)
blocks_byte b (p ∷ ps) zero i h l =
    let e : 512 * 0 + i ≡ i = omega arith in
    let n : b + 0 ≡ b = omega arith in
    let g : i < length (block_of b p) = rw (length_block b p) l in
    rw (e, n) (get_or-append (block_of b p) (blocks_from (b + 1) ps) 0 i g)
blocks_byte b (p ∷ ps) (suc j) i h l =
    let e : 512 * suc j + i ≡ length (block_of b p) + (512 * j + i) = omega (arith, length_block b p) in
    let n : b + suc j ≡ b + 1 + j = omega arith in
    rw (e, n) (get_or-append-add (block_of b p) (blocks_from (b + 1) ps) (512 * j + i) 0 ∙ blocks_byte (b + 1) ps j i (omega arith) l)

-- all blocks of pages that are in order
module _ (ps : List Page) where
  pub how_many : blocks_of (blocks_from 0 ps) ≡ length ps
  how_many = omega (arith, length_blocks 0 ps)

  module _ (j : ℕ) (h : j < length ps) where
    byte_of : (i at : ℕ) → at ≡ 512 * j + i → i < 512 → byte_at (blocks_from 0 ps) at ≡ byte_at (block_of j (page_at ps j)) i
    byte_of i at e l =
        let n : 0 + j ≡ j = omega arith in
        rw e (blocks_byte 0 ps j i h l ∙ ap (λ k. byte_at (block_of k (page_at ps j)) i) n)

    pub byte_in : (i at : ℕ) → at ≡ 512 * j + i → i < 510 → byte_at (blocks_from 0 ps) at ≡ block_byte j (page_at ps j) i
    byte_in i at e l = byte_of i at e (omega arith) ∙ block_at j (page_at ps j) i l

    number_is : word_at (blocks_from 0 ps) (512 * j) ≡ j
    number_is =
        rw (byte_in 0 (512 * j) (omega arith) (omega arith), byte_in 1 (512 * j + 1) (omega arith) (omega arith), byte_number j (page_at ps j), byte_more j (page_at ps j)) (omega arith)

    pub kind_is : kind_at (blocks_from 0 ps) j ≡ (page_at ps j).kind
    kind_is = byte_in 2 (512 * j + 2) refl (omega arith) ∙ byte_kind j (page_at ps j)

    pub count_is : count_at (blocks_from 0 ps) j ≡ length (page_at ps j).bytes / 12
    count_is = byte_in 3 (512 * j + 3) refl (omega arith) ∙ byte_count j (page_at ps j)

    -- the sum of the words is 1
    words_are : sum_below (λ i. word_at (blocks_from 0 ps) (512 * j + 2 * i)) 255 ≡ words_of j (page_at ps j)
    unfolding words_of
    words_are =
        sum_same _ _ 255 (λ i l. ap₂ (λ x y. x + 256 * y) (byte_in (2 * i) (512 * j + 2 * i) refl (omega arith)) (byte_in (2 * i + 1) (512 * j + 2 * i + 1) (omega arith) (omega arith)))

    last_is : word_at (blocks_from 0 ps) (512 * j + 2 * 255) ≡ last_word j (page_at ps j)
    last_is =
        rw (byte_of 510 (512 * j + 2 * 255) (omega arith) (omega arith), byte_of 511 (512 * j + 2 * 255 + 1) (omega arith) (omega arith), last_low j (page_at ps j), last_high j (page_at ps j))
        (omega arith)

    sum_is : block_sum (blocks_from 0 ps) j ≡ words_of j (page_at ps j) + last_word j (page_at ps j)
    unfolding block_sum
    sum_is = sum_more (λ i. word_at (blocks_from 0 ps) (512 * j + 2 * i)) 255 ∙ ap₂ ◌+◌ words_are last_is

    sum_one : block_sum (blocks_from 0 ps) j % 65536 ≡ 1
    unfolding last_word
    sum_one = rw sum_is (omega arith)

    pub sum_good : sum_ok (blocks_from 0 ps) j ≡ true
    unfolding sum_ok
    sum_good = eq-eqb (block_sum (blocks_from 0 ps) j % 65536) 1 sum_one

    -- what lies past the records is zero
    module _ (fits : PageFits (page_at ps j)) where
      trailing_zero : (i : ℕ) → i < 510 → trailing_at (blocks_from 0 ps) j i ≡ true
      unfolding trailing_at
      trailing_zero i l =
          ⊎_elim
          (λ (a : i < 4 + 12 * count_at (blocks_from 0 ps) j). rw (lt-ltb i (4 + 12 * count_at (blocks_from 0 ps) j) a))
          (λ (a : 4 + 12 * count_at (blocks_from 0 ps) j ≤ i).
          let k : length (page_at ps j).bytes ≤ i - 4 = omega (arith, count_is, fits.whole) in
          let e : i ≡ 4 + (i - 4) = omega arith in
          let z : byte_at (blocks_from 0 ps) (512 * j + i) ≡ 0 =
          byte_in i (512 * j + i) refl l ∙ byte_rest j (page_at ps j) i (i - 4) e ∙ get_or-eq_default (page_at ps j).bytes 0 k in
          or_second (ltb i (4 + 12 * count_at (blocks_from 0 ps) j)) _ (eq-eqb (byte_at (blocks_from 0 ps) (512 * j + i)) 0 z))
          (split i (4 + 12 * count_at (blocks_from 0 ps) j))

      trailing_good : trailing_ok (blocks_from 0 ps) j ≡ true
      unfolding trailing_ok
      trailing_good = all_of (trailing_at (blocks_from 0 ps) j) 510 trailing_zero

      head_good : (last : ℕ) → kind_at (blocks_from 0 ps) (j - 1) ≡ last → last ≤ (page_at ps j).kind → head_ok (blocks_from 0 ps) j ≡ true
      unfolding head_ok every
      head_good last before rises =
          let number = eq-eqb (word_at (blocks_from 0 ps) (512 * j)) j number_is in
          let low = le-leb 1 (kind_at (blocks_from 0 ps) j) (omega (arith, kind_is, fits.low)) in
          let high = le-leb (kind_at (blocks_from 0 ps) j) 7 (omega (arith, kind_is, fits.high)) in
          let count = le-leb (count_at (blocks_from 0 ps) j) 42 (omega (arith, count_is, fits.short)) in
          let risen = le-leb (kind_at (blocks_from 0 ps) (j - 1)) (kind_at (blocks_from 0 ps) j) (omega (arith, kind_is, before, rises)) in
          rw (number, low, high, count, risen, trailing_good)

-- so the rules of sums and heads hold
module _ (ps : List Page) (o : Ordered 0 ps) where
  pub sums_good : sums_ok (blocks_from 0 ps) ≡ true
  unfolding sums_ok
  sums_good = rw (how_many ps) (all_of (sum_ok (blocks_from 0 ps)) (length ps) (λ j l. sum_good ps j l))

  pub heads_good : heads_ok (blocks_from 0 ps) ≡ true
  unfolding heads_ok
  heads_good =
      rw (how_many ps)
      (all_of (head_ok (blocks_from 0 ps)) (length ps) (λ j l. head_good ps j l (fits_at 0 ps o j l) (page_at ps (j - 1)).kind (kind_is ps (j - 1) (omega arith)) (kind_rises 0 ps o j l)))
