-- Model blocks: refusals 1 to 3, and where the records of a kind begin.
-- A block is 512 bytes: 0-1 its number from 0; 2 the record kind; 3 the record count (0 to 42); from 4 on, records of 12
-- bytes; the bytes after them up to 509 zero; 510-511 chosen so that the 256 16-bit words sum to 1 modulo 65,536.
use Rattle.std.specs.Prelude.{◌≡◌, ℕ, ◌+◌, ◌*◌, ◌/◌, ◌%◌, ◌-◌, ◌<◌, Bool, ◌||◌, List, [], ◌∷◌, eqb, leb, ltb, length, take, drop}
use Rattle.base.specs.Below.{all_below, sum_below, join_below, list_below, every}
use Rattle.base.specs.Bytes.{byte_at, word_at}
use Rattle.base.specs.Cases.{◌∣◌, ◌⇒◌}

abbrev pub blocks_of : List ℕ → ℕ
blocks_of m = length m / 512

-- 1. "Model length is not a multiple of 512 from 512 to 32,768."
unfoldable pub length_ok : List ℕ → Bool
length_ok m = every (eqb (length m % 512) 0 ∷ leb 512 (length m) ∷ leb (length m) 32768 ∷ [])

-- 2. "A block sum is not 1."
unfoldable pub block_sum : List ℕ → ℕ → ℕ
block_sum m b = sum_below (λ i. word_at m (512 * b + 2 * i)) 256

unfoldable pub sum_ok : List ℕ → ℕ → Bool
sum_ok m b = eqb (block_sum m b % 65536) 1

unfoldable pub sums_ok : List ℕ → Bool
sums_ok m = all_below (sum_ok m) (blocks_of m)

-- 3. "A block's number, kind, count, kind order or trailing zeros are wrong."
abbrev pub kind_at : List ℕ → ℕ → ℕ
kind_at m b = byte_at m (512 * b + 2)

abbrev pub count_at : List ℕ → ℕ → ℕ
count_at m b = byte_at m (512 * b + 3)

-- byte i of block b belongs to its head or a record, or is zero
unfoldable pub trailing_at : List ℕ → ℕ → ℕ → Bool
trailing_at m b i = ltb i (4 + 12 * count_at m b) || eqb (byte_at m (512 * b + i)) 0

unfoldable pub trailing_ok : List ℕ → ℕ → Bool
trailing_ok m b = all_below (trailing_at m b) 510

-- "Kinds never fall from block to block": 0 - 1 is 0, so block 0 is compared with itself
unfoldable pub head_ok : List ℕ → ℕ → Bool
head_ok m b =
    every
    (eqb (word_at m (512 * b)) b
    ∷ leb 1 (kind_at m b)
    ∷ leb (kind_at m b) 7
    ∷ leb (count_at m b) 42
    ∷ leb (kind_at m (b - 1)) (kind_at m b)
    ∷ trailing_ok m b
    ∷ [])

unfoldable pub heads_ok : List ℕ → Bool
heads_ok m = all_below (head_ok m) (blocks_of m)

-- how many records of kind k block b has
unfoldable pub count_in : ℕ → List ℕ → ℕ → ℕ
count_in k m b = eqb (kind_at m b) k ⇒ count_at m b ∣ 0

-- r is how many records of kind k block b has
pub record CountIs (k : ℕ) (m : List ℕ) (b r : ℕ) : Type 0 where
  pub value : r ≡ count_in k m b
  pub small : r < 256

-- where record j of block b begins
abbrev pub start_at : ℕ → ℕ → ℕ
start_at b j = 512 * b + 4 + 12 * j

unfoldable pub starts_in : ℕ → List ℕ → ℕ → List ℕ
starts_in k m b = list_below (start_at b) (count_in k m b)

-- where the records of kind k begin: "items of a kind are numbered from 0", block after block
unfoldable pub starts_of : ℕ → List ℕ → List ℕ
starts_of k m = join_below (starts_in k m) (blocks_of m)

-- how many records of kind k there are
unfoldable pub total_of : ℕ → List ℕ → ℕ
total_of k m = sum_below (count_in k m) (blocks_of m)

-- "Each record is read from its own part of the block": the 12 bytes from a start on
abbrev pub part_at : List ℕ → ℕ → List ℕ
part_at m start = take 12 (drop start m)
