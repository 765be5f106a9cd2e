-- What reading a dump back gives.
use Rattle.std.specs.Prelude.{◌≡◌, List, [], ◌∷◌, ℕ, suc, ◌<◌, length}
use Rattle.base.specs.Cases.{◌∣◌, ◌⇒◌, ◌is◌⇒◌}
use Rattle.io.specs.Digits.{last_digits}
use Rattle.vcd.specs.Vcd.{Row, integer, character_of, type_in, value_in, row_in, identifier_of, dump_text}
use Rattle.vcd.specs.Reader.{value_at}

-- a settled value, "so mapped": a logic value's character, or all 32 digits of an integer
unfoldable pub mapped_of : ℕ → ℕ → List ℕ
mapped_of ty v = ty is integer ⇒ last_digits 2 32 v ∣ (character_of v ∷ [])

-- the times of the rows rise, and each can be written
pub record TimesRise (rows : List Row) : Type 0 where
  pub rise : (k : ℕ) → suc k < length rows → (row_in rows k).time < (row_in rows (suc k)).time
  pub short : (k : ℕ) → k < length rows → (row_in rows k).time < 18446744073709551616

-- "Read back by the standard's rules, it gives every signal's settled value, so mapped, at each time of the run."
abbrev pub ReadBack : List ℕ → List Row → Type 0
ReadBack types rows = (k n : ℕ) → k < length rows → n < length types
    → value_at (dump_text types rows) (identifier_of n) (row_in rows k).time ≡ mapped_of (type_in types n) (value_in (row_in rows k) n)

abbrev pub DumpsReadBack : Type 0
DumpsReadBack = (types : List ℕ) (rows : List Row) → TimesRise rows → ReadBack types rows
