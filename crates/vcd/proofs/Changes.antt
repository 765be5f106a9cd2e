-- The lines of the rows, word by word: what a reader of one identifier at one time makes of each. Assumes nothing.
use mathlib.Core.Path.{◌≡◌, refl, ap}
use mathlib.Core.Bool.{◌&&◌}
use mathlib.Core.List.{List, [], ◌∷◌, ◌++◌}
use Prim.Native.Nat.{ℕ, ◌<◌}
use lib.Dec.{eqb, leb}
use Rattle.base.specs.Cases.{◌∣◌, ◌⇒◌, ◌is◌⇒◌}
use Rattle.base.proofs.Cases.{by_test, either_way}
use Rattle.values.specs.Nine.{‘0’, ‘1’, Z, L, H}
use Rattle.numerals.specs.Numerals.{binary_of}
use Rattle.vcd.specs.Lines.{Word, same_word}
use Rattle.vcd.specs.Vcd.{integer, character_of, written_of, identifier_of, value_line, time_line}
use Rattle.vcd.specs.Reader.{Reader, rest_of, changed, next, read_all}
use Rattle.vcd.proofs.Numbers.{binary_some, decimal_read}

-- what holds of each character holds of that of a value
pub by_character : (P : ℕ → Type 0) (v : ℕ) → P 48 → P 49 → P 122 → P 120 → P (character_of v)
unfolding character_of
by_character P v p0 p1 pz px =
    by_test P (eqb v ‘0’) _ _ (λ e. p0)
    (λ e. by_test P (eqb v L) _ _ (λ e. p0)
    (λ e. by_test P (eqb v ‘1’) _ _ (λ e. p1)
    (λ e. by_test P (eqb v H) _ _ (λ e. p1)
    (λ e. by_test P (eqb v Z) _ _ (λ e. pz) (λ e. px)))))

-- the digits of a value that is written
unfoldable pub digits_of : ℕ → ℕ → List ℕ
digits_of ty v = ty is integer ⇒ binary_of v ∣ (character_of v ∷ [])

-- what is written alike has the same digits
pub same_digits : (ty a b : ℕ) → written_of ty a ≡ written_of ty b → digits_of ty a ≡ digits_of ty b
unfolding digits_of written_of
same_digits ty a b h = either_way (eqb ty integer) (λ e. rw e (ap rest_of (rw e at h))) (λ e. rw e (rw e at h))

-- a reader between two lines
abbrev pub resting : ℕ → List ℕ → Reader
resting t v = record { now = t; digits = []; value = v }

module _ (id : Word) (asked : ℕ) where
  pub read_append : (r : Reader) (v w : List Word) → read_all id asked r (v ++ w) ≡ read_all id asked (read_all id asked r v) w
  unfolding read_all
  read_append r [] w = refl
  read_append r (x ∷ v) w = read_append (next id asked r x) v w

  module _ (t : ℕ) (v : List ℕ) where
    -- the line of a time
    pub read_time : (u : ℕ) → u < 18446744073709551616 → read_all id asked (resting t v) (time_line u) ≡ resting u v
    unfolding read_all next time_line
    read_time u h = rw (decimal_read u h)

    -- the line of a value
    read_scalar : (x : ℕ) (w : Word)
        → next id asked (resting t v) (character_of x ∷ w) ≡ changed id asked (resting t v) w (character_of x ∷ [])
    unfolding next
    read_scalar x w =
        by_character (λ c. next id asked (resting t v) (c ∷ w) ≡ changed id asked (resting t v) w (c ∷ [])) x refl refl refl refl

    pub read_value : (ty x n : ℕ)
        → read_all id asked (resting t v) (value_line ty x n) ≡ resting t (same_word (identifier_of n) id && leb t asked ⇒ digits_of ty x ∣ v)
    unfolding read_all next value_line written_of digits_of
    read_value ty x n = either_way (eqb ty integer) (λ e. rw (e, binary_some x)) (λ e. rw e (read_scalar x (identifier_of n)))
