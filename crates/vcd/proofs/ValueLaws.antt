-- Laws of written values and of the lines that hold them. Assumes nothing.
use mathlib.Core.Path.{◌≡◌, refl, sym, ap, ◌∙◌}
use mathlib.Core.Bool.{Bool, true}
use mathlib.Core.Logic.{◌⊎◌, inl, inr, ⊎_elim}
use mathlib.Core.List.{List, [], ◌∷◌, ◌++◌, append_assoc}
use Prim.Native.Nat.{ℕ, ◌+◌, ◌≤◌, ◌<◌}
use native.Mathlib.Omega.{arith}
use borrow.Author.Tests.{eqb-true, eqb-false, ne_eqb}
use lib.Dec.{eqb}
use lib.ListN.{length}
use Rattle.base.proofs.Cases.{by_test, either_way}
use Rattle.numerals.specs.Numerals.{decimal_of, binary_of}
use Rattle.numerals.proofs.NumeralLaws.{decimal_most}
use Rattle.vcd.specs.Lines.{spaced, same_word}
use Rattle.vcd.specs.Reader.{rest_of, extended}
use Rattle.vcd.specs.Vcd.{character_of, written_of, value_line, time_line, width_of, declared}
use Rattle.vcd.proofs.Numbers.{bits_same, binary_read}
use Rattle.vcd.proofs.Words.{same_word_lem, word_same}

-- the characters, by code
pub zero_is : (v : ℕ) → (v ≡ 2) ⊎ (v ≡ 6) → 48 ≡ character_of v
unfolding character_of
zero_is v = ⊎_elim (λ (e : v ≡ 2). rw e refl) (λ (e : v ≡ 6). rw e refl)

pub one_is : (v : ℕ) → (v ≡ 3) ⊎ (v ≡ 7) → 49 ≡ character_of v
unfolding character_of
one_is v = ⊎_elim (λ (e : v ≡ 3). rw e refl) (λ (e : v ≡ 7). rw e refl)

pub high_is : (v : ℕ) → v ≡ 4 → 122 ≡ character_of v
unfolding character_of
high_is v e = rw e refl

pub unknown_is : (v : ℕ) → ((v ≡ 2) ⊎ (v ≡ 6) → ⊥) → ((v ≡ 3) ⊎ (v ≡ 7) → ⊥) → (v ≡ 4 → ⊥) → 120 ≡ character_of v
unfolding character_of
unknown_is v a b c =
    rw (ne_eqb v 2 (λ e. a (inl e)), ne_eqb v 6 (λ e. a (inr e)), ne_eqb v 3 (λ e. b (inl e)), ne_eqb v 7 (λ e. b (inr e)), ne_eqb v 4 c) refl

-- values of 32 bits that are written alike: equal integers, and logic values with one character
module _ (v w : ℕ) (p : v < 4294967296) (q : w < 4294967296) where
  abbrev same : Bool
  same = same_word (98 ∷ binary_of v) (98 ∷ binary_of w)

  equal : same ≡ true → v ≡ w
  equal t =
      let e : binary_of v ≡ binary_of w = ap rest_of (same_word_lem (98 ∷ binary_of v) (98 ∷ binary_of w) t) in
      bits_same v w p q (sym (binary_read v) ∙ ap (extended 32) e ∙ binary_read w)

  alike : eqb v w ≡ same
  alike =
      either_way (eqb v w)
      (λ t. let e = eqb-true v w t in t ∙ sym (rw e (word_same (98 ∷ binary_of w))))
      (λ f. f ∙ either_way same (λ t. absurd (eqb-false v w f (equal t))) sym)

  pub integers_alike : (ty : ℕ) → ty ≡ 0 → eqb v w ≡ same_word (written_of ty v) (written_of ty w)
  unfolding written_of
  integers_alike ty e = rw e alike

pub logics_alike : (ty v w x y : ℕ) → (ty ≡ 0 → ⊥) → x ≡ character_of v → y ≡ character_of w → eqb x y ≡ same_word (written_of ty v) (written_of ty w)
unfolding written_of
logics_alike ty v w x y h e f = rw (ne_eqb ty 0 h, e, f) (either_way (eqb (character_of v) (character_of w)) (λ t. rw t) (λ t. rw t))

-- a value's line, by its type
pub integer_line : (ty v n : ℕ) → ty ≡ 0 → (98 ∷ binary_of v) ++ (32 ∷ (33 + n) ∷ 10 ∷ []) ≡ spaced (value_line ty v n)
unfolding value_line written_of
integer_line ty v n e = rw e refl

pub logic_line : (ty v n x : ℕ) → (ty ≡ 0 → ⊥) → x ≡ character_of v → x ∷ (33 + n) ∷ 10 ∷ [] ≡ spaced (value_line ty v n)
unfolding value_line written_of
logic_line ty v n x h e = rw (ne_eqb ty 0 h, e) refl

pub time_line_lem : (t : ℕ) → (35 ∷ decimal_of t) ++ (10 ∷ []) ≡ spaced (time_line t)
unfolding time_line
time_line_lem t = refl

-- a declaration: its width has at most two digits
pub width_most : (ty w : ℕ) → w ≡ width_of ty → length (decimal_of w) ≤ 2
width_most ty w e = decimal_most w 1 (rw e (by_test (λ (x : ℕ). x < 100) (eqb ty 0) 32 1 (λ h. omega arith) (λ h. omega arith)))

-- the texts before and behind a declaration's width, its identifier between, and at its end
abbrev var_begin : List ℕ
var_begin = 36 ∷ 118 ∷ 97 ∷ 114 ∷ 32 ∷ 119 ∷ 105 ∷ 114 ∷ 101 ∷ 32 ∷ []

abbrev var_code : ℕ → List ℕ
var_code n = 32 ∷ (33 + n) ∷ 32 ∷ 115 ∷ []

abbrev var_end : List ℕ
var_end = 32 ∷ 36 ∷ 101 ∷ 110 ∷ 100 ∷ 10 ∷ []

four : (a b c d : List ℕ) → ((a ++ b) ++ c) ++ d ≡ a ++ (b ++ (c ++ d))
four a b c d = append_assoc (a ++ b) c d ∙ append_assoc a b (c ++ d)

pub var_line_lem : (ty n : ℕ) {w : ℕ} → w ≡ width_of ty → (((var_begin ++ decimal_of w) ++ var_code n) ++ decimal_of n) ++ var_end ≡ spaced (declared ty n)
unfolding declared
var_line_lem ty n e = rw e (ap (λ (r : List ℕ). var_begin ++ r) (four (decimal_of (width_of ty)) (var_code n) (decimal_of n) var_end))
