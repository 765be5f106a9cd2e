-- The words of a text of lines are those of the lines, where no word is empty or has white space in it. Assumes nothing.
use mathlib.Core.Path.{◌≡◌, refl, ap, ◌∙◌}
use mathlib.Core.Bool.{Bool, true, false, ◌&&◌, not}
use mathlib.Core.List.{List, [], ◌∷◌, ◌++◌, append_assoc, append-nil}
use Prim.Native.Nat.{ℕ, ◌<◌}
use native.Mathlib.Omega.{arith}
use borrow.Author.Tests.{not-true, eqb-true, eq-eqb, ne_eqb}
use lib.Dec.{eqb}
use Rattle.base.specs.Below.{All}
use Rattle.base.proofs.Below.{and_left, and_right}
use Rattle.numerals.specs.Numerals.{space, line_feed}
use Rattle.vcd.specs.Lines.{Word, Line, spaced, text_of, same_word}
use Rattle.vcd.specs.Reader.{is_white, closed, words_from, words_in, is_none}

-- same words are equal
pub same_word_lem : (v w : Word) → same_word v w ≡ true → v ≡ w
same_word_lem [] [] h = refl
same_word_lem [] (y ∷ w) h = cc
same_word_lem (x ∷ v) [] h = cc
same_word_lem (x ∷ v) (y ∷ w) h = cc (eqb-true x y (and_left (eqb x y) _ h), same_word_lem v w (and_right (eqb x y) _ h))

pub word_same : (w : Word) → same_word w w ≡ true
word_same [] = refl
word_same (x ∷ w) = rw (eq-eqb x x refl) (word_same w)

-- no white space
abbrev pub plain : Word → Bool
plain [] = true
plain (c ∷ w) = not (is_white c) && plain w

abbrev pub solid : Word → Bool
solid w = not (is_none w) && plain w

-- each word of a line is solid
abbrev pub Solid : Line → Type 0
Solid l = All (λ w. solid w ≡ true) l

-- a character behind the space is not white
pub dark : (c : ℕ) → 32 < c → is_white c ≡ false
dark c h =
    rw (ne_eqb c 32 (λ e. omega arith), ne_eqb c 10 (λ e. omega arith), ne_eqb c 9 (λ e. omega arith), ne_eqb c 13 (λ e. omega arith))

pub plain_append : (v w : Word) → plain v ≡ true → plain w ≡ true → plain (v ++ w) ≡ true
plain_append [] w h g = g
plain_append (c ∷ v) w h g = rw (and_left (not (is_white c)) _ h) (plain_append v w (and_right (not (is_white c)) _ h) g)

-- a word up to white space
plain_word : (v w : Word) (c : ℕ) (text : List ℕ) → plain w ≡ true → is_white c ≡ true
    → words_from v (w ++ (c ∷ text)) ≡ closed (v ++ w) (words_from [] text)
plain_word v [] c text h g = rw (g, append-nil)
plain_word v (x ∷ w) c text h g =
    rw (not-true (is_white x) (and_left (not (is_white x)) _ h))
    (plain_word (v ++ (x ∷ [])) w c text (and_right (not (is_white x)) _ h) g ∙ rw append_assoc)

closed_solid : (w : Word) (ws : List Word) → not (is_none w) ≡ true → closed w ws ≡ w ∷ ws
closed_solid [] ws h = cc
closed_solid (c ∷ w) ws h = refl

solid_word : (w : Word) (c : ℕ) (text : List ℕ) → solid w ≡ true → is_white c ≡ true → words_from [] (w ++ (c ∷ text)) ≡ w ∷ words_from [] text
solid_word w c text h g =
    plain_word [] w c text (and_right (not (is_none w)) _ h) g ∙ closed_solid w (words_from [] text) (and_left (not (is_none w)) _ h)

solid_line : (l : Line) (text : List ℕ) → Solid l → words_from [] (spaced l ++ text) ≡ l ++ words_from [] text
solid_line [] text h = refl
solid_line (w ∷ []) text h = rw append_assoc (solid_word w line_feed text h.0 refl)
solid_line (w ∷ v ∷ l) text h =
    rw append_assoc (solid_word w space (spaced (v ∷ l) ++ text) h.0 refl ∙ rw (solid_line (v ∷ l) text h.1))

-- the words of lines, one behind the other
unfoldable pub joined : List Line → List Word
joined [] = []
joined (l ∷ ls) = l ++ joined ls

pub joined_append : (a b : List Line) → joined (a ++ b) ≡ joined a ++ joined b
unfolding joined
joined_append [] b = refl
joined_append (l ∷ a) b = rw (joined_append a b, append_assoc)

pub words_of : (ls : List Line) → All Solid ls → words_in (text_of ls) ≡ joined ls
unfolding joined text_of words_in
words_of [] h = refl
words_of (l ∷ ls) h = solid_line l (text_of ls) h.0 ∙ ap (λ (ws : List Word). l ++ ws) (words_of ls h.1)
