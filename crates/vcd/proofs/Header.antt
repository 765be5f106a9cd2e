-- The header is read back: each signal's identifier has its width, and behind the header stand the rows. Assumes nothing.
use mathlib.Core.Path.{◌≡◌, refl, ap, ◌∙◌}
use mathlib.Core.Bool.{true, false, and-false}
use mathlib.Core.List.{List, [], ◌∷◌, ◌++◌, append_assoc, append-nil}
use mathlib.Core.Logic.{⊎_elim}
use Prim.Native.Nat.{ℕ, zero, suc, ◌+◌, ◌≤◌, ◌<◌}
use native.Mathlib.Nat.{not-suc-le-zero, eq-or-lt_of_le, le_of_suc-le-suc}
use native.Mathlib.Omega.{arith}
use borrow.Author.Tests.{eq-eqb, ne_eqb}
use lib.Dec.{eqb}
use lib.ListN.{length}
use Rattle.base.specs.Below.{All, list_below}
use Rattle.base.specs.Course.{first_with}
use Rattle.base.specs.Cases.{◌∣◌, ◌⇒◌}
use Rattle.base.proofs.All.{all_append}
use Rattle.base.proofs.Below.{◌and◌, list_all}
use Rattle.base.proofs.Cases.{by_test}
use Rattle.numerals.specs.Numerals.{places_in, numeral, decimal_of}
use Rattle.vcd.specs.Lines.{Word, word_of, Line, same_word, var, end, enddefinitions}
use Rattle.vcd.specs.Vcd.{integer, type_in, identifier_of, width_of, declared, var_line, opening, closing, header_lines}
use Rattle.vcd.specs.Reader.{size_in, changes_in}
use Rattle.vcd.proofs.Words.{solid, Solid, dark, joined, joined_append}
use Rattle.vcd.proofs.Numbers.{decimal_plain, decimal_solid, decimal_read}

-- what holds of both widths holds of a signal's
by_width : (P : ℕ → Type 0) (ty : ℕ) → P 32 → P 1 → P (width_of ty)
by_width P ty p q = by_test P (eqb ty integer) 32 1 (λ e. p) (λ e. q)

pub identifier_solid : (n : ℕ) → solid (identifier_of n) ≡ true
identifier_solid n = rw (dark (33 + n) (omega arith))

module _ (types : List ℕ) where
  var_solid : (n : ℕ) → Solid (var_line types n)
  unfolding declared
  var_solid n =
      refl and refl and decimal_solid (width_of (type_in types n)) and identifier_solid n and decimal_plain n and refl and tt

  pub header_solid : All Solid (header_lines types)
  unfolding header_lines
  header_solid =
      all_append Solid opening (list_below (var_line types) (length types) ++ closing)
      ((refl and refl and refl and refl and tt) and (refl and refl and refl and refl and tt) and tt)
      (all_append Solid (list_below (var_line types) (length types)) closing
      (list_all Solid (var_line types) (length types) (λ n l. var_solid n))
      ((refl and refl and tt) and (refl and refl and tt) and tt))

-- words that are none of a kind
abbrev Other : Word → List Word → Type 0
Other v ws = All (λ w. same_word w v ≡ false) ws

pass_sizes : (id : Word) (ws rest : List Word) → Other var ws → size_in id (ws ++ rest) ≡ size_in id rest
unfolding size_in
pass_sizes id [] rest h = refl
pass_sizes id (w ∷ ws) rest h = rw h.0 (pass_sizes id ws rest h.1)

pass_changes : (ws rest : List Word) → Other enddefinitions ws → changes_in (ws ++ rest) ≡ changes_in rest
unfolding changes_in
pass_changes [] rest h = refl
pass_changes (w ∷ ws) rest h = rw h.0 (pass_changes ws rest h.1)

pub same_identifier : (m n : ℕ) → m ≡ n → same_word (identifier_of m) (identifier_of n) ≡ true
same_identifier m n e = rw (e, eq-eqb (33 + n) (33 + n) refl)

pub other_identifier : (m n : ℕ) → (m ≡ n → ⊥) → same_word (identifier_of m) (identifier_of n) ≡ false
other_identifier m n h = rw (ne_eqb (33 + m) (33 + n) (λ e. h (omega arith)))

-- a width is no keyword
width_other : (ty : ℕ) (w : Word) → same_word (decimal_of (width_of ty)) (36 ∷ w) ≡ false
unfolding decimal_of numeral places_in first_with
width_other ty w = by_width (λ n. same_word (decimal_of n) (36 ∷ w) ≡ false) ty refl refl

joined_parts : (a b c d : List Line) → joined ((a ++ (b ++ c)) ++ d) ≡ joined a ++ (joined b ++ (joined c ++ joined d))
joined_parts a b c d = simp (joined_append, append_assoc)

module _ (types : List ℕ) where
  abbrev type : ℕ → ℕ
  type n = type_in types n

  -- what stands behind `$var` is no keyword but `$end`
  abbrev behind : ℕ → List Word
  behind m = word_of "wire" ∷ decimal_of (width_of (type m)) ∷ identifier_of m ∷ (word_of "s" ++ decimal_of m) ∷ end ∷ []

  behind_other : (m c : ℕ) (w : Word) → same_word end (36 ∷ c ∷ w) ≡ false → Other (36 ∷ c ∷ w) (behind m)
  behind_other m c w h = refl and width_other (type m) (c ∷ w) and and-false (eqb (33 + m) 36) and refl and h and tt

  -- a declaration, of the identifier asked for or another
  var_size : (id : Word) (m : ℕ) (rest : List Word)
      → size_in id (var_line types m ++ rest) ≡ (same_word (identifier_of m) id ⇒ width_of (type m) ∣ size_in id rest)
  unfolding declared size_in
  var_size id m rest =
      let e = decimal_read (width_of (type m)) (by_width (λ w. w < 18446744073709551616) (type m) (omega arith) (omega arith)) in
      rw (e, pass_sizes id (behind m) rest (behind_other m _ _ refl))

  var_changes : (m : ℕ) (rest : List Word) → changes_in (var_line types m ++ rest) ≡ changes_in rest
  unfolding declared
  var_changes m rest = pass_changes (var_line types m) rest (refl and behind_other m _ _ refl)

  -- the first m declarations, and what stands behind them
  vars : ℕ → List Word → List Word
  vars m rest = joined (list_below (var_line types) m) ++ rest

  vars_none : (rest : List Word) → vars 0 rest ≡ rest
  unfolding vars list_below joined
  vars_none rest = refl

  vars_more : (m : ℕ) (rest : List Word) → vars (suc m) rest ≡ vars m (var_line types m ++ rest)
  unfolding vars list_below joined
  vars_more m rest = rw (joined_append, append-nil, append_assoc)

  vars_changes : (m : ℕ) (rest : List Word) → changes_in (vars m rest) ≡ changes_in rest
  vars_changes zero rest = rw vars_none
  vars_changes (suc m) rest = rw (vars_more, vars_changes m (var_line types m ++ rest), var_changes m rest)

  module _ (n : ℕ) where
    vars_other : (m : ℕ) (rest : List Word) → m ≤ n → size_in (identifier_of n) (vars m rest) ≡ size_in (identifier_of n) rest
    vars_other zero rest h = rw vars_none
    vars_other (suc m) rest h =
        rw (vars_more, vars_other m (var_line types m ++ rest) (omega arith), var_size (identifier_of n) m rest, other_identifier m n (λ e. omega arith))

    vars_size : (m : ℕ) (rest : List Word) → n < m → size_in (identifier_of n) (vars m rest) ≡ width_of (type n)
    vars_size zero rest h = absurd (not-suc-le-zero h)
    vars_size (suc m) rest h =
        rw vars_more
        (⊎_elim
        (λ (e : n ≡ m). rw (← e, vars_other n (var_line types n ++ rest) (omega arith), var_size (identifier_of n) n rest, same_identifier n n refl))
        (λ (l : n < m). vars_size m (var_line types m ++ rest) l)
        (eq-or-lt_of_le (le_of_suc-le-suc h)))

  -- the words of the header, and what stands behind it
  header_words : (ls : List Line) → joined (header_lines types ++ ls) ≡ joined opening ++ vars (length types) (joined closing ++ joined ls)
  unfolding header_lines vars
  header_words ls = joined_parts opening (list_below (var_line types) (length types)) closing ls

  pub header_size : (n : ℕ) (ls : List Line) → n < length types
      → size_in (identifier_of n) (joined (header_lines types ++ ls)) ≡ width_of (type n)
  unfolding joined
  header_size n ls h =
      let back = vars (length types) (joined closing ++ joined ls) in
      ap (size_in (identifier_of n)) (header_words ls)
      ∙ pass_sizes (identifier_of n) (joined opening) back (refl and refl and refl and refl and refl and refl and refl and refl and tt)
      ∙ vars_size n (length types) (joined closing ++ joined ls) h

  pub header_changes : (ls : List Line) → changes_in (joined (header_lines types ++ ls)) ≡ joined ls
  unfolding joined changes_in
  header_changes ls =
      let back = vars (length types) (joined closing ++ joined ls) in
      ap changes_in (header_words ls)
      ∙ pass_changes (joined opening) back (refl and refl and refl and refl and refl and refl and refl and refl and tt)
      ∙ vars_changes (length types) (joined closing ++ joined ls)
