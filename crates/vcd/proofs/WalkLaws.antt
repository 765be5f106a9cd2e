-- The walk over a dump's lines: lines put one behind the other, the entries that a line takes from the arrays, and the rows.
-- Assumes nothing.
use mathlib.Core.Path.{◌≡◌, refl, sym, ap, ◌∙◌}
use mathlib.Core.Bool.{Bool, true, false, not, ◌||◌}
use mathlib.Core.List.{List, [], ◌∷◌, ◌++◌, append_assoc, append-nil}
use Prim.Native.Nat.{ℕ, zero, suc, ◌+◌, ◌*◌, ◌-◌, ◌≤◌, ◌<◌}
use native.Mathlib.Omega.{arith}
use borrow.Author.Tests.{ne_eqb}
use lib.Dec.{eqb}
use lib.ListN.{length, get_or, take, drop}
use lib.Seq.{get_or-take, get_or-drop}
use Rattle.std.proofs.lemmas.Grind.{get_or_default_zero}
use Rattle.base.specs.Below.{any_below, join_below, list_below}
use Rattle.base.specs.Cases.{◌∣◌, ◌⇒◌}
use Rattle.base.proofs.Below.{list_at, list_same}
use Rattle.numerals.specs.Puts.{Puts}
use Rattle.numerals.proofs.PutLaws.{put_none, said}
use Rattle.vcd.specs.Lines.{Line, same_word, spaced, text_of}
use Rattle.vcd.specs.Vcd.{Row, written_of, type_in, value_in, row_in, value_line, time_line, declared, var_line, shown_lines, differs, later_lines, row_lines, opening, closing, header_lines, dump_lines, dump_text}
use Rattle.vcd.specs.Writing.{front_of, row_with, shown_by, lines_by, row_of, rows_of}

pub text_append : (a b : List Line) → text_of (a ++ b) ≡ text_of a ++ text_of b
unfolding text_of
text_append [] b = refl
text_append (l ∷ a) b = rw (text_append a b, append_assoc)

pub one_line : (l : Line) → spaced l ≡ text_of (l ∷ [])
unfolding text_of
one_line l = sym (append-nil (spaced l))

-- lines joined are their texts joined
pub text_joined : (f : ℕ → List Line) (n : ℕ) → join_below (λ i. text_of (f i)) n ≡ text_of (join_below f n)
unfolding join_below
text_joined f zero = unfold text_of in refl
text_joined f (suc n) = rw (text_append, text_joined f n)

pub text_listed : (f : ℕ → Line) (n : ℕ) → join_below (λ i. spaced (f i)) n ≡ text_of (list_below f n)
unfolding join_below list_below
text_listed f zero = unfold text_of in refl
text_listed f (suc n) = rw (text_append, text_listed f n, one_line)

-- entry s of the first n of an array
pub front_at : (d n : ℕ) (xs : List ℕ) (s : ℕ) → s < n → get_or (front_of n xs) s d ≡ get_or xs s 0
front_at d n xs s h = list_at (λ i. get_or xs i 0) d n s h

-- what stands for a type that is not there does not matter
type_read : (types : List ℕ) (n s : ℕ) → length types ≡ n → s < n → get_or types s 1 ≡ get_or types s 0
type_read types n s e h = get_or_default_zero types s 1 (omega arith)

-- what is shown of a row is a matter of its values, not of its time
pub shown_values : (types : List ℕ) (shown : ℕ → Bool) (t n : ℕ) (xs : List ℕ) → shown_lines types shown (row_with 0 n xs) ≡ shown_lines types shown (row_with t n xs)
unfolding shown_lines
shown_values types shown t n xs = refl

pub differs_values : (types : List ℕ) (a b c n : ℕ) (xs ys : List ℕ) → differs types (row_with a n xs) (row_with b n ys) ≡ differs types (row_with 0 n xs) (row_with c n ys)
unfolding differs
differs_values types a b c n xs ys = refl

-- signal s of n in the arrays: whether its written value differs
pub entry_differs : (types : List ℕ) (n : ℕ) (before row : List ℕ) → length types ≡ n → (s : ℕ) → s < n
    → differs types (row_with 0 n before) (row_with 0 n row) s
    ≡ not (same_word (written_of (get_or types s 0) (get_or before s 0)) (written_of (get_or types s 0) (get_or row s 0)))
unfolding differs
entry_differs types n before row e s h = rw (type_read types n s e h, front_at 0 n before s h, front_at 0 n row s h)

-- the line that declares signal s
pub var_line_at : (types : List ℕ) (n s : ℕ) → length types ≡ n → s < n → spaced (declared (get_or types s 0) s) ≡ spaced (var_line types s)
var_line_at types n s e h = rw (type_read types n s e h)

-- the lines of signal s: one where it is shown
abbrev pub shown_at : Bool → List ℕ → ℕ → List ℕ → List ℕ → ℕ → List Line
shown_at all types n before row s =
    shown_by all types (row_with 0 n before) (row_with 0 n row) s ⇒ (value_line (type_in types s) (value_in (row_with 0 n row) s) s ∷ []) ∣ []

module _ (all : Bool) (types : List ℕ) (n : ℕ) (before row : List ℕ) (long : length types ≡ n) where
  module _ (s : ℕ) (h : s < n) {d : Bool} (e : d ≡ not (same_word (written_of (get_or types s 0) (get_or before s 0)) (written_of (get_or types s 0) (get_or row s 0)))) where
    is_shown : (all || d) ≡ shown_by all types (row_with 0 n before) (row_with 0 n row) s
    is_shown = ap (λ (x : Bool). all || x) (e ∙ sym (entry_differs types n before row long s h))

    pub shown_put : (all || d) ≡ true → {out new : List ℕ} {end r : ℕ} → Puts (spaced (value_line (get_or types s 0) (get_or row s 0) s)) out new end r
        → Puts (text_of (shown_at all types n before row s)) out new end r
    shown_put t p = rw (← is_shown, t, type_read types n s long h, front_at 0 n row s h) (said (one_line _) p)

    pub hidden_put : (all || d) ≡ false → (out : List ℕ) (end : ℕ) → Puts (text_of (shown_at all types n before row s)) out out end end
    unfolding text_of
    hidden_put t out end = rw (← is_shown, t) (put_none out end)

  pub all_shown : join_below (λ s. text_of (shown_at all types n before row s)) n
      ≡ text_of (shown_lines types (shown_by all types (row_with 0 n before) (row_with 0 n row)) (row_with 0 n row))
  unfolding shown_lines
  all_shown = text_joined (shown_at all types n before row) n ∙ rw long

-- the lines of a row: its time and what is shown, or nothing
module _ (types : List ℕ) (n : ℕ) (before row : List ℕ) (time : ℕ) (long : length types ≡ n) where
  abbrev some : Bool
  some = any_below (differs types (row_with 0 n before) (row_with 0 n row)) n

  abbrev shown_if : Bool → List Line
  shown_if first = shown_lines types (shown_by first types (row_with 0 n before) (row_with 0 n row)) (row_with 0 n row)

  abbrev lines : Bool → List Line
  lines first = lines_by first types (row_with 0 n before) (row_with time n row)

  later_by : (b : Bool) → some ≡ b → lines false ≡ (b ⇒ (time_line time ∷ shown_if false) ∣ [])
  unfolding later_lines shown_lines differs
  later_by b e = rw (long, e)

  shown_lines_lem : (first : Bool) {r : Bool} → r ≡ some → (first || r) ≡ true → time_line time ∷ shown_if first ≡ lines first
  shown_lines_lem true e t = unfold shown_lines in refl
  shown_lines_lem false e t = sym (later_by true (sym e ∙ t))

  pub row_shown : (first : Bool) {r : Bool} → r ≡ some → (first || r) ≡ true → spaced (time_line time) ++ text_of (shown_if first) ≡ text_of (lines first)
  row_shown first e t = rw (← (shown_lines_lem first e t)) (unfold text_of in refl)

  pub row_left_out : (first : Bool) {r : Bool} → r ≡ some → (first || r) ≡ false → [] ≡ text_of (lines first)
  row_left_out true e t = cc
  row_left_out false e t = rw (later_by false (sym e ∙ t)) (unfold text_of in refl)

-- the header
pub header_text : (types : List ℕ) (n : ℕ) → length types ≡ n → (text_of opening ++ text_of (list_below (var_line types) n)) ++ text_of closing ≡ text_of (header_lines types)
unfolding header_lines
header_text types n long =
    let vars = list_below (var_line types) n in
    rw long
    (append_assoc (text_of opening) (text_of vars) (text_of closing)
    ∙ ap (λ (t : List ℕ). text_of opening ++ t) (sym (text_append vars closing))
    ∙ sym (text_append opening (vars ++ closing)))

-- the rows that the arrays hold
module _ (types : List ℕ) (n : ℕ) (few : n ≤ 32) (times values : List ℕ) (count : ℕ) where
  abbrev part : ℕ → List ℕ
  part a = take (a + 32 - a) (drop a values)

  part_values : (a : ℕ) → front_of n (part a) ≡ list_below (λ s. get_or values (a + s) 0) n
  part_values a =
      list_same _ _ n (λ s h. let l : s < a + 32 - a = omega arith in get_or-take (a + 32 - a) (drop a values) s 0 l ∙ get_or-drop a values s 0)

  row_is : (k : ℕ) → k < count → row_with (get_or times k 0) n (part (32 * k)) ≡ row_in (rows_of n times values count) k
  row_is k h = rw (part_values (32 * k), list_at (row_of n times values) _ count k h)

  -- the time of the row before does not matter
  later_before : (T v : List ℕ) (a b : ℕ) (r : Row) → later_lines T (record { time = a; values = v }) r ≡ later_lines T (record { time = b; values = v }) r
  unfolding later_lines differs
  later_before T v a b r = refl

  lines_are : (k : ℕ) → k < count
      → lines_by (eqb k 0) types (row_with 0 n (part (32 * (k - 1)))) (row_with (get_or times k 0) n (part (32 * k)))
      ≡ row_lines types (rows_of n times values count) k
  unfolding row_lines
  lines_are zero h = ap (λ (r : Row). time_line r.time ∷ shown_lines types (λ s. true) r) (row_is 0 h)
  lines_are (suc j) h =
      let e : suc j - 1 ≡ j = omega arith in
      let l : j < count = omega arith in
      rw (ne_eqb (suc j) 0 (λ z. omega arith), e, row_is (suc j) h, ← (row_is j l)) (later_before types _ 0 (get_or times j 0) _)

  pub row_put : (k : ℕ) → k < count → {b : Bool} {p t : ℕ} → b ≡ eqb k 0 → p ≡ k - 1 → t ≡ get_or times k 0 → {out new : List ℕ} {end r : ℕ}
      → Puts (text_of (lines_by b types (row_with 0 n (part (32 * p))) (row_with t n (part (32 * k))))) out new end r
      → Puts (text_of (row_lines types (rows_of n times values count) k)) out new end r
  row_put k h e f g q = said (rw (e, f, g) (ap text_of (lines_are k h))) q

-- the header and the rows
pub dump_text_lem : (types : List ℕ) (rows : List Row) (n : ℕ) → length rows ≡ n → text_of (header_lines types) ++ text_of (join_below (row_lines types rows) n) ≡ dump_text types rows
unfolding dump_text dump_lines
dump_text_lem types rows n e = rw (← e) (sym (text_append (header_lines types) (join_below (row_lines types rows) (length rows))))
