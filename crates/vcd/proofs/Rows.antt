-- The rows are read back: at the time of a row a reader of an identifier has the digits of the signal's value in it. Assumes nothing.
use mathlib.Core.Path.{◌≡◌, refl, ap, ◌∙◌}
use mathlib.Core.Bool.{Bool, true, false, ◌&&◌, and-false}
use mathlib.Core.List.{List, [], ◌∷◌, ◌++◌, append-nil}
use mathlib.Core.Logic.{⊎_elim}
use Prim.Native.Nat.{ℕ, zero, suc, ◌+◌, ◌-◌, ◌≤◌, ◌<◌}
use native.Mathlib.Nat.{add-zero, add-suc, not-suc-le-zero, eq-or-lt_of_le, le_of_suc-le-suc}
use native.Mathlib.Omega.{arith}
use borrow.Author.Tests.{le-leb, lt-leb, not-false}
use lib.Dec.{leb}
use lib.ListN.{length}
use Rattle.base.specs.Below.{any_below, join_below}
use Rattle.base.specs.Cases.{◌∣◌, ◌⇒◌}
use Rattle.base.proofs.Below.{any_none}
use Rattle.base.proofs.Cases.{either_way}
use Rattle.vcd.specs.Lines.{Line, same_word}
use Rattle.vcd.specs.Vcd.{Row, identifier_of, value_line, time_line, type_in, value_in, row_in, shown_lines, differs, later_lines, row_lines}
use Rattle.vcd.specs.Reader.{Reader, read_all}
use Rattle.vcd.specs.ReadBack.{TimesRise}
use Rattle.vcd.proofs.Words.{same_word_lem, joined, joined_append}
use Rattle.vcd.proofs.Header.{same_identifier, other_identifier}
use Rattle.vcd.proofs.Changes.{digits_of, same_digits, resting, read_append, read_time, read_value}

-- of n's identifier at a time asked for
module _ (types : List ℕ) (n asked : ℕ) where
  reading : Reader → List Line → Reader
  reading r ls = read_all (identifier_of n) asked r (joined ls)

  reading_append : (r : Reader) (a b : List Line) → reading r (a ++ b) ≡ reading (reading r a) b
  unfolding reading
  reading_append r a b = rw (joined_append, read_append)

  -- the digits of the signal's value in a row
  abbrev digits_in : Row → List ℕ
  digits_in r = digits_of (type_in types n) (value_in r n)

  -- the lines of a row's signals that are shown
  module _ (shown : ℕ → Bool) (r : Row) (t : ℕ) where
    abbrev line_of : ℕ → List Line
    line_of m = shown m ⇒ (value_line (type_in types m) (value_in r m) m ∷ []) ∣ []

    read_line : (v : List ℕ) (m : ℕ) → reading (resting t v) (line_of m)
        ≡ resting t (shown m && (same_word (identifier_of m) (identifier_of n) && leb t asked) ⇒ digits_of (type_in types m) (value_in r m) ∣ v)
    unfolding reading joined read_all
    read_line v m =
        either_way (shown m)
        (λ e. rw (e, append-nil) (read_value (identifier_of n) asked t v (type_in types m) (value_in r m) m))
        (λ e. rw e)

    other_line : (v : List ℕ) (m : ℕ) → (m ≡ n → ⊥) → reading (resting t v) (line_of m) ≡ resting t v
    other_line v m h = rw (read_line, other_identifier m n h, and-false)

    other_lines : (v : List ℕ) (m : ℕ) → m ≤ n → reading (resting t v) (join_below line_of m) ≡ resting t v
    unfolding join_below
    other_lines v zero h = unfold reading joined read_all in refl
    other_lines v (suc m) h = rw (reading_append, other_lines v m (omega arith)) (other_line v m (λ e. omega arith))

    read_lines : (v : List ℕ) (m : ℕ) → n < m
        → reading (resting t v) (join_below line_of m) ≡ resting t (shown n && leb t asked ⇒ digits_in r ∣ v)
    unfolding join_below
    read_lines v zero h = absurd (not-suc-le-zero h)
    read_lines v (suc m) h =
        rw reading_append
        (⊎_elim
        (λ (e : n ≡ m). rw (← e, other_lines v n (omega arith), read_line, same_identifier n n refl))
        (λ (l : n < m). rw (read_lines v m l) (other_line (shown n && leb t asked ⇒ digits_in r ∣ v) m (λ e. omega arith)))
        (eq-or-lt_of_le (le_of_suc-le-suc h)))

  module _ (known : n < length types) where
    -- a row's time, and the lines of those shown
    read_row : (shown : ℕ → Bool) (r : Row) (t : ℕ) (v : List ℕ) → r.time < 18446744073709551616
        → reading (resting t v) (time_line r.time ∷ shown_lines types shown r)
        ≡ resting r.time (shown n && leb r.time asked ⇒ digits_in r ∣ v)
    unfolding shown_lines reading joined
    read_row shown r t v h =
        rw (read_append, read_time (identifier_of n) asked t v r.time h) (read_lines shown r r.time v (length types) known)

    -- a reader that has a value
    abbrev Has : List ℕ → Reader → Type 0
    Has v r = (t : ℕ) × (r ≡ resting t v)

    module _ (before r : Row) (short : r.time < 18446744073709551616) (t : ℕ) (v : List ℕ) where
      abbrev some : Bool
      some = any_below (differs types before r) (length types)

      later_some : some ≡ true
          → reading (resting t v) (later_lines types before r)
          ≡ resting r.time (differs types before r n && leb r.time asked ⇒ digits_in r ∣ v)
      unfolding later_lines
      later_some e = rw e (read_row (differs types before r) r t v short)

      later_none : some ≡ false → reading (resting t v) (later_lines types before r) ≡ resting t v
      unfolding later_lines reading joined read_all
      later_none e = rw e

      -- a row past the time asked for
      later_past : asked < r.time → Has v (reading (resting t v) (later_lines types before r))
      later_past h =
          either_way some
          (λ e. (r.time, later_some e ∙ rw (lt-leb r.time asked h, and-false)))
          (λ e. (t, later_none e))

      -- what is written alike has the same digits
      alike : differs types before r n ≡ false → digits_in before ≡ digits_in r
      unfolding differs
      alike e = same_digits (type_in types n) (value_in before n) (value_in r n) (same_word_lem _ _ (not-false _ e))

      -- a row up to it
      later_value : r.time ≤ asked → v ≡ digits_in before → Has (digits_in r) (reading (resting t v) (later_lines types before r))
      later_value h g =
          either_way some
          (λ e. (r.time, later_some e ∙ rw (le-leb r.time asked h) (ap (resting r.time) (now_value _ refl))))
          (λ e. (t, later_none e ∙ ap (resting t) (g ∙ alike (any_none (differs types before r) (length types) e n known))))
        where
          now_value : (d : Bool) → differs types before r n ≡ d → (d && true ⇒ digits_in r ∣ v) ≡ digits_in r
          now_value true e = refl
          now_value false e = g ∙ alike e

    -- the rows
    module _ (rows : List Row) (times : TimesRise rows) where
      abbrev row : ℕ → Row
      row k = row_in rows k

      rise : (i j : ℕ) → i ≤ j → j < length rows → (row i).time ≤ (row j).time
      rise i zero l h = let e : i ≡ 0 = omega arith in rw e (omega arith)
      rise i (suc j) l h =
          ⊎_elim
          (λ (e : i ≡ suc j). rw e (omega arith))
          (λ (g : i < suc j). omega (arith, rise i j (omega arith) (omega arith), times.rise j h))
          (eq-or-lt_of_le l)

      -- a reader of the first k rows
      first_rows : ℕ → Reader
      first_rows k = reading (resting 0 []) (join_below (row_lines types rows) k)

      next_row : (k : ℕ) → first_rows (suc k) ≡ reading (first_rows k) (row_lines types rows k)
      unfolding first_rows join_below
      next_row k = reading_append (resting 0 []) (join_below (row_lines types rows) k) (row_lines types rows k)

      no_rows : first_rows 0 ≡ resting 0 []
      unfolding first_rows join_below reading joined read_all
      no_rows = refl

      step : (j : ℕ) (v w : List ℕ) → Has v (first_rows (suc j))
          → ((t : ℕ) → Has w (reading (resting t v) (later_lines types (row j) (row (suc j))))) → Has w (first_rows (suc (suc j)))
      unfolding row_lines
      step j v w g f =
          ((f g.0).0, next_row (suc j) ∙ ap (λ r. reading r (later_lines types (row j) (row (suc j)))) g.1 ∙ (f g.0).1)

      module _ (k : ℕ) (h : k < length rows) (asks : asked ≡ (row k).time) where
        -- each row up to k
        up_to : (j : ℕ) → j ≤ k → Has (digits_in (row j)) (first_rows (suc j))
        unfolding row_lines
        up_to zero l =
            let g : (row 0).time ≤ asked = rw asks (rise 0 k l h) in
            let e = read_row (λ m. true) (row 0) 0 [] (times.short 0 (omega arith)) in
            ((row 0).time, next_row 0 ∙ rw (no_rows, e, le-leb (row 0).time asked g))
        up_to (suc j) l =
            let g : (row (suc j)).time ≤ asked = rw asks (rise (suc j) k l h) in
            step j (digits_in (row j)) (digits_in (row (suc j))) (up_to j (omega arith))
            (λ t. later_value (row j) (row (suc j)) (times.short (suc j) (omega arith)) t (digits_in (row j)) g refl)

        -- and those behind it
        up_from : (d : ℕ) → k + d < length rows → Has (digits_in (row k)) (first_rows (suc (k + d)))
        up_from zero l = rw add-zero (up_to k (omega arith))
        up_from (suc d) l =
            let m : suc (k + d) < length rows = rw add-suc at l in
            let i : (row k).time ≤ (row (k + d)).time = rise k (k + d) (omega arith) (omega arith) in
            let g : asked < (row (suc (k + d))).time = rw asks (omega (arith, times.rise (k + d) m)) in
            rw add-suc
            (step (k + d) (digits_in (row k)) (digits_in (row k)) (up_from d (omega arith))
            (λ t. later_past (row (k + d)) (row (suc (k + d))) (times.short (suc (k + d)) m) t (digits_in (row k)) g))

        pub rows_read : (read_all (identifier_of n) asked (resting 0 []) (joined (join_below (row_lines types rows) (length rows)))).value
            ≡ digits_in (row k)
        unfolding first_rows reading
        rows_read =
            let d = length rows - suc k in
            let e : suc (k + d) ≡ length rows = omega arith in
            let g : (first_rows (suc (k + d))).value ≡ digits_in (row k) = ap (λ r. r.value) (up_from d (omega arith)).1 in
            rw e at g
