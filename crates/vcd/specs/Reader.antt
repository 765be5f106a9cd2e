-- Reading a value change dump by the rules of IEEE 1364, and by nothing of how it was written: the value of an identifier at a time is that of
-- its last change at or before it, extended to its width. Of the simulation commands, times and value changes are read; a keyword
-- such as `$dumpvars` is passed over. (Comments among the changes and real numbers are not read: a four-state dump of wires has none.)
use Rattle.std.specs.Prelude.{Bool, true, false, ◌&&◌, ◌||◌, not, List, [], ◌∷◌, ◌++◌, ℕ, ◌+◌, ◌*◌, ◌-◌, eqb, leb, length, get_or, drop, replicate}
use Prim.Native.Char.{code}
use Rattle.base.specs.Cases.{◌∣◌, ◌⇒◌}
use Rattle.vcd.specs.Lines.{Word, same_word, var, enddefinitions}

-- white space: tab, line feed, carriage return and space
abbrev pub is_white : ℕ → Bool
is_white c = eqb c (code " ") || (eqb c (code "\n") || (eqb c (code "\t") || eqb c (code "\r")))

-- a word that has ended, before those behind it; no word has no character
abbrev pub closed : Word → List Word → List Word
closed [] ws = ws
closed (c ∷ w) ws = (c ∷ w) ∷ ws

-- the words between white space, w being the characters of the first so far
abbrev pub words_from : Word → List ℕ → List Word
words_from w [] = closed w []
words_from w (c ∷ text) = is_white c ⇒ closed w (words_from [] text) ∣ words_from (w ++ (c ∷ [])) text

unfoldable pub words_in : List ℕ → List Word
words_in text = words_from [] text

-- a number by its digits in base b, n being what those before them say
abbrev pub number_from : ℕ → ℕ → Word → ℕ
number_from b n [] = n
number_from b n (d ∷ ds) = number_from b (b * n + (d - code "0")) ds

unfoldable pub number_in : Word → ℕ
number_in w = number_from 10 0 w

-- the width that a declaration gives the identifier: `$var`, the type, the size, the identifier
unfoldable pub size_in : Word → List Word → ℕ
size_in id [] = 0
size_in id (w ∷ ws) = same_word w var && same_word (get_or ws 2 []) id ⇒ number_in (get_or ws 1 []) ∣ size_in id ws

-- what stands behind `$enddefinitions $end`
unfoldable pub changes_in : List Word → List Word
changes_in [] = []
changes_in (w ∷ ws) = same_word w enddefinitions ⇒ drop 1 ws ∣ changes_in ws

-- a reader that asks for an identifier at a time: the time read last, the digits of a vector whose identifier comes next (none: no
-- vector), and the identifier's last value at or before the time asked for
pub record Reader : Type 0 where
  pub now : ℕ
  pub digits : List ℕ
  pub value : List ℕ

abbrev pub first_of : Word → ℕ
first_of [] = 0
first_of (c ∷ w) = c

abbrev pub rest_of : Word → Word
rest_of [] = []
rest_of (c ∷ w) = w

abbrev pub is_none : List ℕ → Bool
is_none [] = true
is_none (c ∷ w) = false

-- `0 1 x X z Z`
abbrev pub is_digit : ℕ → Bool
is_digit c = eqb c (code "0") || (eqb c (code "1") || (eqb c (code "x") || (eqb c (code "X") || (eqb c (code "z") || eqb c (code "Z")))))

-- a change of an identifier to a value
abbrev pub changed : Word → ℕ → Reader → Word → List ℕ → Reader
changed id asked r of v =
    record { now = r.now; digits = []; value = same_word of id && leb r.now asked ⇒ v ∣ r.value }

-- the next word: the identifier of a vector; `#` and a time; `b` or `B` and the digits of a vector; a digit and the identifier of a scalar
unfoldable pub next : Word → ℕ → Reader → Word → Reader
next id asked r w =
    not (is_none r.digits) ⇒ changed id asked r w r.digits
    ∣ eqb (first_of w) (code "#") ⇒ record { now = number_in (rest_of w); digits = []; value = r.value }
    ∣ eqb (first_of w) (code "b") || eqb (first_of w) (code "B") ⇒ record { now = r.now; digits = rest_of w; value = r.value }
    ∣ is_digit (first_of w) ⇒ changed id asked r (rest_of w) (first_of w ∷ [])
    ∣ r

unfoldable pub read_all : Word → ℕ → Reader → List Word → Reader
read_all id asked r [] = r
read_all id asked r (w ∷ ws) = read_all id asked (next id asked r w) ws

-- "a shorter value is extended on the left", by 0 where its first digit is 0 or 1, else by its first digit
abbrev pub fill_of : List ℕ → ℕ
fill_of v = eqb (first_of v) (code "1") ⇒ code "0" ∣ first_of v

unfoldable pub extended : ℕ → List ℕ → List ℕ
extended width v = replicate (width - length v) (fill_of v) ++ v

-- the value of an identifier at a time
unfoldable pub value_at : List ℕ → Word → ℕ → List ℕ
value_at text id asked =
    extended (size_in id (words_in text))
    (read_all id asked (record { now = 0; digits = []; value = [] }) (changes_in (words_in text))).value
