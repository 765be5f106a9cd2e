-- The nine values of IEEE 1164: "Codes 0 to 8 are U X 0 1 Z W L H -."
use Rattle.std.specs.Prelude.{Bool, ◌||◌, ℕ, eqb, ltb}
use Rattle.base.specs.Cases.{◌∣◌, ◌⇒◌}

abbrev pub U : ℕ
U = 0

abbrev pub X : ℕ
X = 1

abbrev pub ‘0’ : ℕ
‘0’ = 2

abbrev pub ‘1’ : ℕ
‘1’ = 3

abbrev pub Z : ℕ
Z = 4

abbrev pub W : ℕ
W = 5

abbrev pub L : ℕ
L = 6

abbrev pub H : ℕ
H = 7

-- written '-', "don't care"
abbrev pub ‘-’ : ℕ
‘-’ = 8

-- the code of a value; a number above 8, which no rule of the paper meets, is read as X
unfoldable pub code_of : ℕ → ℕ
code_of x = ltb x 9 ⇒ x ∣ X

unfoldable pub is_u : ℕ → Bool
is_u x = eqb x U

-- 0 or L
unfoldable pub low : ℕ → Bool
low x = eqb x ‘0’ || eqb x L

-- 1 or H
unfoldable pub high : ℕ → Bool
high x = eqb x ‘1’ || eqb x H
