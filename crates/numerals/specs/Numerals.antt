-- Numbers as text, the most significant digit first and without leading zeros.
use Rattle.std.specs.Prelude.{List, ℕ, suc, ◌^◌, ltb}
use Rattle.base.specs.Course.{first_with}
use Rattle.io.specs.Digits.{last_digits}

-- how many digits a number has in base b: at least one, at most suc most
unfoldable pub places_in : ℕ → ℕ → ℕ → ℕ
places_in b most n = suc (first_with (λ k. ltb n (b ^ suc k)) most)

-- a number below b ^ suc most in base b
unfoldable pub numeral : ℕ → ℕ → ℕ → List ℕ
numeral b most n = last_digits b (places_in b most n) n

-- a number below 10 ^ 20 in base ten
unfoldable pub decimal_of : ℕ → List ℕ
decimal_of n = numeral 10 19 n

-- 32 bits in base two
unfoldable pub binary_of : ℕ → List ℕ
binary_of n = numeral 2 31 n

abbrev pub space : ℕ
space = 32

abbrev pub line_feed : ℕ
line_feed = 10
