-- "The base holds the standard's operator tables. They say:" the four sentences below, each by its classes, in its order.
use Rattle.std.specs.Prelude.{Bool, ◌&&◌, ◌||◌, not, ℕ}
use Rattle.base.specs.Cases.{◌∣◌, ◌⇒◌}
use Rattle.values.specs.Nine.{U, X, ‘0’, ‘1’, is_u, low, high}

-- "`not` sends 0, L to 1, 1, H to 0, U to U, the rest to X."
unfoldable pub not_of : ℕ → ℕ
not_of x =
    low x ⇒ ‘1’
    ∣ high x ⇒ ‘0’
    ∣ is_u x ⇒ U
    ∣ X

-- "`and` is 0 if either is 0 or L; else U if either is U; else 1 if both are 1 or H; else X."
unfoldable pub and_of : ℕ → ℕ → ℕ
and_of x y =
    low x || low y ⇒ ‘0’
    ∣ is_u x || is_u y ⇒ U
    ∣ high x && high y ⇒ ‘1’
    ∣ X

-- "`or` is the same with 0, L and 1, H exchanged": 1 if either is 1 or H; else U if either is U; else 0 if both are 0 or L; else X
unfoldable pub or_of : ℕ → ℕ → ℕ
or_of x y =
    high x || high y ⇒ ‘1’
    ∣ is_u x || is_u y ⇒ U
    ∣ low x && low y ⇒ ‘0’
    ∣ X

-- one of 0 1 L H
abbrev pub level : ℕ → Bool
level x = low x || high x

-- "`xor` is U if either is U; else X if either is none of 0 1 L H; else 1 if they differ as 0/L against 1/H, else 0."
unfoldable pub xor_of : ℕ → ℕ → ℕ
xor_of x y =
    is_u x || is_u y ⇒ U
    ∣ not (level x) || not (level y) ⇒ X
    ∣ (low x && high y) || (high x && low y) ⇒ ‘1’
    ∣ ‘0’
