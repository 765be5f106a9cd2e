-- What a function promises that puts a text into a buffer.
use Rattle.std.specs.Prelude.{◌≡◌, List, ◌++◌, ℕ, ◌+◌, ◌≤◌, length, take, drop}

-- places that are counted to: far beyond any buffer, so that no sum of a place and a text's length wraps
abbrev pub far : ℕ
far = 4611686018427387904

-- a text was put at `at`, and r is the place behind it: where the buffer holds it, `old` became `new`, and what lies behind stays. Where it
-- does not hold it, the text is counted all the same, and what the buffer has then is left open: parts of the text may stand there.
pub record Puts (text old new : List ℕ) (at r : ℕ) : Type 0 where
  pub place : r ≡ at + length text
  pub bytes : r ≤ length old → take r new ≡ take at old ++ text
  pub rest : r ≤ length old → drop r new ≡ drop r old
