-- The value of an expression.
use Rattle.std.specs.Prelude.{ℕ, Result}
use Rattle.rules.specs.declared.value.Failure.{Failure}

-- what a node evaluates to: a value as 32 bits, or a fault with its node
abbrev pub Value : Type 0
Value = Result ℕ Failure
