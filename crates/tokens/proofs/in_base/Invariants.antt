-- The loop keeps that the bytes say what `v` and those that follow say, and that `v` is at most `most`. Assumes nothing.
use mathlib.Core.Path.{◌≡◌}
use Prim.Native.Nat.{◌≤◌}
use lib.ListN.{drop}
use Rattle.grammar.specs.Tokens.{in_base}
use Rattle.tokens.proofs.in_base.Given as goal

abbrev pub invariant-loop-b : goal.invariant-loop-b
invariant-loop-b l = (l.v ≤ l.most) × (in_base l.base l.origin 0 l.t ≡ in_base l.base l.origin l.v (drop l.b-index l.t))
