-- The loop keeps that the tokens from the place on decide. Assumes nothing.
use mathlib.Core.Path.{◌≡◌}
use Prim.Native.Nat.{◌-◌, ◌≤◌}
use lib.ListN.{length}
use Rattle.grammar.specs.Tokens.{from}
use Rattle.given.specs.Names.{names_ok, named}
use Rattle.given.proofs.names_ok.Given as goal

abbrev pub invariant-loop-found : goal.invariant-loop-found
invariant-loop-found l = (l.at ≤ length l.text) × (named l.signals l.variables l.text ≡ names_ok l.signals l.variables (from l.text l.at))

abbrev pub decreases-loop-found : goal.decreases-loop-found
decreases-loop-found l = length l.text - l.at
