-- The tests say which token stands at the front. Assumes nothing.
use mathlib.Core.Path.{sym, ◌∙◌}
use native.Mathlib.Omega.{arith}
use Rattle.tokens.proofs.Lexing.{pair_long, run_taken, at_run, at_quoted, at_pair, at_sign}
use Rattle.tokens.proofs.token_at.Goals as goal

pub run_of-requires : goal.run_of-requires
run_of-requires c = run_taken _ _ c.requires (sym c.in_run.ensures ∙ c.if-in_run.true) c.run_length-n.ensures

pub returns-then-in_run : goal.returns-then-in_run
returns-then-in_run c = at_run _ c.requires c.in_run.ensures _ c.if-in_run.true c.run_length-n.ensures c.run_of.ensures.token c.run_of.ensures.stands

pub returns-in-Some : goal.returns-in-Some
returns-in-Some c = at_quoted _ c.requires c.in_run.ensures c.if-in_run.false c.in-Some.ensures

pub bounds-t-1 : goal.bounds-t-1
bounds-t-1 c = pair_long _ (sym c.is_pair.ensures ∙ c.if-is_pair.true)

pub returns-then-is_pair : goal.returns-then-is_pair
returns-then-is_pair c = at_pair _ c.requires c.in_run.ensures c.if-in_run.false c.in_default.ensures c.from-sign.ensures c.is_pair.ensures c.from.ensures c.if-is_pair.true

pub returns : goal.returns
returns c = at_sign _ c.requires c.in_run.ensures c.if-in_run.false c.in_default.ensures c.from-sign.ensures c.is_pair.ensures (omega (arith, c.from-sign.ensures, c.type_inv.t 0)) c.if-is_pair.false
