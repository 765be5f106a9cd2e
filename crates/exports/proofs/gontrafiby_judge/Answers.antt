use native.Mathlib.Omega.{arith}
use Rattle.model.proofs.Rules.{refusal_most}
use Rattle.exports.proofs.gontrafiby_judge.Goals as goal

pub overflow_cast-result : goal.overflow_cast-result
overflow_cast-result c = omega (arith, c.number.ensures, c.in-Err.ensures, refusal_most c.args.model.now)
