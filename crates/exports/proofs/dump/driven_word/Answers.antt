use borrow.Author.Tests.{eq-eqb, ne_eqb}
use Rattle.waveforms.specs.Pending.{driven_of}
use Rattle.exports.proofs.dump.driven_word.Goals as goal

pub returns-then-w-eq-NULL : goal.returns-then-w-eq-NULL
unfolding driven_of
returns-then-w-eq-NULL c = rw (eq-eqb _ _ c.if-w-eq-NULL.true)

pub returns-else-w-eq-NULL : goal.returns-else-w-eq-NULL
unfolding driven_of
returns-else-w-eq-NULL c = rw (ne_eqb _ _ c.if-w-eq-NULL.false)
