-- `standing_refusal`: each test is the next line of `standing_refusal`. Assumes nothing.
use mathlib.Core.Path.{sym, ◌∙◌}
use Rattle.due.specs.Due.{standing_refusal}
use Rattle.due.proofs.standing_refusal.Goals as goal

pub returns-then-any_standing : goal.returns-then-any_standing
unfolding standing_refusal
returns-then-any_standing c n = rw (sym c.any_standing.ensures ∙ c.if-any_standing.true)

pub returns-then-any_standing-2 : goal.returns-then-any_standing-2
unfolding standing_refusal
returns-then-any_standing-2 c n = rw (sym c.any_standing.ensures ∙ c.if-any_standing.false, sym c.any_standing-2.ensures ∙ c.if-any_standing-2.true)

pub returns : goal.returns
unfolding standing_refusal
returns c n = rw (sym c.any_standing.ensures ∙ c.if-any_standing.false, sym c.any_standing-2.ensures ∙ c.if-any_standing-2.false)
