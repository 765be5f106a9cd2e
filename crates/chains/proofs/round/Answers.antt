use borrow.Author.Rules.{rules}
use Rattle.chains.proofs.Sought.{none_begun, none_next}
use Rattle.chains.proofs.Rounds.{no_edge, one_edge, closing_is, led_back, round_found, round_none}
use Rattle.chains.proofs.round.Goals as goal

pub loop-l-init : goal.loop-l-init
loop-l-init c = (search rules, none_begun _, no_edge _ _ _ _ (search rules) c.with-set.ensures)

pub returns-then-has : goal.returns-then-has
returns-then-has c =
    let on = one_edge _ _ _ _ _ _ (search rules) c.loop-l.invariant.2 c.meeting-set.ensures in
    let b = led_back _ _ _ _ _ _ (search rules) (search rules) on c.has.ensures in
    round_found _ _ _ _ (search rules) c.loop-l.invariant.1 (closing_is _ _ _ _ _ _ b c.if-has.true)

pub loop-l-preserved : goal.loop-l-preserved
loop-l-preserved c =
    let on = one_edge _ _ _ _ _ _ (search rules) c.loop-l.invariant.2 c.meeting-set.ensures in
    let b = led_back _ _ _ _ _ _ (search rules) (search rules) on c.has.ensures in
    (search rules, none_next _ _ c.loop-l.invariant.1 (closing_is _ _ _ _ _ _ b c.if-has.false), on)

pub returns : goal.returns
returns c = round_none _ _ _ _ c.loop-l.invariant.0 c.loop-l-test.false c.loop-l.invariant.1
