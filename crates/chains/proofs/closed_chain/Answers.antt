use Rattle.std.proofs.Common.{rules, refl}
use Rattle.chains.proofs.Sought.{none_begun, none_next}
use Rattle.chains.proofs.Rounds.{off_chain, round_closes, chain_found, returned, returned_none}
use Rattle.chains.proofs.closed_chain.Goals as goal

pub loop-s-init : goal.loop-s-init
loop-s-init c = (search rules, none_begun _)

pub chain_from-requires : goal.chain_from-requires
chain_from-requires c =
    let r = c.in-Some.ensures in
    record {
      few = search rules;
      there = search rules;
      within = rw r.0 r.1;
      round = round_closes _ _ _ _ r.0 (rw r.0 r.1);
    }

pub returns-in-Some : goal.returns-in-Some
returns-in-Some c =
    let r = c.in-Some.ensures in
    returned _ _ _ _ (chain_found _ _ _ _ (search rules) c.loop-s.invariant.1 r.0 (rw r.0 r.1)) c.chain_from.ensures

pub loop-s-preserved : goal.loop-s-preserved
loop-s-preserved c = (search rules, none_next _ _ c.loop-s.invariant.1 (off_chain _ _ _ _ refl c.in_default.ensures))

pub returns : goal.returns
returns c = returned_none _ _ _ c.loop-s.invariant.0 c.loop-s-test.false c.loop-s.invariant.1
