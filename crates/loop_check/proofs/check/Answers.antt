-- `check`: a refused model's number, or the chain of the rows that are its relation. Assumes nothing.
use mathlib.Core.Path.{sym}
use Rattle.std.proofs.lemmas.Result.{err_from_is_err_and}
use Rattle.model.proofs.Facts.{facts}
use Rattle.loop_check.proofs.CheckLaws.{refused_is, accepted_is, chain_is, loop_laws}
use Rattle.loop_check.proofs.check.Goals as goal

pub returns-in_err-loaded : goal.returns-in_err-loaded
returns-in_err-loaded c =
    let p = err_from_is_err_and c.from_residual.result c.from_residual.ensures.1 in
    rw (p.1, p.2) (record { check_is = refused_is _ _ c.in_err-loaded.ensures.refusal; loop_laws = loop_laws })

pub records-records-requires : goal.records-records-requires
records-records-requires c = c.in_ok-loaded.ensures.loaded

pub rows-relation-requires : goal.rows-relation-requires
rows-relation-requires c = record { facts = rw c.records-records.ensures.lent.0 (facts _ c.in_ok-loaded.ensures.loaded.usable.accepted) }

pub waits_later-later-requires : goal.waits_later-later-requires
waits_later-later-requires c = record { facts = rw c.records-records.ensures.lent.0 (facts _ c.in_ok-loaded.ensures.loaded.usable.accepted) }

pub closed_chain-chain-requires : goal.closed_chain-chain-requires
closed_chain-chain-requires c =
    let l = c.in_ok-loaded.ensures.loaded in
    rw l.totals.processes (facts _ l.usable.accepted).totals.processes

pub returns : goal.returns
returns c =
    let l = c.in_ok-loaded.ensures.loaded in
    let chain = rw l.totals.processes at c.closed_chain-chain.ensures in
    let relation = rw c.records-records.ensures.lent.0 at c.rows-relation.ensures in
    let later = rw c.records-records.ensures.lent.0 at c.waits_later-later.ensures in
    record { check_is = accepted_is _ _ (sym c.in_ok-loaded.ensures.refusal) (chain_is _ _ _ relation chain) later; loop_laws = loop_laws }
