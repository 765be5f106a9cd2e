use mathlib.Core.Path.{sym}
use Rattle.std.proofs.lemmas.Result.{err_from_is_err_and}
use Rattle.model.proofs.Rules.{blocks_refuse, records_refuse, records_pass, length_holds, heads_hold, totals_hold}
use Rattle.model.proofs.load.load.Goals as goal

pub returns-in_err-check_blocks : goal.returns-in_err-check_blocks
returns-in_err-check_blocks c =
    let p = err_from_is_err_and c.from_residual.result c.from_residual.ensures.1 in rw (p.1, p.2) (blocks_refuse _ _ c.in_err-check_blocks.ensures)

pub put_index-requires-clause-m_value : goal.put_index-requires-clause-m_value
put_index-requires-clause-m_value c = length_holds _ (sym c.in_ok-check_blocks.ensures)

pub put_index-requires-clause-m_value_2 : goal.put_index-requires-clause-m_value_2
put_index-requires-clause-m_value_2 c = heads_hold _ (sym c.in_ok-check_blocks.ensures)

pub put_index-requires-clause-m_value_3 : goal.put_index-requires-clause-m_value_3
put_index-requires-clause-m_value_3 c = totals_hold _ (sym c.in_ok-check_blocks.ensures)

pub returns-in_err-check_records : goal.returns-in_err-check_records
returns-in_err-check_records c =
    let p = err_from_is_err_and c.from_residual-in_err-check_records.result c.from_residual-in_err-check_records.ensures.1 in
    rw (p.1, p.2) (records_refuse _ (sym c.in_ok-check_blocks.ensures) _ _ c.in_err-check_records.ensures)

pub returns : goal.returns
returns c = records_pass _ (sym c.in_ok-check_blocks.ensures) _ _ c.totals-t.ensures c.in_ok-check_records.ensures
