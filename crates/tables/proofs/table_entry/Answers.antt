use mathlib.Core.Path.{sym, ◌∙◌}
use native.Mathlib.Omega.{arith}
use Rattle.tables.proofs.Entries.{rows_nine, entry_standard, entry_own}
use Rattle.tables.proofs.table_entry.Goals as goal

pub own_code-requires : goal.own_code-requires
own_code-requires c =
    let e = rows_nine _ c.args.records.now.starts.totals (λ z. c.if-records-eq0.false (c.args.records.now.totals_of.rows ∙ z)) in
    record { n_in_bounds = rw e (omega arith); i_bound = omega arith }

pub returns-then-records-eq0 : goal.returns-then-records-eq0
returns-then-records-eq0 c = c.standard.ensures ∙ entry_standard _ _ (sym c.args.records.now.totals_of.rows ∙ c.if-records-eq0.true)

pub returns-else-records-eq0 : goal.returns-else-records-eq0
returns-else-records-eq0 c =
    let e = rows_nine _ c.args.records.now.starts.totals (λ z. c.if-records-eq0.false (c.args.records.now.totals_of.rows ∙ z)) in
    c.own_code.ensures ∙ entry_own _ _ (λ z. c.if-records-eq0.false (c.args.records.now.totals_of.rows ∙ z)) (rw e (omega arith))
