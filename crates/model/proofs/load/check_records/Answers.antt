use mathlib.Core.Path.{sym, ◌∙◌}
use Rattle.model.proofs.Entries.{table_put}
use Rattle.model.proofs.Rules.{fields_fail, trees_fail, types_fail, owners_fail, nulls_fail, table_decides}
use Rattle.model.proofs.load.check_records.Goals as goal

pub returns-then-not-fields_ok : goal.returns-then-not-fields_ok
returns-then-not-fields_ok c = fields_fail _ _ (sym c.fields_ok.ensures ∙ c.if-not-fields_ok.true)

pub returns-then-not-trees_ok : goal.returns-then-not-trees_ok
returns-then-not-trees_ok c = trees_fail _ _ (sym c.fields_ok.ensures ∙ c.if-not-fields_ok.false) (sym c.trees_ok.ensures ∙ c.if-not-trees_ok.true)

pub returns-then-not-types_ok : goal.returns-then-not-types_ok
returns-then-not-types_ok c =
    types_fail _ _ (sym c.fields_ok.ensures ∙ c.if-not-fields_ok.false) (sym c.trees_ok.ensures ∙ c.if-not-trees_ok.false) (sym c.types_ok.ensures.value ∙ c.if-not-types_ok.true)

pub returns-then-not-owners_ok : goal.returns-then-not-owners_ok
returns-then-not-owners_ok c =
    owners_fail _ _ (sym c.fields_ok.ensures ∙ c.if-not-fields_ok.false) (sym c.trees_ok.ensures ∙ c.if-not-trees_ok.false)
    (sym c.types_ok.ensures.value ∙ c.if-not-types_ok.false) (sym c.owners_ok.ensures.value ∙ c.if-not-owners_ok.true)

pub returns-then-not-nulls_ok : goal.returns-then-not-nulls_ok
returns-then-not-nulls_ok c =
    nulls_fail _ _ (sym c.fields_ok.ensures ∙ c.if-not-fields_ok.false) (sym c.trees_ok.ensures ∙ c.if-not-trees_ok.false)
    (sym c.types_ok.ensures.value ∙ c.if-not-types_ok.false) (sym c.owners_ok.ensures.value ∙ c.if-not-owners_ok.false) (sym c.nulls_ok.ensures ∙ c.if-not-nulls_ok.true)

pub check_table-requires : goal.check_table-requires
check_table-requires c = record { table_in = table_put _ _ _ c.owners_ok.ensures.drivers_in c.put_table.ensures; totals_of = c.requires.totals_of }

pub returns : goal.returns
returns c =
    table_decides _ _ (sym c.fields_ok.ensures ∙ c.if-not-fields_ok.false) (sym c.trees_ok.ensures ∙ c.if-not-trees_ok.false)
    (sym c.types_ok.ensures.value ∙ c.if-not-types_ok.false) (sym c.owners_ok.ensures.value ∙ c.if-not-owners_ok.false) (sym c.nulls_ok.ensures ∙ c.if-not-nulls_ok.false)
    _ c.owners_ok.ensures.drivers_in c.put_table.ensures _ c.check_table.ensures
