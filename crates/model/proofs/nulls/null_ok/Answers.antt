use mathlib.Core.Path.{ap}
use mathlib.Core.Logic.{inr}
use Rattle.blocks.specs.Lent.{model_in}
use Rattle.blocks.specs.declared.records.SignalRecord.{SignalRecord}
use Rattle.fields.proofs.StatementFields.{names_signal}
use Rattle.trees.proofs.TypeForms.{read_ok}
use Rattle.model.proofs.RuleForms.{not_null, null_form}
use Rattle.model.proofs.nulls.null_ok.Goals as goal

pub returns-then-s-ne6 : goal.returns-then-s-ne6
returns-then-s-ne6 c = not_null _ _ _ c.statement-s.ensures c.if-s-ne6.true

pub signal-requires : goal.signal-requires
signal-requires c =
    let M = model_in c.args.records.now in
    names_signal M c.args.n c.statement-s.result (read_ok _ _ _ c.statement-s.ensures c.requires.fields c.requires.n_in_bounds) (inr c.if-s-ne6.false)

pub returns : goal.returns
returns c = null_form _ _ _ c.statement-s.ensures c.if-s-ne6.false _ (ap (λ (d : SignalRecord). d.kind) c.signal.ensures)
