use mathlib.Core.Path.{sym}
use Rattle.fields.proofs.FieldLaws.{no_span}
use Rattle.fields.proofs.jump_ok.Goals as goal

pub returns-else-p-records : goal.returns-else-p-records
returns-else-p-records c = rw (sym c.owner_of-p.ensures) (no_span _ _ _ (rw c.args.records.now.totals_of.processes at c.if-p-records.false))
