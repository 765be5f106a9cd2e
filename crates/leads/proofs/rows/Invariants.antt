-- `rows`: the sets of the processes passed are made. Assumes nothing.
use Rattle.blocks.specs.Lent.{model_in}
use Rattle.leads.proofs.SetsMade.{SetsMade}
use Rattle.leads.proofs.rows.Given as goal

abbrev pub invariant-loop-p : goal.invariant-loop-p
invariant-loop-p l = SetsMade (model_in l.records) l.assigns l.waits l.p
