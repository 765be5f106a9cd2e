-- `sides_of`: the sets have what the statements passed assign without delay and wait on. Assumes nothing.
use Rattle.blocks.specs.Lent.{model_in}
use Rattle.leads.proofs.RelationLaws.{Seen}
use Rattle.leads.proofs.sides_of.Given as goal

abbrev pub invariant-loop-i : goal.invariant-loop-i
invariant-loop-i l = Seen (model_in l.records) l.p l.d l.i l.sides
