-- `constant_above_0`, of the node as it was read. Assumes nothing.
use mathlib.Core.Path.{ap}
use mathlib.Core.Bool.{◌&&◌}
use lib.Dec.{eqb, ltb}
use Rattle.blocks.specs.declared.records.NodeRecord.{NodeRecord}
use Rattle.leads.specs.Leads.{constant_above0}
use Rattle.leads.proofs.constant_above_0.Goals as goal

pub returns : goal.returns
unfolding constant_above0
returns c = ap (λ (d : NodeRecord). eqb d.kind 1 && (ltb 0 d.k && ltb d.k 2147483648)) c.node-d.ensures
