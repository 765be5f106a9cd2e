use mathlib.Core.Path.{sym}
use native.Mathlib.Nat.{le_antisymm}
use borrow.Author.Rules.{rules}
use Rattle.base.proofs.Below.{list_none}
use Rattle.values.specs.Resolve.{table_by}
use Rattle.blocks.specs.Index.{table_at}
use Rattle.blocks.proofs.Entries.{past, starts_set}
use Rattle.blocks.proofs.Places.{placed_none, placed_next}
use Rattle.tables.specs.Tables.{table_of}
use Rattle.tables.proofs.put_table.Goals as goal

pub loop-n-init : goal.loop-n-init
loop-n-init c = (c.requires.index_len, c.requires.starts, rw list_none (sym (placed_none _ _)))

pub loop-n-preserved : goal.loop-n-preserved
loop-n-preserved c = (search rules, starts_set _ _ _ _ (past table_at tt _) c.loop-n.invariant.1, rw (c.table_entry-x.ensures, c.loop-n.invariant.2) (placed_next _ _ table_at _ (search rules)))

pub returns : goal.returns
unfolding table_of table_by
returns c = rw (le_antisymm c.loop-n.auto.n-end c.loop-n-test.false) at c.loop-n.invariant.2
