-- Refusal 20: null transactions on plain signals.
use Rattle.std.specs.Prelude.{Bool, true, not, eqb, length}
use Rattle.base.specs.Below.{all_below}
use Rattle.base.specs.Cases.{◌∣◌, ◌is◌⇒◌}
use Rattle.blocks.specs.Records.{plain, Model, signal_at, statement_at}
use Rattle.blocks.specs.declared.records.StatementRecord.{StatementRecord}

-- "kind 6 on a plain signal"
unfoldable pub null_ok : Model → StatementRecord → Bool
null_ok M s = s.kind is 6 ⇒ not (eqb (signal_at M s.a).kind plain) ∣ true

-- 20.
unfoldable pub nulls_ok : Model → Bool
nulls_ok M = all_below (λ n. null_ok M (statement_at M n)) (length M.statements)
