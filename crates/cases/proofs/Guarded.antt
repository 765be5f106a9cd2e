-- The shared bus and register, by computation. Assumes nothing.
use mathlib.Core.Path.{◌≡◌, refl}
use mathlib.Core.List.{flatten}
use Prim.Native.Nat.{ℕ}
use Rattle.base.specs.Below.{all_below, sum_below, every}
use Rattle.base.specs.Rules.{first_failing}
use Rattle.values.specs.Bench.{holds, Holds}
use Rattle.blocks.specs.Blocks.{length_ok, block_sum, sum_ok, trailing_at, trailing_ok}
use Rattle.blocks.specs.Records.{model_of}
use Rattle.model.specs.Rules.{record_rules, refusal_of}
use Rattle.cases.specs.Guarded.{shared, shared_signals, shared_processes, shared_drivers, shared_nodes, shared_statements, shared_blocks, shared_bytes, guarded_rows, GuardedPlayed}
use Rattle.cases.proofs.Rules.{the_orders, the_checks, the_reading}
use Rattle.cases.proofs.Blocks.{accepted_bytes}

pub guarded_hold : Holds guarded_rows
unfolding guarded_rows shared holds record_rules first_failing the_orders the_checks
guarded_hold = refl

pub guarded_played : GuardedPlayed
unfolding guarded_rows shared the_orders the_checks
guarded_played =
    record {
      said = refl;
      accepted = record { totals = refl; fields = refl; trees = refl; types = refl; owners = refl; nulls = refl; symmetric = refl; associative = refl };
      one_off = refl;
      all_off = refl;
    }

-- named on an `unfolding` line, it opens the model's bytes
the_bytes : ℕ
unfolding flatten shared_bytes shared_blocks shared_signals shared_processes shared_drivers shared_nodes shared_statements
the_bytes = 0

pub shared_read : model_of shared_bytes ≡ shared
unfolding the_reading the_bytes shared
shared_read = refl

pub accepted_shared : refusal_of shared_bytes ≡ 0
unfolding the_bytes length_ok every all_below sum_below block_sum sum_ok trailing_at trailing_ok
accepted_shared = accepted_bytes shared_blocks shared refl refl refl refl shared_read guarded_played.accepted
