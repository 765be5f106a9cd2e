-- The laws of a model's own pair table. Assumes nothing.
use mathlib.Core.Path.{◌≡◌, refl}
use mathlib.Core.List.{[], ◌∷◌, map}
use Prim.Native.Nat.{ℕ}
use borrow.Author.Tests.{eq-eqb}
use Rattle.values.specs.Nine.{Z}
use Rattle.values.specs.Resolve.{resolution_by}
use Rattle.blocks.specs.Records.{bus, Model, model_of, signal_at}
use Rattle.tables.proofs.Entries.{table_standard, pair_own}
use Rattle.model.proofs.Facts.{facts}
use Rattle.model.proofs.Rules.{accepted}
use Rattle.rules.specs.Configuration.{Configuration, driving_of, resolved_or}
use Rattle.rules.specs.Steps.{taken, undriven, value_after}
use Rattle.rules.proofs.Numberings.{one_value}
use Rattle.session.specs.OwnTableLaws.{OwnTableLaws}

single : (M : Model) (other v : ℕ) → resolved_or M other (v ∷ []) ≡ v
unfolding resolution_by
single M other v = refl

all_null : (M : Model) (c : Configuration) (s : ℕ) → (signal_at M s).kind ≡ bus → driving_of M (map (taken c.time) c.drivers) s ≡ [] → value_after M c s ≡ Z
unfolding undriven
all_null M c s e d = rw (d, eq-eqb (signal_at M s).kind bus e)

pub own_table_laws : OwnTableLaws
own_table_laws =
    record {
      unaltered = table_standard;
      own = pair_own;
      single = single;
      all_null = all_null;
      numberings = λ m h. one_value (model_of m) (facts (model_of m) (accepted m h));
    }
