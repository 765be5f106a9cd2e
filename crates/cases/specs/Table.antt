-- The proved table of the bench, whole: "The cases marked [p] form one table, carried by one theorem over its rows." The items of
-- document 02 add their rows.
use Rattle.std.specs.Prelude.{◌≡◌, List, [], ◌∷◌, map, ◌++◌, length, replicate}
use Rattle.values.specs.Nine.{U, X, ‘0’, ‘-’, W, L}
use Rattle.values.specs.Bench as Values
use Rattle.values.specs.Bench.{Row}
use Rattle.model.specs.Rules.{Accepted}
use Rattle.cases.specs.Arithmetic.{arithmetic_rows, arithmetic_refusals}
use Rattle.cases.specs.Bench.{adder, scheduler, sum_rows, settle_rows, pending_rows}
use Rattle.cases.specs.Faults.{fault_rows, fault_refusals}

unfoldable pub rows : List Row
rows = Values.rows ++ sum_rows ++ settle_rows ++ pending_rows ++ arithmetic_rows ++ fault_rows

-- what the papers say, case by case: the table has a row for each
pub record TableWhole : Type 0 where
  pub resolutions : map (λ r. r.said) Values.rows ≡ X ∷ W ∷ L ∷ ‘0’ ∷ U ∷ ‘-’ ∷ X ∷ []
  pub sums : map (λ r. r.said) sum_rows ≡ 0 ∷ 2147483647 ∷ 1 ∷ []
  pub settles : map (λ r. r.said) settle_rows ≡ 1 ∷ 0 ∷ []
  pub pendings : map (λ r. r.said) pending_rows ≡ 7 ∷ 8 ∷ 0 ∷ 8 ∷ 3 ∷ []
  pub arithmetic : length arithmetic_rows ≡ 75
  pub faults : length fault_rows ≡ 37
  pub all : length rows ≡ 129
  -- the models that it plays are accepted
  pub adder_accepted : Accepted adder
  pub scheduler_accepted : Accepted scheduler
  pub arithmetic_accepted : arithmetic_refusals ≡ replicate 75 0
  pub faults_accepted : fault_refusals ≡ replicate 16 0
