-- Refusal 4, the totals of a model; and the rules of blocks in checking order.
use Rattle.std.specs.Prelude.{◌≡◌, Bool, ◌||◌, List, [], ◌∷◌, ℕ, eqb, leb, length}
use Rattle.base.specs.Below.{every}
use Rattle.base.specs.Rules.{Rule, ◌needs◌}
use Rattle.blocks.specs.Blocks.{length_ok, sums_ok, heads_ok}
use Rattle.blocks.specs.Records.{Model, model_of}
use Rattle.blocks.specs.declared.index.Totals.{Totals}

-- 4. "A total is outside its limit." Of kind 7 "none, or nine records .. any other total is 4"
unfoldable pub totals_ok : Model → Bool
totals_ok M =
    every
    (leb (length M.signals) 32
    ∷ leb (length M.variables) 64
    ∷ leb 1 (length M.processes)
    ∷ leb (length M.processes) 16
    ∷ leb (length M.drivers) 64
    ∷ leb (length M.nodes) 400
    ∷ leb 1 (length M.statements)
    ∷ leb (length M.statements) 200
    ∷ (eqb (length M.rows) 0 || eqb (length M.rows) 9)
    ∷ [])

-- the totals of a model
pub record TotalsOf (M : Model) (t : Totals) : Type 0 where
  pub signals : t.signals ≡ length M.signals
  pub variables : t.variables ≡ length M.variables
  pub processes : t.processes ≡ length M.processes
  pub drivers : t.drivers ≡ length M.drivers
  pub nodes : t.nodes ≡ length M.nodes
  pub statements : t.statements ≡ length M.statements
  pub rows : t.rows ≡ length M.rows

-- the rules that the blocks are judged by, in checking order
unfoldable pub block_rules : List ℕ → List Rule
block_rules m =
    (1 needs length_ok m)
    ∷ (2 needs sums_ok m)
    ∷ (3 needs heads_ok m)
    ∷ (4 needs totals_ok (model_of m))
    ∷ []
