-- The relation between the processes of a model as sets: what each assigns without delay, what it waits on, and a row of bits for each.
use Rattle.std.specs.Prelude.{◌≡◌, Bool, ◌&&◌, ◌||◌, List, ℕ, ◌<◌, eqb, length}
use Rattle.sets.specs.Sets.{in_set, SetOf}
use Rattle.blocks.specs.Records.{Model}
use Rattle.blocks.specs.declared.records.StatementRecord.{StatementRecord}
use Rattle.chains.specs.Rows.{arrow}
use Rattle.leads.specs.Leads.{some_of, without_delay, waits_on, leads_to}
use Rattle.leads.specs.declared.Sides.{Sides}

-- process p assigns signal x without delay
unfoldable pub assigns_soon : Model → ℕ → ℕ → Bool
assigns_soon M p x = some_of M p (λ s. eqb s.a x && without_delay M s)

-- the sets with one statement more: the signal that it assigns without delay, or those that it waits on
pub record SeenWith (M : Model) (s : StatementRecord) (old new : Sides) : Type 0 where
  pub assigned : SetOf (λ x. in_set old.assigned x || (eqb s.a x && without_delay M s)) new.assigned
  pub waited : SetOf (λ x. in_set old.waited x || (eqb s.kind 5 && in_set s.set x)) new.waited

-- the sets of process p
pub record SidesOf (M : Model) (p : ℕ) (r : Sides) : Type 0 where
  pub assigned : SetOf (assigns_soon M p) r.assigned
  pub waited : SetOf (waits_on M p) r.waited

-- row p has bit q just where process p leads to process q
pub record RelationOf (M : Model) (rows : List ℕ) : Type 0 where
  pub at : (p q : ℕ) → p < length M.processes → q < length M.processes → arrow rows p q ≡ leads_to M p q
