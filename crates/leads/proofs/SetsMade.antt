-- The sets of the processes, made one after the other; and that what two of them have in common says whether the one process leads to
-- the other. Assumes nothing.
use mathlib.Core.Path.{◌≡◌, refl, sym, ◌∙◌}
use mathlib.Core.Bool.{Bool, true, false, ◌&&◌, true≢false}
use mathlib.Core.List.{List}
use Prim.Native.Nat.{ℕ, ◌+◌, ◌≤◌, ◌<◌}
use native.Mathlib.Omega.{arith}
use lib.Dec.{eqb}
use lib.ListN.{length, get_or, set, replicate, length-set}
use borrow.Author.Tests.{eqb-true, eq-eqb}
use Rattle.base.specs.Below.{any_below}
use Rattle.base.proofs.Below.{and_left, and_right, any_found, any_same, each_next}
use Rattle.base.proofs.Cases.{either_way}
use Rattle.base.proofs.Course.{found}
use Rattle.sets.specs.Sets.{SetOf}
use Rattle.chains.specs.Rows.{Related}
use Rattle.blocks.specs.Records.{Model, process_at, statement_at}
use Rattle.blocks.specs.declared.records.StatementRecord.{StatementRecord}
use Rattle.model.specs.Facts.{Facts}
use Rattle.leads.specs.Leads.{some_of, without_delay, waits_on, leads_to}
use Rattle.leads.specs.Relation.{assigns_soon, SidesOf, RelationOf}
use Rattle.leads.specs.declared.Sides.{Sides}
use Rattle.leads.proofs.RelationLaws.{statement_there, signal_below}

-- two tests that hold where the other does are one
same_test : (a b : Bool) → (a ≡ true → b ≡ true) → (b ≡ true → a ≡ true) → a ≡ b
same_test true b f g = sym (f refl)
same_test false b f g = either_way b (λ t. absurd (true≢false (sym (g t)))) (λ t. sym t)

-- the sets of the first n processes are made
pub record SetsMade (M : Model) (assigns waits : List ℕ) (n : ℕ) : Type 0 where
  pub most : n ≤ length M.processes
  pub room : length assigns ≡ 16
  pub space : length waits ≡ 16
  pub assigned : (i : ℕ) → i < n → SetOf (assigns_soon M i) (get_or assigns i 0)
  pub waited : (i : ℕ) → i < n → SetOf (waits_on M i) (get_or waits i 0)

module _ (M : Model) (fs : Facts M) where
  pub none_made : SetsMade M (replicate 16 0) (replicate 16 0) 0
  none_made = record { most = omega arith; room = refl; space = refl; assigned = λ i l. absurd (omega arith); waited = λ i l. absurd (omega arith) }

  module _ (assigns waits : List ℕ) (n : ℕ) (s : SetsMade M assigns waits n) where
    pub one_made : (r : Sides) → n < length M.processes → SidesOf M n r
        → SetsMade M (set assigns n r.assigned) (set waits n r.waited) (n + 1)
    one_made r h p =
        record {
          most = omega arith;
          room = length-set assigns n r.assigned ∙ s.room;
          space = length-set waits n r.waited ∙ s.space;
          assigned = each_next (λ i x. SetOf (assigns_soon M i) x) assigns n r.assigned (omega (arith, s.room, fs.totals.processes)) s.assigned p.assigned;
          waited = each_next (λ i x. SetOf (waits_on M i) x) waits n r.waited (omega (arith, s.space, fs.totals.processes)) s.waited p.waited;
        }

  -- process p assigns without delay a signal that process q waits on just where it leads to q
  module _ (p q : ℕ) (h : p < length M.processes) where
    statement : ℕ → StatementRecord
    statement i = statement_at M ((process_at M p).first + i)

    leads : ℕ → Bool
    leads i = without_delay M (statement i) && waits_on M q (statement i).a

    met_leads : any_below (λ x. waits_on M q x && assigns_soon M p x) 32 ≡ true → leads_to M p q ≡ true
    unfolding assigns_soon leads_to some_of leads statement
    met_leads t =
        let f = found (λ x. waits_on M q x && assigns_soon M p x) 32 t in
        let g = found (λ i. eqb (statement i).a f.at && without_delay M (statement i)) (process_at M p).count
        (and_right (waits_on M q f.at) _ f.passes) in
        let same : (statement g.at).a ≡ f.at = eqb-true _ _ (and_left _ _ g.passes) in
        let waits : waits_on M q f.at ≡ true = and_left _ _ f.passes in
        let soon : without_delay M (statement g.at) ≡ true = and_right (eqb (statement g.at).a f.at) _ g.passes in
        any_found leads (process_at M p).count g.at g.below (rw (soon, same, waits))

    leads_met : leads_to M p q ≡ true → any_below (λ x. waits_on M q x && assigns_soon M p x) 32 ≡ true
    unfolding assigns_soon leads_to some_of leads statement without_delay
    leads_met t =
        let g = found leads (process_at M p).count t in
        let s : StatementRecord = statement g.at in
        let soon : without_delay M s ≡ true = and_left _ _ g.passes in
        let low : s.a < 32 = signal_below M fs ((process_at M p).first + g.at) (statement_there M fs p h (process_at M p) refl g.at g.below) s refl (and_left _ _ soon) in
        any_found (λ x. waits_on M q x && any_below (λ i. eqb (statement i).a x && without_delay M (statement i)) (process_at M p).count) 32 s.a low
        (rw (and_right (without_delay M s) _ g.passes)
        (any_found (λ i. eqb (statement i).a s.a && without_delay M (statement i)) (process_at M p).count g.at g.below (rw (eq-eqb s.a s.a refl, soon))))

    pub leads_is : any_below (λ x. waits_on M q x && assigns_soon M p x) 32 ≡ leads_to M p q
    leads_is = same_test _ _ met_leads leads_met

  pub rows_made : (assigns waits rows : List ℕ) (n t : ℕ) → SetsMade M assigns waits n → t ≤ n → t ≡ length M.processes
      → Related assigns waits t rows → RelationOf M rows
  rows_made assigns waits rows n t s g e r =
      record {
        at = λ p q h l.
            r.at p q (omega arith) (omega arith)
            ∙ any_same _ (λ x. waits_on M q x && assigns_soon M p x) 32
            (λ x k. rw ((s.waited q (omega (arith, s.most))).at x k, (s.assigned p (omega (arith, s.most))).at x k))
            ∙ leads_is p q h;
      }
