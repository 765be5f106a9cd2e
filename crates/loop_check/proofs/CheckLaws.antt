-- The check of an accepted and of a refused model, and the laws of the chain that it gives. Assumes nothing.
use mathlib.Core.Path.{◌≡◌, refl, sym, ◌∙◌}
use mathlib.Core.Bool.{Bool, false}
use mathlib.Core.List.{List, [], ◌∷◌}
use Prim.Native.Nat.{ℕ}
use native.Mathlib.Omega.{arith}
use lib.Dec.{eqb}
use lib.ListN.{length}
use borrow.Author.Tests.{eqb-true, eq-eqb, ne_eqb}
use Rattle.base.specs.Refusals as refusals
use Rattle.base.specs.declared.refusal.Refusal.{Refusal}
use Rattle.base.proofs.Cases.{by_test}
use Rattle.loops.specs.Chains.{NoChain, Asked}
use Rattle.loops.proofs.Asked.{asked, unique, asked_same}
use Rattle.std.proofs.Common.{Option, Ok, Err, subst}
use Rattle.chains.specs.Rows.{arrow, Holds, Returned}
use Rattle.chains.specs.declared.Chain.{Chain}
use Rattle.blocks.specs.Records.{Model, model_of}
use Rattle.model.specs.Rules.{refusal_of}
use Rattle.model.proofs.Rules.{number_some}
use Rattle.leads.specs.Leads.{leads_to, waits_later}
use Rattle.leads.specs.Relation.{RelationOf}
use Rattle.bounded.proofs.Lists.{bounded}
use Rattle.loop_check.specs.Check.{loop_of, Check, check_of, CheckIs, LoopLaws}
use Rattle.loop_check.specs.declared.Checked.{Checked}

abbrev pub accepted_check : Model → Check
accepted_check M = record { number = 0; chain = loop_of M; later = waits_later M }

abbrev pub refused_check : ℕ → Check
refused_check n = record { number = n; chain = []; later = false }

module _ (m : List ℕ) where
  pub check_accepted : refusal_of m ≡ 0 → check_of m ≡ accepted_check (model_of m)
  unfolding check_of
  check_accepted h = rw (eq-eqb (refusal_of m) 0 h)

  check_refused : (refusal_of m ≡ 0 → ⊥) → check_of m ≡ refused_check (refusal_of m)
  unfolding check_of
  check_refused f = rw (ne_eqb (refusal_of m) 0 f)

  pub number_of : (check_of m).number ≡ refusal_of m
  unfolding check_of
  number_of = by_test (λ (r : Check). r.number ≡ refusal_of m) (eqb (refusal_of m) 0) _ _ (λ t. sym (eqb-true (refusal_of m) 0 t)) (λ t. refl)

  accepted : (check_of m).number ≡ 0 → check_of m ≡ accepted_check (model_of m)
  accepted h = check_accepted (sym number_of ∙ h)

  -- what the program gives of a refused model, and of an accepted one
  pub refused_is : (r : Refusal) → refusals.number_of r ≡ refusal_of m → CheckIs m (Err r)
  refused_is r e = record { number = e ∙ sym number_of; found = tt }

  pub accepted_is : (c : Checked) → refusal_of m ≡ 0 → Holds (loop_of (model_of m)) c.chain → c.later ≡ waits_later (model_of m) → CheckIs m (Ok c)
  accepted_is c e h l =
      let k : check_of m ≡ accepted_check (model_of m) = check_accepted e in
      record { number = rw k refl; found = record { chain = rw k h; later = rw k l } }

  -- what the check is of a model that the program refused
  pub refused_check_of : (r : Refusal) → CheckIs m (Err r) → check_of m ≡ refused_check (refusal_of m)
  refused_check_of r is = check_refused (λ z. omega (arith, is.number, number_of, z, number_some r))

-- the rows' chain is the one of the relation
module _ (M : Model) (rows : List ℕ) (r : Option Chain) where
  pub chain_is : RelationOf M rows → Returned (arrow rows) (length M.processes) r → Holds (loop_of M) r
  unfolding loop_of
  chain_is rel ret =
      let P : ℕ = length M.processes in
      let a : Asked (leads_to M) P ret.processes = asked_same (arrow rows) (leads_to M) P rel.at ret.processes ret.chain in
      subst (λ (xs : List ℕ). Holds xs r) (unique (leads_to M) P ret.processes _ a (asked (leads_to M) P)) ret.holds

-- with no closed chain there is none to return
none_left : (leads : ℕ → ℕ → Bool) (P : ℕ) (xs : List ℕ) → Asked leads P xs → NoChain leads P → xs ≡ []
none_left leads P [] a free = refl
none_left leads P (x ∷ xs) a free = absurd (free (x ∷ xs) (a.closed (omega arith)))

module _ (m : List ℕ) (h : (check_of m).number ≡ 0) where
  chain_asked : Asked (leads_to (model_of m)) (length (model_of m).processes) (check_of m).chain
  unfolding loop_of
  chain_asked = rw (accepted m h) (asked (leads_to (model_of m)) (length (model_of m).processes))

  none_there : (check_of m).chain ≡ [] → NoChain (leads_to (model_of m)) (length (model_of m).processes)
  none_there e = let a = rw e at chain_asked in a.none refl

  refusal_zero : refusal_of m ≡ 0
  refusal_zero = sym (number_of m) ∙ h

pub loop_laws : LoopLaws
loop_laws =
    record {
      asked = chain_asked;
      only = λ m h xs a. unique _ _ xs _ a (chain_asked m h);
      none = none_there;
      exactly = λ m h free. none_left _ _ _ (chain_asked m h) free;
      bounded = bounded;
      few = λ m h e l. bounded m (refusal_zero m h) (none_there m h e) (rw (accepted m h) at l);
    }
