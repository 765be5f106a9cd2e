-- Each answer by the laws of a session, from what loading, the length rules and the play say. Assumes nothing.
use mathlib.Core.Path.{◌≡◌, refl, sym, subst, ◌∙◌}
use mathlib.Core.List.{List}
use Prim.Native.Nat.{ℕ}
use native.Mathlib.Omega.{arith}
use Rattle.model.specs.Rules.{refusal_of}
use Rattle.model.proofs.Rules.{number_some}
use Rattle.expressions.proofs.Runs.{runs}
use Rattle.session.proofs.SessionLaws.{room, model_refused, model_accepted, refused_session, played_session}
use Rattle.session.proofs.DelayLaws.{delay_laws}
use Rattle.session.proofs.Demand3.{determinate}
use Rattle.session.proofs.FaultLaws.{fault_laws}
use Rattle.session.proofs.ListLaws.{list_laws}
use Rattle.session.proofs.OwnTableLaws.{own_table_laws}
use Rattle.session.proofs.SetLaws.{set_laws}
use Rattle.base.specs.Refusals.{number_of}
use Rattle.base.specs.declared.refusal.Refusal.{Refusal}
use Rattle.blocks.specs.Records.{model_of}
use Rattle.rules.specs.Configuration.{empty, first}
use Rattle.cycle.specs.View.{view_of}
use Rattle.session.specs.Sessions.{SessionIs, PlayedTo, number_of as session_number}
use Rattle.session.specs.declared.Ended.{Ended}
use Rattle.session.proofs.session.Goals as goal

-- a refused session tells its number, and hands the empty configuration back
ended : (model orders buffer : List ℕ) (r : Ended) (e : Refusal) → r.number ≡ number_of e → view_of r.config ≡ empty → number_of e ≡ (session_number model orders buffer) → SessionIs model orders buffer buffer r
ended model orders buffer r e n v is =
    let some : r.number ≡ 0 → ⊥ = λ z. omega (arith, n, number_some e) in
    refused_session _ _ _ _ (n ∙ is) some v

pub returns-in-Err : goal.returns-in-Err
returns-in-Err c =
    let is = c.in-Err.ensures.refusal in
    record { session_is = ended _ _ _ _ c.in-Err.refusal c.refused.ensures.number c.refused.ensures.config (is ∙ sym (model_refused _ _ _ (λ z. absurd (omega (arith, is, z, number_some c.in-Err.refusal))))); determinate = determinate; list_laws = list_laws; fault_laws = fault_laws; delay_laws = delay_laws; set_laws = set_laws; own_table_laws = own_table_laws }

pub returns-in-Err-check_lengths : goal.returns-in-Err-check_lengths
returns-in-Err-check_lengths c =
    let a = sym c.in-Ok.ensures.refusal in
    record { session_is = ended _ _ _ _ c.in-Err-check_lengths.refusal c.refused-in-Err-check_lengths.ensures.number c.refused-in-Err-check_lengths.ensures.config (c.in-Err-check_lengths.ensures ∙ sym (model_accepted _ _ _ a)); determinate = determinate; list_laws = list_laws; fault_laws = fault_laws; delay_laws = delay_laws; set_laws = set_laws; own_table_laws = own_table_laws }

pub invariant_of-program : goal.invariant_of-program
invariant_of-program c = record { starts = c.in-Ok.ensures.loaded.usable.starts; totals_of = c.in-Ok.ensures.loaded.totals }

pub invariant_of-program-2 : goal.invariant_of-program-2
invariant_of-program-2 c = record { runs = runs c.in-Ok.ensures.loaded.usable }

pub play-requires-clause-answers_len : goal.play-requires-clause-answers_len
play-requires-clause-answers_len c = room _ _ (sym c.in_default.ensures)

pub returns : goal.returns
returns c =
    let a = sym c.in-Ok.ensures.refusal in
    let played = rw c.first-first.ensures.is at c.play.ensures.played_to in
    record { session_is = played_session _ _ _ _ _ (model_accepted _ _ _ a ∙ sym c.in_default.ensures) refl played; determinate = determinate; list_laws = list_laws; fault_laws = fault_laws; delay_laws = delay_laws; set_laws = set_laws; own_table_laws = own_table_laws }
