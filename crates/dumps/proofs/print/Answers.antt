-- The number is not 21, since the room holds every dump. Assumes nothing.
use native.Mathlib.Omega.{arith}
use mathlib.Core.Path.{◌≡◌, refl, ◌∙◌}
use Rattle.io.proofs.Counting.{prefix_len_of_le}
use Rattle.base.specs.Refusals.{number_of}
use Rattle.model.proofs.Rules.{number_some}
use Rattle.dumps.proofs.PrintLaws.{prints_number, prints_dump, prints_within, rooms_suffice}
use Rattle.dumps.proofs.print.Goals as goal

pub returns-in-Ok : goal.returns-in-Ok
returns-in-Ok c = record { prints = record { within = prefix_len_of_le _ _ (omega (arith, c.dump.auto.out, prints_within _ _ (omega arith) c.in-Ok.ensures.room_holds c.in-Ok.ensures.dump_is refl)); text = prints_dump _ _ (omega arith) c.in-Ok.ensures.room_holds c.in-Ok.ensures.dump_is refl }; rooms_suffice = rooms_suffice }

pub returns-in-Err : goal.returns-in-Err
returns-in-Err c =
    let some : number_of c.in-Err.refusal ≡ 0 → ⊥ = λ z. omega (arith, z, number_some c.in-Err.refusal) in
    record { prints = record { within = prefix_len_of_le _ _ c.put_refusal.ensures.upper_bound; text = c.put_refusal.ensures.out_after ∙ rw c.number.ensures (prints_number _ _ (omega arith) c.in-Err.ensures.room_holds c.in-Err.ensures.dump_is some) }; rooms_suffice = rooms_suffice }
