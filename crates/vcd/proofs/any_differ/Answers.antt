use Rattle.std.proofs.Common.{rules, tests, refl, sym, ◌∙◌, get_or}
use mathlib.Core.Bool.{not}
use Rattle.base.proofs.Below.{any_same}
use Rattle.base.proofs.Ranges.{any_from_range}
use Rattle.vcd.specs.Lines.{same_word}
use Rattle.vcd.specs.Vcd.{written_of}
use Rattle.vcd.proofs.WalkLaws.{entry_differs}
use Rattle.vcd.proofs.any_differ.Goals as goal

pub returns : goal.returns
returns c =
    any_from_range (λ s. not (same_word (written_of (get_or c.args.types.now s 0) (get_or c.args.before.now s 0)) (written_of (get_or c.args.types.now s 0) (get_or c.args.row.now s 0))))
    c.any.ensures.ran refl (λ x b q k. search (rules, tests))
    ∙ any_same _ _ _ (λ s l. sym (entry_differs c.args.types.now _ c.args.before.now c.args.row.now refl s l))
