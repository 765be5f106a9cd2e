use Rattle.std.proofs.Common.{rules, tests, ◌≡◌, ◌∙◌, ap, ◌&&◌, leb, length, get_or}
use Rattle.std.proofs.lemmas.Iterator.{YieldsList-from_slice}
use Rattle.std.proofs.lemmas.Iterator.Search.{all_from_yields_List}
use Rattle.base.specs.Below.{all_below}
use Rattle.base.proofs.Ranges.{all_below-list}
use Rattle.fields.specs.Fields.{row_ok}
use Rattle.fields.proofs.row_ok.Goals as goal

pub returns : goal.returns
unfolding row_ok
returns c =
    let coded = all_from_yields_List (λ x. leb x 8) _ _ _ c.all.ensures.ran (YieldsList-from_slice c.args.d.codes (search rules)) (λ x b q k. search (rules, tests)) in
    let len : length c.args.d.codes ≡ 9 = search rules in
    ap (λ b. b && c.args.d.zeros) (coded ∙ all_below-list (λ x. leb x 8) c.args.d.codes ∙ ap (all_below (λ i. leb (get_or c.args.d.codes i 0) 8)) len)
