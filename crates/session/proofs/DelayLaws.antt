-- Orders of a model without a delay of 0 do not depend on the earlier values. Assumes nothing.
use mathlib.Core.Path.{◌≡◌, refl, sym, ap, ◌∙◌}
use mathlib.Core.Bool.{not}
use mathlib.Core.List.{List, [], ◌∷◌}
use lib.Dec.{eqb}
use Rattle.base.proofs.Cases.{either_way}
use Rattle.blocks.specs.Records.{Model}
use Rattle.rules.specs.Configuration.{Configuration}
use Rattle.rules.specs.Orders.{Outcome}
use Rattle.rules.specs.Steps.{delta_step}
use Rattle.rules.specs.Delays.{NoDelayOfZero, without_earlier, SameButEarlier}
use Rattle.rules.proofs.Delays.{former_value, bare, delta_bare, delta_step_bare, time_step_bare, read_bare, pick_bare, settle_bare, pick_set_bare}
use Rattle.session.specs.Lists.{Order, Played, is_known, performed, answer_of, answered, played_by, played}
use Rattle.session.specs.DelayLaws.{SamePlay, DelayLaws}

module _ (M : Model) (free : NoDelayOfZero M) where
  order_bare : (o : Order) (c : Configuration) → bare (performed M o c) ≡ bare (performed M o (without_earlier c))
  unfolding performed
  order_bare o c =
      either_way (not (is_known o)) (λ u. rw u)
      (λ u. either_way (eqb o.kind 1) (λ k. rw (u, k) (pick_bare M free c o.argument))
      (λ no1. either_way (eqb o.kind 3) (λ k. rw (u, no1, k) (settle_bare M free o.count c))
      (λ no3. either_way (eqb o.kind 5) (λ k. rw (u, no1, no3, k) (pick_set_bare M free o.count c))
      (λ no5. either_way (eqb o.kind 6) (λ k. rw (u, no1, no3, no5, k) (delta_step_bare M c))
      (λ no6. either_way (eqb o.kind 7) (λ k. rw (u, no1, no3, no5, no6, k) (time_step_bare M c))
      (λ no7. rw (u, no1, no3, no5, no6, no7) (read_bare M c o.argument)))))))

  -- what a list gives, but for the earlier values at its end
  abbrev bare_played : Played → Played
  bare_played r = record { answers = r.answers; end = without_earlier r.end }

  -- an order's outcome and the list after it
  abbrev then : List Order → Outcome → Played
  then os r = bare_played (answered r (played M os r.after))

  list_bare : (os : List Order) (c : Configuration) → bare_played (played M os c) ≡ bare_played (played M os (without_earlier c))
  unfolding played_by answer_of
  list_bare [] c = refl
  list_bare (o ∷ os) c =
      let rest : (r : Outcome) → then os r ≡ then os (bare r) = λ r. ap (answered r) (list_bare os r.after) in
      rest (performed M o c) ∙ ap (then os) (order_bare o c) ∙ sym (rest (performed M o (without_earlier c)))

  list_same : (os : List Order) (c c' : Configuration) → SameButEarlier c c' → SamePlay M os c c'
  list_same os c c' e =
      let same : bare_played (played M os c) ≡ bare_played (played M os c') =
      list_bare os c ∙ ap (λ (d : Configuration). bare_played (played M os d)) e ∙ sym (list_bare os c') in
      record { answers = ap (λ (r : Played). r.answers) same; end = ap (λ (r : Played). r.end) same }

pub delay_laws : DelayLaws
delay_laws =
    record {
      values = former_value;
      orders = list_same;
      deltas = λ M c c' e. delta_bare M c ∙ ap (delta_step M) e ∙ sym (delta_bare M c');
    }
