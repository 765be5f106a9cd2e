use Rattle.std.proofs.Common.{rules, arith, refl}
use Rattle.given.specs.Names.{named}
use Rattle.given.proofs.NameLaws.{names_end, names_broken, names_again}
use Rattle.given.proofs.names_ok.Goals as goal

pub loop-found-init : goal.loop-found-init
unfolding named
loop-found-init c = (omega arith, refl)

pub returns-then-eq : goal.returns-then-eq
returns-then-eq c = names_end _ _ c.loop-found.invariant.1 c.token-found.ensures (search rules)

pub returns-then-not-name_ok : goal.returns-then-not-name_ok
returns-then-not-name_ok c = names_broken _ _ c.loop-found.invariant.1 c.token-found.ensures (λ e. search rules) c.name_ok.ensures c.if-not-name_ok.true

pub loop-found-preserved : goal.loop-found-preserved
loop-found-preserved c =
    let t = c.token-found.ensures in
    (t.within.1, names_again _ _ c.loop-found.invariant.1 t (λ e. search rules) c.name_ok.ensures c.if-not-name_ok.false)
