use mathlib.Core.Path.{◌≡◌, refl, ap, ◌∙◌}
use native.Mathlib.Omega.{arith}
use borrow.Author.Rules.{rules}
use Rattle.blocks.specs.Blocks.{starts_of}
use Rattle.blocks.specs.Index.{placed}
use Rattle.blocks.proofs.Starts.{length_most}
use Rattle.blocks.proofs.Sections.{section_room, filled_none, filled_next, filled_all}
use Rattle.blocks.proofs.blocks.put_index.Goals as goal

pub loop-kind-init : goal.loop-kind-init
loop-kind-init c = (refl, filled_none _ c.requires.m_value_2 c.requires.m_value_3 c.args.out.now)

pub put_kind-requires : goal.put_kind-requires
put_kind-requires c = (length_most _ c.requires.m_value, omega (arith, section_room _ c.requires.m_value_2 c.requires.m_value_3 c.loop-kind.kind (omega arith) (omega arith), c.section-at.ensures))

pub loop-kind-preserved : goal.loop-kind-preserved
loop-kind-preserved c =
    let e = c.put_kind.ensures ∙ ap (λ p. placed c.loop-kind.out p (starts_of c.loop-kind.kind c.args.m.now)) c.section-at.ensures in (
      search rules,
      rw e (filled_next c.args.m.now c.requires.m_value_2 c.requires.m_value_3 c.loop-kind.kind c.loop-kind.out (omega arith) (omega arith) (omega arith) c.loop-kind.invariant.1),
    )

pub returns : goal.returns
returns c =
    let e : c.loop-kind.kind ≡ 8 = omega arith in
    filled_all _ c.requires.m_value_2 c.requires.m_value_3 c.loop-kind.out (rw e at c.loop-kind.invariant.1)
