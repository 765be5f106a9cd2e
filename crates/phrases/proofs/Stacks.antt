-- The stack of open groups: what a store on top or past it leaves, and which group is on top.
-- Assumes nothing.
use mathlib.Core.Path.{◌≡◌, refl, ◌∙◌}
use mathlib.Core.List.{List, ◌∷◌}
use mathlib.Core.Logic.{◌≢◌}
use Prim.Native.Nat.{ℕ, suc, ◌+◌, ◌≤◌, ◌<◌}
use native.Mathlib.Omega.{arith}
use lib.ListN.{length, set}
use lib.Seq.{get_or-set_same, get_or-set_other}
use Rattle.grammar.specs.Grammar.{Expression}
use Rattle.grammar.specs.Made.{root_of}
use Rattle.phrases.specs.declared.Open.{Open}
use Rattle.phrases.specs.declared.Open.TheVariants.{Prefix, First, Second}
use Rattle.phrases.specs.Groups.{Group, prefix, left, right, group_nodes, held, Stacked, bottom, on_top}

-- a store at the top or past it
pub stacked_past : {stack : List Open} {m depth : ℕ} {gs : List Group} (at : ℕ) (x : Open) → depth ≤ at → Stacked stack m depth gs → Stacked (set stack at x) m depth gs
stacked_past at x h bottom = bottom
stacked_past {stack} at x h (on_top {depth} e s) = on_top (get_or-set_other stack at depth x First (λ y. omega arith) ∙ e) (stacked_past at x (omega arith) s)

-- one group more
pub stacked_more : {stack : List Open} {m depth : ℕ} {x : Open} {gs : List Group} (g : Group) → depth < length stack → x ≡ held m gs g → Stacked stack m depth gs
    → Stacked (set stack depth x) m (suc depth) (g ∷ gs)
stacked_more {stack} {depth} {x} g h e s = on_top (get_or-set_same stack depth x First h ∙ e) (stacked_past depth x (omega arith) s)

-- the group on top by what the stack holds
module _ (m : ℕ) (gs : List Group) where
  pub held_first : (g : Group) → held m gs g ≡ First → g ≡ left
  unfolding held
  held_first (prefix kind) e = absurd (cc)
  held_first left e = refl
  held_first (right kind a) e = absurd (cc)

  pub held_prefix : {kind : ℕ} (g : Group) → held m gs g ≡ Prefix kind → g ≡ prefix kind
  unfolding held
  held_prefix (prefix kind) e = cc
  held_prefix left e = absurd (cc)
  held_prefix (right kind a) e = absurd (cc)

  pub held_second : {kind first : ℕ} (g : Group) → held m gs g ≡ Second kind first → (a : Expression) × (g ≡ right kind a) × (first ≡ root_of (m + group_nodes gs) a)
  unfolding held
  held_second (prefix kind) e = absurd (cc)
  held_second left e = absurd (cc)
  held_second (right kind a) e = (a, cc, cc)

pub prefix_apart : {o : Open} {kind : ℕ} → o ≡ Prefix kind → o ≢ First
prefix_apart e z = cc

pub second_apart : {o : Open} {kind first : ℕ} → o ≡ Second kind first → o ≢ First
second_apart e z = cc
