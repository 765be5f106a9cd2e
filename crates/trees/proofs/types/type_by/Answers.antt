-- `model::types::type_by` meets its contract: each arm is a case of `type_by`. Assumes nothing.
use mathlib.Core.Path.{◌≡◌, refl, sym, ◌∙◌}
use Prim.Native.Nat.{ℕ}
use native.Mathlib.Omega.{arith}
use Rattle.base.proofs.Below.{among}
use Rattle.blocks.specs.Lent.{model_in}
use Rattle.fields.proofs.NodeFields.{kind_least_lem, kind_most_lem, names_variable, names_signal}
use Rattle.trees.specs.Trees.{type_by}
use Rattle.trees.proofs.NodeTypes.{arithmetic_by, arithmetic_type}
use Rattle.trees.proofs.types.type_by.Goals as goal

pub variable-requires : goal.variable-requires
variable-requires c = names_variable _ _ c.requires c.in-3.is

pub signal_type-requires : goal.signal_type-requires
signal_type-requires c = names_signal _ _ c.requires (grind arith) (grind arith)

pub returns-in-1 : goal.returns-in-1
unfolding type_by
returns-in-1 c = rw c.in-1.is

pub returns-in-2 : goal.returns-in-2
unfolding type_by
returns-in-2 c = rw c.in-2.is

pub returns-in-3 : goal.returns-in-3
unfolding type_by
returns-in-3 c = rw (c.in-3.is, sym c.variable.ensures)

pub returns-in-4 : goal.returns-in-4
unfolding type_by
returns-in-4 c =
    let a = c.args in
    among (λ (k : ℕ). a.d.kind ≡ k → c.signal_type.result ≡ type_by (model_in a.records.now) a.d a.p a.q) 4 2 a.d.kind
    ((λ e. rw e c.signal_type.ensures), ((λ e. rw e c.signal_type.ensures), tt)) (omega arith) (omega arith) refl

pub returns-then-p : goal.returns-then-p
unfolding type_by
returns-then-p c = rw c.in-6.is (grind arith)

pub returns-else-p : goal.returns-else-p
unfolding type_by
returns-else-p c = rw c.in-6.is (grind arith)

pub returns-then-p-eq-INTEGER : goal.returns-then-p-eq-INTEGER
unfolding type_by
returns-then-p-eq-INTEGER c = rw c.in-10.is (grind arith)

pub returns-else-p-eq-INTEGER : goal.returns-else-p-eq-INTEGER
unfolding type_by
returns-else-p-eq-INTEGER c = rw c.in-10.is (grind arith)

pub returns-then-p-q : goal.returns-then-p-q
unfolding type_by
returns-then-p-q c = rw c.in-13.is (grind arith)

pub returns-else-p-q : goal.returns-else-p-q
unfolding type_by
returns-else-p-q c = rw c.in-13.is (grind arith)

pub returns-then-p-q-2 : goal.returns-then-p-q-2
unfolding type_by
returns-then-p-q-2 c = rw c.in-14.is (grind arith)

pub returns-else-p-q-2 : goal.returns-else-p-q-2
unfolding type_by
returns-else-p-q-2 c = rw c.in-14.is (grind arith)

pub returns-then-p-q-3 : goal.returns-then-p-q-3
unfolding type_by
returns-then-p-q-3 c =
    let a = c.args in
    among (λ (k : ℕ). a.d.kind ≡ k → a.p ≡ type_by (model_in a.records.now) a.d a.p a.q) 7 3 a.d.kind ((λ e. rw e (grind arith)), ((λ e. rw e (grind arith)), ((λ e. rw e (grind arith)), tt))) (grind arith) (grind arith) refl

pub returns-else-p-q-3 : goal.returns-else-p-q-3
unfolding type_by
returns-else-p-q-3 c =
    let a = c.args in
    among (λ (k : ℕ). a.d.kind ≡ k → 3 ≡ type_by (model_in a.records.now) a.d a.p a.q) 7 3 a.d.kind ((λ e. rw e (grind arith)), ((λ e. rw e (grind arith)), ((λ e. rw e (grind arith)), tt))) (grind arith) (grind arith) refl

pub returns-then-p-q-4 : goal.returns-then-p-q-4
returns-then-p-q-4 c =
    let t : 0 ≡ arithmetic_type c.args.p c.args.q = grind arith in
    t ∙ arithmetic_by _ c.args.d c.args.p c.args.q (grind arith) (λ e. grind arith) (λ e. grind arith)

pub returns-else-p-q-4 : goal.returns-else-p-q-4
returns-else-p-q-4 c =
    let t : 3 ≡ arithmetic_type c.args.p c.args.q = grind arith in
    t ∙ arithmetic_by _ c.args.d c.args.p c.args.q (grind arith) (λ e. grind arith) (λ e. grind arith)

-- no kind is left: 0, and any past 18
pub returns-in_default : goal.returns-in_default
returns-in_default c = absurd (omega (arith, kind_least_lem _ _ c.requires))

pub returns-in_default-2 : goal.returns-in_default-2
returns-in_default-2 c = absurd (omega (arith, kind_most_lem _ _ c.requires))
