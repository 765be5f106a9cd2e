-- The laws of node types: what `type_of` says of a node of each kind, its operands being lower. Assumes nothing.
use mathlib.Core.Path.{◌≡◌, refl, sym, ◌∙◌}
use mathlib.Core.Bool.{Bool, true, false, ◌&&◌, ◌||◌, and_self}
use mathlib.Core.List.{List}
use mathlib.Core.Logic.{⊎_elim}
use Prim.Native.Nat.{ℕ, ◌+◌, ◌≤◌, ◌<◌}
use native.Mathlib.Omega.{arith}
use borrow.Author.Tests.{eqb-true, eq-eqb, ne_eqb, lt-ltb, le-ltb, lt-leb}
use lib.Dec.{eqb, leb, ltb}
use lib.ListN.{get_or, get_or-eq_default}
use Rattle.base.specs.Cases.{◌∣◌, ◌⇒◌}
use Rattle.base.specs.Course.{course, up_to}
use Rattle.base.proofs.Below.{or_cases, among, and_left, and_right, split}
use Rattle.base.proofs.Cases.{by_test}
use Rattle.base.proofs.Course.{earlier, entries}
use Rattle.blocks.specs.Index.{types_at}
use Rattle.blocks.specs.Records.{Model, signal_at, variable_at, node_at}
use Rattle.blocks.specs.declared.records.NodeRecord.{NodeRecord}
use Rattle.fields.specs.Fields.{node_ok, fields_ok}
use Rattle.fields.proofs.NodeFields.{variable_fits, signal_fits, names_variable, names_signal}
use Rattle.trees.specs.Trees.{integer, logic, boolean, mistyped, type_by, next_type, type_of}

-- what a node's type is, given those of its operands
abbrev pub logical_type : ℕ → ℕ → ℕ
logical_type p q = eqb p q && (eqb p logic || eqb p boolean) ⇒ p ∣ mistyped

abbrev pub arithmetic_type : ℕ → ℕ → ℕ
arithmetic_type p q = eqb p integer && eqb q integer ⇒ integer ∣ mistyped

abbrev pub equal_type : ℕ → ℕ → ℕ
equal_type p q = eqb p q && (eqb p integer || eqb p logic) ⇒ boolean ∣ mistyped

abbrev pub less_type : ℕ → ℕ → ℕ
less_type p q = eqb p integer && eqb q integer ⇒ boolean ∣ mistyped

-- every kind from 11 on but the two relations
pub arithmetic_by : (M : Model) (d : NodeRecord) (p q : ℕ) → 11 ≤ d.kind → (d.kind ≡ 13 → ⊥) → (d.kind ≡ 14 → ⊥) → arithmetic_type p q ≡ type_by M d p q
unfolding type_by
arithmetic_by M d p q l e f =
    let k = d.kind in
    rw (
      ne_eqb k 1 (omega arith),
      ne_eqb k 2 (omega arith),
      ne_eqb k 3 (omega arith),
      ne_eqb k 4 (omega arith),
      ne_eqb k 5 (omega arith),
      ne_eqb k 6 (omega arith),
      ne_eqb k 10 (omega arith),
      ne_eqb k 13 e,
      ne_eqb k 14 f,
      lt-leb k 9 (omega arith),
    )

module _ (M : Model) (n : ℕ) where
  -- what is said of node m where those below n are known
  abbrev below : ℕ → ℕ
  below m = get_or (up_to (next_type M) n) m mistyped

  below_is : (m : ℕ) → m < n → below m ≡ type_of M m
  unfolding type_of
  below_is m l = earlier (next_type M) mistyped n m l

  type_next : type_of M n ≡ type_by M (node_at M n) (below (node_at M n).a) (below (node_at M n).b)
  unfolding type_of course next_type
  type_next = refl

  -- the entries of an index for the nodes below n say the same
  type_entry : (index : List ℕ) → ((k : ℕ) → k < n → get_or index (types_at + k) 0 ≡ type_of M k) → (a : ℕ) → (ltb a n ⇒ get_or index (types_at + a) 0 ∣ mistyped) ≡ below a
  type_entry index h a =
      ⊎_elim (λ (l : a < n). rw (lt-ltb a n l) (h a l ∙ sym (below_is a l)))
      (λ (l : n ≤ a). rw (le-ltb a n l) (sym (get_or-eq_default (up_to (next_type M) n) mistyped (rw entries l))))
      (split a n)

  module _ (d : NodeRecord) (is : d ≡ node_at M n) where
    next : type_of M n ≡ type_by M d (below d.a) (below d.b)
    next = rw is type_next

    -- the type from the operands' entries
    pub type_read : (index : List ℕ) → ((k : ℕ) → k < n → get_or index (types_at + k) 0 ≡ type_of M k) → (p q : ℕ) → p ≡ (ltb d.a n ⇒ get_or index (types_at + d.a) 0 ∣ mistyped) → q ≡ (ltb d.b n ⇒ get_or index (types_at + d.b) 0 ∣ mistyped) → type_by M d p q ≡ type_of M n
    type_read index h p q e f =
        let p-is : p ≡ below d.a = e ∙ type_entry index h d.a in
        let q-is : q ≡ below d.b = f ∙ type_entry index h d.b in
        cc next

    pub type_integer : d.kind ≡ 1 → type_of M n ≡ integer
    unfolding type_by
    type_integer e = rw e at next

    pub type_logic : d.kind ≡ 2 → type_of M n ≡ logic
    unfolding type_by
    type_logic e = rw e at next

    pub type_variable : d.kind ≡ 3 → type_of M n ≡ (variable_at M d.a).ty
    unfolding type_by
    type_variable e = rw e at next

    pub type_signal : 4 ≤ d.kind → d.kind ≤ 5 → type_of M n ≡ (signal_at M d.a).ty
    unfolding type_by
    type_signal l h =
        among (λ k. d.kind ≡ k → type_of M n ≡ (signal_at M d.a).ty) 4 2 d.kind ((λ e. rw e at next), ((λ e. rw e at next), tt)) l (omega arith) refl

    module _ (lower : d.a < n) where
      -- one operand counts as both
      pub type_not : d.kind ≡ 6 → type_of M n ≡ logical_type (type_of M d.a) (type_of M d.a)
      unfolding type_by
      type_not e = rw (eq-eqb (type_of M d.a) (type_of M d.a) refl) (rw (e, below_is d.a lower) at next)

      pub type_negate : d.kind ≡ 10 → type_of M n ≡ arithmetic_type (type_of M d.a) (type_of M d.a)
      unfolding type_by
      type_negate e = rw and_self (rw (e, below_is d.a lower) at next)

      module _ (lower_b_lem : d.b < n) where
        both : type_of M n ≡ type_by M d (type_of M d.a) (type_of M d.b)
        both = rw (below_is d.a lower, below_is d.b lower_b_lem) at next

        pub type_logical : 7 ≤ d.kind → d.kind ≤ 9 → type_of M n ≡ logical_type (type_of M d.a) (type_of M d.b)
        unfolding type_by
        type_logical l h =
            among (λ k. d.kind ≡ k → type_of M n ≡ logical_type (type_of M d.a) (type_of M d.b)) 7 3 d.kind ((λ e. rw e at both), ((λ e. rw e at both), ((λ e. rw e at both), tt))) l (omega arith) refl

        pub type_arithmetic : 11 ≤ d.kind → (d.kind ≡ 13 → ⊥) → (d.kind ≡ 14 → ⊥) → type_of M n ≡ arithmetic_type (type_of M d.a) (type_of M d.b)
        type_arithmetic l e f = both ∙ sym (arithmetic_by M d (type_of M d.a) (type_of M d.b) l e f)

        pub type_equal : d.kind ≡ 13 → type_of M n ≡ equal_type (type_of M d.a) (type_of M d.b)
        unfolding type_by
        type_equal e = rw e at both

        pub type_less : d.kind ≡ 14 → type_of M n ≡ less_type (type_of M d.a) (type_of M d.b)
        unfolding type_by
        type_less e = rw e at both

-- a node that is not mistyped: what its type says of its operands' types
passed : (t : Bool) (x : ℕ) → (t ⇒ x ∣ mistyped) ≤ 2 → t ≡ true
passed true x h = refl
passed false x h = absurd (omega arith)

module _ (p q t : ℕ) (known : t ≤ 2) where
  pub logical_known : t ≡ logical_type p q → (p ≡ t) × ((q ≡ t) × (1 ≤ t))
  logical_known e =
      let g = passed (eqb p q && (eqb p logic || eqb p boolean)) p (rw e at known) in
      let f : t ≡ p = rw g at e in
      let h : p ≡ q = eqb-true p q (and_left (eqb p q) _ g) in
      (sym f, (omega arith, ⊎_elim (λ u. omega (arith, eqb-true p logic u)) (λ u. omega (arith, eqb-true p boolean u)) (or_cases (eqb p logic) _ (and_right (eqb p q) _ g))))

  -- two integers, x being what they give
  pub integers_known : (x : ℕ) → t ≡ (eqb p integer && eqb q integer ⇒ x ∣ mistyped) → (t ≡ x) × ((p ≡ integer) × (q ≡ integer))
  integers_known x e =
      let g = passed (eqb p integer && eqb q integer) x (rw e at known) in
      (rw g at e, (eqb-true p integer (and_left (eqb p integer) _ g), eqb-true q integer (and_right (eqb p integer) _ g)))

  pub equal_known : t ≡ equal_type p q → (t ≡ boolean) × ((q ≡ p) × (p ≤ 1))
  equal_known e =
      let g = passed (eqb p q && (eqb p integer || eqb p logic)) boolean (rw e at known) in
      (rw g at e, (sym (eqb-true p q (and_left (eqb p q) _ g)), ⊎_elim (λ u. omega (arith, eqb-true p integer u)) (λ u. omega (arith, eqb-true p logic u)) (or_cases (eqb p integer) _ (and_right (eqb p q) _ g))))

-- a type is at most that of a mistyped node: case by case
choice_small : (t : Bool) (x y : ℕ) → (t ≡ true → x ≤ 3) → y ≤ 3 → (t ⇒ x ∣ y) ≤ 3
choice_small t x y h g = by_test (λ z. z ≤ 3) t x y h (λ e. g)

case_small : (k j x y : ℕ) → (k ≡ j → x ≤ 3) → y ≤ 3 → (eqb k j ⇒ x ∣ y) ≤ 3
case_small k j x y h g = choice_small (eqb k j) x y (λ t. h (eqb-true k j t)) g

either_small : (p : ℕ) → (eqb p logic || eqb p boolean) ≡ true → p ≤ 3
either_small p t =
    ⊎_elim (λ (u : eqb p logic ≡ true). omega (arith, eqb-true p logic u)) (λ (u : eqb p boolean ≡ true). omega (arith, eqb-true p boolean u)) (or_cases (eqb p logic) _ t)

pub type_small : (M : Model) (d : NodeRecord) (p q : ℕ) → fields_ok M ≡ true → node_ok M d ≡ true → type_by M d p q ≤ 3
unfolding type_by
type_small M d p q f h =
    case_small d.kind 1 _ _ (λ e. omega arith)
    (case_small d.kind 2 _ _ (λ e. omega arith)
    (case_small d.kind 3 _ _ (λ e. omega (arith, (variable_fits M f d.a (names_variable M d h e)).ty))
    (case_small d.kind 4 _ _ (λ e. omega (arith, (signal_fits M f d.a (names_signal M d h (omega arith) (omega arith))).ty))
    (case_small d.kind 5 _ _ (λ e. omega (arith, (signal_fits M f d.a (names_signal M d h (omega arith) (omega arith))).ty))
    (case_small d.kind 6 _ _ (λ e. choice_small _ p mistyped (either_small p) (omega arith))
    (case_small d.kind 10 _ _ (λ e. choice_small (eqb p integer) integer mistyped (λ t. omega arith) (omega arith))
    (case_small d.kind 13 _ _ (λ e. choice_small (eqb p q && (eqb p integer || eqb p logic)) boolean mistyped (λ t. omega arith) (omega arith))
    (case_small d.kind 14 _ _ (λ e. choice_small (eqb p integer && eqb q integer) boolean mistyped (λ t. omega arith) (omega arith))
    (choice_small (leb d.kind 9) _ _ (λ e. choice_small (eqb p q && (eqb p logic || eqb p boolean)) p mistyped (λ t. either_small p (and_right (eqb p q) _ t)) (omega arith))
    (choice_small (eqb p integer && eqb q integer) integer mistyped (λ t. omega arith) (omega arith)))))))))))
