-- The node at fault is the first that failed in the order of evaluation. Assumes nothing.
use mathlib.Core.Path.{◌≡◌, refl, sym, subst, ◌∙◌}
use mathlib.Core.Bool.{Bool, true, false, true≢false}
use mathlib.Core.Logic.{◌⊎◌, inl, inr, ⊎_elim}
use mathlib.Core.List.{List, [], ◌∷◌, ◌++◌, append_assoc}
use Prim.Native.Nat.{ℕ, zero, suc, ◌≤◌, ◌<◌}
use native.Mathlib.Omega.{arith}
use native.Mathlib.Nat.{not-suc-le-zero}
use lib.Dec.{eqb, ltb}
use lib.ListN.{length}
use lib.IntN.{ℤ, nat_abs, neg_ℤ, ◌+ℤ◌, ◌-ℤ◌, ◌*ℤ◌}
use borrow.Author.Tests.{lt-ltb, le-ltb}
use Rattle.std.specs.Prelude.{Ok, Err}
use Rattle.base.specs.Below.{All}
use Rattle.base.specs.Cases.{◌∣◌, ◌⇒◌}
use Rattle.base.specs.Course.{course}
use Rattle.base.proofs.Cases.{by_test, either_way}
use Rattle.base.proofs.Below.{Each, ◌and◌, among}
use Rattle.base.proofs.Course.{earlier}
use Rattle.integers.specs.Division.{quotient, rem, modulo}
use Rattle.blocks.specs.Records.{Model, node_at}
use Rattle.blocks.specs.declared.records.NodeRecord.{NodeRecord}
use Rattle.trees.specs.Trees.{boolean, type_of}
use Rattle.model.specs.Facts.{Facts, NodeFits}
use Rattle.rules.specs.declared.value.Failure.{Failure}
use Rattle.rules.specs.Values.{Value}
use Rattle.rules.specs.Evaluation.{Environment, int, failure, one, two, unless_first, decided_by, ranged, negate_of, sum_of, difference_of, equal_of, less_of, product_of, divided, value_by, eval_of}
use Rattle.rules.specs.Failing.{leaves_b, order_by, next_order, evaluation_order, HasValue, AtFault, FaultNamed}
use Rattle.base.proofs.All.{all_append}
use Rattle.rules.proofs.Evaluation.{node_value}

-- what the operation of node n gives: a value, or one of its faults at n
abbrev Own : ℕ → Value → Type 0
Own n (Ok x) = Unit {0}
Own n (Err r) = (r ≡ failure n 1) ⊎ (r ≡ failure n 4)

ranged_own : (n : ℕ) (z : ℤ) → Own n (ranged n z)
unfolding ranged
ranged_own n z = by_test (Own n) (ltb (nat_abs z) 2147483648) _ _ (λ e. tt) (λ e. inl refl)

divided_own : (n : ℕ) (f : ℤ → ℤ → ℤ) (x y : ℕ) → Own n (divided n f x y)
unfolding divided
divided_own n f x y = by_test (Own n) (eqb y 0) _ _ (λ e. inr refl) (λ e. tt)

module _ (M : Model) (e : Environment) (n : ℕ) (f : NodeFits M n) where
  abbrev kind : ℕ
  kind = (node_at M n).kind

  abbrev order : ℕ → List ℕ
  order k = evaluation_order M e k

  -- the order of a node from those of its operands
  order_leaf : kind < 6 → order n ≡ n ∷ []
  unfolding evaluation_order next_order course order_by
  order_leaf l = rw (lt-ltb kind 6 l)

  order_node : 6 ≤ kind → order n ≡ order (node_at M n).a ++ (leaves_b M e n ⇒ [] ∣ order (node_at M n).b) ++ (n ∷ [])
  unfolding evaluation_order next_order course order_by
  order_node l =
      rw (le-ltb kind 6 l, earlier (next_order M e) [] n (node_at M n).a (f.lower_a l))
      (either_way (leaves_b M e n) (λ t. rw t)
      (λ t.
      let no : (kind ≡ 6 → ⊥) × (kind ≡ 10 → ⊥) = (λ k. true≢false (rw k at t), λ k. true≢false (rw k at t)) in
      rw (t, earlier (next_order M e) [] n (node_at M n).b (f.lower_b (omega (arith, no.0)) no.1))))

module _ (M : Model) (fs : Facts M) (e : Environment) where
  abbrev Named : ℕ → Value → Type 0
  Named = FaultNamed M e

  abbrev Values : List ℕ → Type 0
  Values = All (HasValue M e)

  -- a node with operands
  module _ (n : ℕ) (h : n < length M.nodes) (l : 6 ≤ (node_at M n).kind) where
    abbrev a : ℕ
    a = (node_at M n).a

    abbrev b : ℕ
    b = (node_at M n).b

    -- the nodes of a, and those of b where it is evaluated
    abbrev firsts : List ℕ
    firsts = evaluation_order M e a

    abbrev seconds : List ℕ
    seconds = leaves_b M e n ⇒ [] ∣ evaluation_order M e b

    order_is : evaluation_order M e n ≡ firsts ++ seconds ++ (n ∷ [])
    order_is = order_node M e n (fs.node n h) l

    -- a node of a failed
    first_fails : (r : Failure) → AtFault M e a r → AtFault M e n r
    first_fails r x =
        record {
          expression = x.expression;
          before = x.before;
          after = x.after ++ seconds ++ (n ∷ []);
          order = order_is ∙ rw (x.order, append_assoc, append_assoc, append_assoc);
          valued = x.valued;
          fails = x.fails;
        }

    -- those of a have values, and a node of b failed
    second_fails : leaves_b M e n ≡ false → Values firsts → (r : Failure) → AtFault M e b r → AtFault M e n r
    second_fails t v r x =
        record {
          expression = x.expression;
          before = firsts ++ x.before;
          after = x.after ++ (n ∷ []);
          order = order_is ∙ rw (t, x.order, append_assoc, append_assoc, append_assoc);
          valued = all_append (HasValue M e) firsts x.before v x.valued;
          fails = x.fails;
        }

    -- all of them have values: the node itself decides
    module _ (v : Values firsts) (w : Values seconds) where
      operands : Values (firsts ++ seconds)
      operands = all_append (HasValue M e) firsts seconds v w

      node_fails : (f : ℕ) → (f ≡ 1) ⊎ (f ≡ 4) → eval_of M e n ≡ Err (failure n f) → AtFault M e n (failure n f)
      node_fails f k x =
          record { expression = (k, h); before = firsts ++ seconds; after = []; order = order_is; valued = operands; fails = x }

      node_gives : (x : Value) → eval_of M e n ≡ x → Own n x → Named n x
      node_gives (Ok x) k o = rw order_is (all_append (HasValue M e) (firsts ++ seconds) (n ∷ []) operands ((x, k), tt))
      node_gives (Err r) k o =
          ⊎_elim
          (λ (s : r ≡ failure n 1). rw s (node_fails 1 (inl refl) (rw s at k)))
          (λ (s : r ≡ failure n 4). rw s (node_fails 4 (inr refl) (rw s at k))) o

    -- by the values of the operands
    by_one : leaves_b M e n ≡ true → (p : Value) → Named a p → (f : ℕ → Value) → eval_of M e n ≡ one p f → ((x : ℕ) → Own n (f x)) → Named n (one p f)
    by_one t (Ok x) v f w o = node_gives v (rw t tt) (f x) w (o x)
    by_one t (Err r) v f w o = first_fails r v

    by_two : leaves_b M e n ≡ false → (p q : Value) → Named a p → Named b q → (f : ℕ → ℕ → Value) → eval_of M e n ≡ two p q f → ((x y : ℕ) → Own n (f x y)) → Named n (two p q f)
    by_two t (Ok x) (Ok y) v u f w o = node_gives v (rw t u) (f x y) w (o x y)
    by_two t (Ok x) (Err r) v u f w o = second_fails t v r u
    by_two t (Err r) q v u f w o = first_fails r v

    -- `and` and `or`: by the type, and by a
    module _ (decides : ℕ) (f : ℕ → ℕ → ℕ) where
      abbrev ty : Bool
      ty = eqb (type_of M n) boolean

      abbrev skipping : Value → Value → Value
      skipping p q = ty ⇒ unless_first decides p q ∣ two p q (λ x y. Ok (f x y))

      -- b is the value where a does not decide
      second_gives : leaves_b M e n ≡ false → Values firsts → (q : Value) → Named b q → eval_of M e n ≡ q → Named n q
      second_gives t v (Ok y) u w = node_gives v (rw t u) (Ok y) w tt
      second_gives t v (Err r) u w = second_fails t v r u

      by_skipping : (p q : Value) → leaves_b M e n ≡ decided_by (type_of M n) p decides → Named a p → Named b q → eval_of M e n ≡ skipping p q → Named n (skipping p q)
      by_skipping (Err r) q t v u w = by_test (Named n) ty _ _ (λ k. first_fails r v) (λ k. first_fails r v)
      by_skipping (Ok x) q t v u w =
          by_test (Named n) ty _ _
          (λ k. by_test (Named n) (eqb x decides) _ _
          (λ d. let s : leaves_b M e n ≡ true = t ∙ rw (k, d) in node_gives v (rw s tt) (Ok x) (rw (k, d) at w) tt)
          (λ d. second_gives (t ∙ rw (k, d)) v q u (rw (k, d) at w)))
          (λ k. by_two (t ∙ rw k) (Ok x) q v u (λ x y. Ok (f x y)) (rw k at w) (λ x y. tt))

  module _ (n : ℕ) (h : n < length M.nodes)
      (hp : 6 ≤ (node_at M n).kind → Named (node_at M n).a (eval_of M e (node_at M n).a))
      (hq : 7 ≤ (node_at M n).kind → ((node_at M n).kind ≡ 10 → ⊥) → Named (node_at M n).b (eval_of M e (node_at M n).b))
    where
      abbrev d : NodeRecord
      d = node_at M n

      abbrev p : Value
      p = eval_of M e d.a

      abbrev q : Value
      q = eval_of M e d.b

      abbrev NamedHere : Type 0
      NamedHere = Named n (value_by e n d (type_of M n) p q)

      leaf : d.kind < 6 → (x : ℕ) → eval_of M e n ≡ Ok x → Named n (Ok x)
      leaf l x w = rw (order_leaf M e n (fs.node n h) l) ((x, w), tt)

      unary : 6 ≤ d.kind → leaves_b M e n ≡ true → (f : ℕ → Value) → eval_of M e n ≡ one p f → ((x : ℕ) → Own n (f x)) → Named n (one p f)
      unary l t f w o = by_one n h l t p (hp l) f w o

      binary : 7 ≤ d.kind → (d.kind ≡ 10 → ⊥) → leaves_b M e n ≡ false → (f : ℕ → ℕ → Value) → eval_of M e n ≡ two p q f → ((x y : ℕ) → Own n (f x y)) → Named n (two p q f)
      binary l k t f w o = by_two n h (omega arith) t p q (hp (omega arith)) (hq l k) f w o

      named_here : eval_of M e n ≡ value_by e n d (type_of M n) p q → 1 ≤ d.kind → d.kind ≤ 18 → NamedHere
      unfolding value_by negate_of sum_of difference_of equal_of less_of product_of
      named_here w l m = among (λ k. d.kind ≡ k → NamedHere) 1 18 d.kind cases l (omega arith) refl
        where
          cases : Each (λ k. d.kind ≡ k → NamedHere) 1 18
          cases =
              (λ k. rw k (leaf (omega arith) _ (rw k at w)))
              and (λ k. rw k (leaf (omega arith) _ (rw k at w)))
              and (λ k. rw k (leaf (omega arith) _ (rw k at w)))
              and (λ k. rw k (leaf (omega arith) _ (rw k at w)))
              and (λ k. rw k (leaf (omega arith) _ (rw k at w)))
              and (λ k. rw k (by_test (Named n) (eqb (type_of M n) boolean) _ _
              (λ t. unary (omega arith) (rw k) _ (rw (k, t) at w) (λ x. tt))
              (λ t. unary (omega arith) (rw k) _ (rw (k, t) at w) (λ x. tt))))
              and (λ k. rw k (by_skipping n h (omega arith) 0 _ p q (rw k) (hp (omega arith)) (hq (omega arith) (λ z. omega arith)) (rw k at w)))
              and (λ k. rw k (by_skipping n h (omega arith) 1 _ p q (rw k) (hp (omega arith)) (hq (omega arith) (λ z. omega arith)) (rw k at w)))
              and (λ k. rw k (by_test (Named n) (eqb (type_of M n) boolean) _ _
              (λ t. binary (omega arith) (λ z. omega arith) (rw k) _ (rw (k, t) at w) (λ x y. tt))
              (λ t. binary (omega arith) (λ z. omega arith) (rw k) _ (rw (k, t) at w) (λ x y. tt))))
              and (λ k. rw k (unary (omega arith) (rw k) (negate_of n) (rw k at w) (λ x. ranged_own n (neg_ℤ (int x)))))
              and (λ k. rw k (binary (omega arith) (λ z. omega arith) (rw k) (sum_of n) (rw k at w) (λ x y. ranged_own n (int x +ℤ int y))))
              and (λ k. rw k (binary (omega arith) (λ z. omega arith) (rw k) (difference_of n) (rw k at w) (λ x y. ranged_own n (int x -ℤ int y))))
              and (λ k. rw k (binary (omega arith) (λ z. omega arith) (rw k) equal_of (rw k at w) (λ x y. tt)))
              and (λ k. rw k (binary (omega arith) (λ z. omega arith) (rw k) less_of (rw k at w) (λ x y. tt)))
              and (λ k. rw k (binary (omega arith) (λ z. omega arith) (rw k) (product_of n) (rw k at w) (λ x y. ranged_own n (int x *ℤ int y))))
              and (λ k. rw k (binary (omega arith) (λ z. omega arith) (rw k) (divided n quotient) (rw k at w) (divided_own n quotient)))
              and (λ k. rw k (binary (omega arith) (λ z. omega arith) (rw k) (divided n modulo) (rw k at w) (divided_own n modulo)))
              and (λ k. rw k (binary (omega arith) (λ z. omega arith) (rw k) (divided n rem) (rw k at w) (divided_own n rem)))
              and tt

  named_below : (m n : ℕ) → n < m → n < length M.nodes → Named n (eval_of M e n)
  named_below zero n l h = absurd (not-suc-le-zero l)
  named_below (suc m) n l h =
      let f = fs.node n h in
      subst (Named n) (sym (node_value M e n f))
      (named_here n h
      (λ k. let g = f.lower_a k in named_below m (node_at M n).a (omega arith) (omega arith))
      (λ k t. let g = f.lower_b k t in named_below m (node_at M n).b (omega arith) (omega arith))
      (node_value M e n f) f.kind_least f.kind_most)

  -- a node's value says which node failed first, if any did
  pub fault_named : (n : ℕ) → n < length M.nodes → Named n (eval_of M e n)
  fault_named n h = named_below (suc n) n (omega arith) h
