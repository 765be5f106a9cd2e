-- The laws of evaluation: a node's value from those of its operands, what it depends on, and its type. Assumes nothing.
use mathlib.Core.Path.{◌≡◌, refl, sym, ap, ◌∙◌}
use mathlib.Core.Logic.{⊎_elim}
use mathlib.Core.Bool.{Bool, true, false, not}
use Prim.Native.Nat.{ℕ, zero, suc, ◌≤◌, ◌<◌}
use native.Mathlib.Omega.{arith}
use native.Mathlib.Nat.{not-suc-le-zero}
use lib.Dec.{eqb, ltb}
use lib.ListN.{length, get_or}
use lib.IntN.{ℤ, pos, negsuc, nat_abs, neg_ℤ, ◌+ℤ◌, ◌-ℤ◌, ◌*ℤ◌}
use lib.Signed.{lt_z}
use mir.Syntax.{w32}
use mir.Val.{of_z}
use borrow.Author.Tests.{ltb-true, le-leb, ne_eqb, eqb-true, eqb-false}
use Rattle.std.specs.Prelude.{Ok, Err}
use Rattle.base.specs.Course.{up_to, course}
use Rattle.base.proofs.Cases.{by_test, choices_same}
use Rattle.base.proofs.Below.{Each, ◌and◌, among, split}
use Rattle.base.proofs.Course.{earlier}
use Rattle.values.specs.Operators.{not_of, and_of, or_of, xor_of}
use Rattle.integers.specs.declared.division.Division.{Division}
use Rattle.integers.specs.declared.division.Division.TheVariants.{Quotient, Modulo, Rem}
use Rattle.integers.specs.Division.{quotient, rem, modulo, division_of}
use Rattle.integers.proofs.Remainders.{stays}
use Rattle.values.proofs.Operators.{not_below, and_below, or_below, xor_below}
use Rattle.blocks.specs.Records.{Model, node_at, variable_at, signal_at}
use Rattle.blocks.specs.declared.records.NodeRecord.{NodeRecord}
use Rattle.fields.specs.Fields.{value_ok}
use Rattle.trees.specs.Trees.{type_of, integer, logic, boolean}
use Rattle.model.specs.Owners.{reads_own}
use Rattle.model.specs.Facts.{Facts, NodeFits, NodeTyped}
use Rattle.rules.specs.Values.{Value}
use Rattle.rules.specs.declared.moment.Moment.{Moment}
use Rattle.rules.specs.declared.moment.Moment.TheVariants.{Now}
use Rattle.rules.specs.Evaluation.{Environment, delayed_by, Held, truth, int, one, two, unless_first, not_by, and_by, or_by, xor_by, ranged, negate_of, sum_of, difference_of, equal_of, less_of, product_of, divided, value_by, next_value, eval_of}
use Rattle.rules.proofs.Signed.{int_zero, int_size}

-- node d reads the same in e as in e': what its kind reads
pub record SameRead (d : NodeRecord) (e e' : Environment) : Type 0 where
  pub variable : d.kind ≡ 3 → e.variable d.a ≡ e'.variable d.a
  pub current : d.kind ≡ 4 → e.signal d.a Now ≡ e'.signal d.a Now
  pub delayed : d.kind ≡ 5 → e.signal d.a (delayed_by d.k) ≡ e'.signal d.a (delayed_by d.k)

-- so its value is the same, its operands having the same values
pub read_same : (n : ℕ) (d : NodeRecord) (ty : ℕ) (e e' : Environment) (p q : Value) → SameRead d e e' → value_by e n d ty p q ≡ value_by e' n d ty p q
unfolding value_by
read_same n d ty e e' p q s =
    choices_same (eqb d.kind 1) _ _ _ _ (λ t. refl)
    (λ t. choices_same (eqb d.kind 2) _ _ _ _ (λ t. refl)
    (λ t. choices_same (eqb d.kind 3) _ _ _ _ (λ t. ap Ok (s.variable (eqb-true _ _ t)))
    (λ t. choices_same (eqb d.kind 4) _ _ _ _ (λ t. ap Ok (s.current (eqb-true _ _ t)))
    (λ t. choices_same (eqb d.kind 5) _ _ _ _ (λ t. ap Ok (s.delayed (eqb-true _ _ t)))
    (λ t. refl)))))

-- the operands that its kind has are p and q as well as p' and q'
pub record SameOperands (d : NodeRecord) (p p' q q' : Value) : Type 0 where
  pub first : 6 ≤ d.kind → p ≡ p'
  pub second : 7 ≤ d.kind → (d.kind ≡ 10 → ⊥) → q ≡ q'

module _ (n : ℕ) (d : NodeRecord) (ty : ℕ) (e : Environment) (p p' q q' : Value) (s : SameOperands d p p' q q') where
  abbrev SameBoth : Type 0
  SameBoth = value_by e n d ty p q ≡ value_by e n d ty p' q'

  -- by the kind
  pub operands_same : 1 ≤ d.kind → d.kind ≤ 18 → SameBoth
  unfolding value_by
  operands_same l m = among (λ k. d.kind ≡ k → SameBoth) 1 18 d.kind cases l (omega arith) refl
    where
      both : (k : ℕ) → 7 ≤ k → (k ≡ 10 → ⊥) → d.kind ≡ k → q ≡ q'
      both k l n e = s.second (omega arith) (λ t. n (sym e ∙ t))

      cases : Each (λ k. d.kind ≡ k → SameBoth) 1 18
      cases =
          (λ k. rw k)
          and (λ k. rw k)
          and (λ k. rw k)
          and (λ k. rw k)
          and (λ k. rw k)
          and (λ k. rw (k, s.first (omega arith)))
          and (λ k. rw (k, s.first (omega arith), both 7 (omega arith) (λ t. omega arith) k))
          and (λ k. rw (k, s.first (omega arith), both 8 (omega arith) (λ t. omega arith) k))
          and (λ k. rw (k, s.first (omega arith), both 9 (omega arith) (λ t. omega arith) k))
          and (λ k. rw (k, s.first (omega arith)))
          and (λ k. rw (k, s.first (omega arith), both 11 (omega arith) (λ t. omega arith) k))
          and (λ k. rw (k, s.first (omega arith), both 12 (omega arith) (λ t. omega arith) k))
          and (λ k. rw (k, s.first (omega arith), both 13 (omega arith) (λ t. omega arith) k))
          and (λ k. rw (k, s.first (omega arith), both 14 (omega arith) (λ t. omega arith) k))
          and (λ k. rw (k, s.first (omega arith), both 15 (omega arith) (λ t. omega arith) k))
          and (λ k. rw (k, s.first (omega arith), both 16 (omega arith) (λ t. omega arith) k))
          and (λ k. rw (k, s.first (omega arith), both 17 (omega arith) (λ t. omega arith) k))
          and (λ k. rw (k, s.first (omega arith), both 18 (omega arith) (λ t. omega arith) k))
          and tt

module _ (M : Model) (e : Environment) (n : ℕ) (f : NodeFits M n) where
  -- a node's value from those of its operands; for an operand that it has not, any value serves
  pub node_value : eval_of M e n ≡ value_by e n (node_at M n) (type_of M n) (eval_of M e (node_at M n).a) (eval_of M e (node_at M n).b)
  unfolding eval_of next_value course
  node_value = operands_same n (node_at M n) (type_of M n) e _ _ _ _ same f.kind_least f.kind_most
    where
      same : SameOperands (node_at M n) (get_or (up_to (next_value M e) n) (node_at M n).a (Ok 0)) (eval_of M e (node_at M n).a)
          (get_or (up_to (next_value M e) n) (node_at M n).b (Ok 0)) (eval_of M e (node_at M n).b)
      same =
          record {
            first = λ l. earlier (next_value M e) (Ok 0) n (node_at M n).a (f.lower_a l);
            second = λ l t. earlier (next_value M e) (Ok 0) n (node_at M n).b (f.lower_b l t);
          }

  -- v is the value of node n, whose record is d and whose type is ty, if it is so by the values of its operands, p and q
  module _ (d : NodeRecord) (ty : ℕ) (v : Value) (hd : d ≡ node_at M n) (ht : ty ≡ type_of M n) where
    pub binary : (p q : Value) → p ≡ eval_of M e d.a → q ≡ eval_of M e d.b → v ≡ value_by e n d ty p q → v ≡ eval_of M e n
    binary p q hp hq w = rw (hp, hq, ht, hd) at w ∙ sym node_value

    pub unary : (p : Value) → p ≡ eval_of M e d.a → ((q : Value) → v ≡ value_by e n d ty p q) → v ≡ eval_of M e n
    unary p hp w = binary p (eval_of M e d.b) hp refl (w (eval_of M e d.b))

    pub leaf : ((p q : Value) → v ≡ value_by e n d ty p q) → v ≡ eval_of M e n
    leaf w = unary (eval_of M e d.a) refl (λ q. w (eval_of M e d.a) q)

-- a configuration holds what a delay reads
pub delay_held : (k : ℕ) → k ≤ 31 → Held (delayed_by k)
delay_held k l = by_test Held (eqb k 0) _ _ (λ e. tt) (λ e. l)

-- two environments are the same on the signals that M has
abbrev pub SameSignals : Model → Environment → Environment → Type 0
SameSignals M e e' = (s : ℕ) (w : Moment) → s < length M.signals → Held w → e.signal s w ≡ e'.signal s w

module _ (M : Model) (fs : Facts M) (e e' : Environment) where
  -- what is read is the same, so the value is the same, if it is so of the operands
  next_same : SameSignals M e e' → (n : ℕ) → n < length M.nodes
      → ((node_at M n).kind ≡ 3 → e.variable (node_at M n).a ≡ e'.variable (node_at M n).a)
      → (6 ≤ (node_at M n).kind → eval_of M e (node_at M n).a ≡ eval_of M e' (node_at M n).a)
      → (7 ≤ (node_at M n).kind → ((node_at M n).kind ≡ 10 → ⊥) → eval_of M e (node_at M n).b ≡ eval_of M e' (node_at M n).b)
      → eval_of M e n ≡ eval_of M e' n
  next_same ss n h v a b =
      node_value M e n f
      ∙ read_same n (node_at M n) (type_of M n) e e' _ _ reads
      ∙ operands_same n (node_at M n) (type_of M n) e' _ _ _ _ (record { first = a; second = b }) f.kind_least f.kind_most
      ∙ sym (node_value M e' n f)
    where
      f : NodeFits M n
      f = fs.node n h

      reads : SameRead (node_at M n) e e'
      reads =
          record {
            variable = v;
            current = λ k. ss (node_at M n).a Now (f.signal (omega arith) (omega arith)) tt;
            delayed = λ k. ss (node_at M n).a (delayed_by (node_at M n).k) (f.signal (omega arith) (omega arith)) (delay_held (node_at M n).k (f.delay k));
          }

  -- two environments give a node the same value if they give each variable of its tree the same: P marks the nodes of such trees
  module _ (P : ℕ → Type 0) (same : SameSignals M e e')
      (variables : (n : ℕ) → n < length M.nodes → P n → (node_at M n).kind ≡ 3 → e.variable (node_at M n).a ≡ e'.variable (node_at M n).a)
      (first : (n : ℕ) → n < length M.nodes → P n → 6 ≤ (node_at M n).kind → P (node_at M n).a)
      (second : (n : ℕ) → n < length M.nodes → P n → 7 ≤ (node_at M n).kind → ((node_at M n).kind ≡ 10 → ⊥) → P (node_at M n).b)
    where
      agree_below : (m n : ℕ) → n < m → n < length M.nodes → P n → eval_of M e n ≡ eval_of M e' n
      agree_below zero n l h r = absurd (not-suc-le-zero l)
      agree_below (suc m) n l h r =
          next_same same n h (variables n h r)
          (λ k. let f = (fs.node n h).lower_a k in agree_below m (node_at M n).a (omega arith) (omega arith) (first n h r k))
          (λ k t. let f = (fs.node n h).lower_b k t in agree_below m (node_at M n).b (omega arith) (omega arith) (second n h r k t))

      pub agree_on : (n : ℕ) → n < length M.nodes → P n → eval_of M e n ≡ eval_of M e' n
      agree_on n h r = agree_below (suc n) n (omega arith) h r

  -- a tree that reads variables of process p alone has the same value where those are the same
  pub agree : (p : ℕ) → SameSignals M e e' → ((a : ℕ) → a < length M.variables → (variable_at M a).process ≡ p → e.variable a ≡ e'.variable a)
      → (n : ℕ) → n < length M.nodes → reads_own M p n ≡ true → eval_of M e n ≡ eval_of M e' n
  agree p same vs =
      agree_on (λ n. reads_own M p n ≡ true) same
      (λ n h r k. vs (node_at M n).a ((fs.node n h).variable k) ((fs.reads p n h r).variable k))
      (λ n h r k. (fs.reads p n h r).own_a k)
      (λ n h r k t. (fs.reads p n h r).own_b k t)

  -- any tree has the same value where all variables are the same
  pub agree_all : SameSignals M e e' → ((a : ℕ) → a < length M.variables → e.variable a ≡ e'.variable a)
      → (n : ℕ) → n < length M.nodes → eval_of M e n ≡ eval_of M e' n
  agree_all same vs n h = agree_on (λ n. Unit {0}) same (λ n h r k. vs (node_at M n).a ((fs.node n h).variable k)) (λ n h r k. tt) (λ n h r k t. tt) n h tt

-- a fault, or a value of the type
abbrev pub Typed : ℕ → Value → Type 0
Typed ty (Ok v) = value_ok ty v ≡ true
Typed ty (Err r) = Unit {0}

one_typed : (s t : ℕ) (p : Value) (f : ℕ → Value) → Typed s p → ((x : ℕ) → value_ok s x ≡ true → Typed t (f x)) → Typed t (one p f)
one_typed s t (Ok x) f h g = g x h
one_typed s t (Err e) f h g = h

operands_typed : (s s' t : ℕ) (p q : Value) (f : ℕ → ℕ → Value) → Typed s p → Typed s' q → ((x y : ℕ) → value_ok s x ≡ true → value_ok s' y ≡ true → Typed t (f x y))
    → Typed t (two p q f)
operands_typed s s' t p q f h k g = one_typed s t p (λ x. one q (λ y. f x y)) h (λ x v. one_typed s' t q (λ y. f x y) k (λ y w. g x y v w))

two_typed : (s s' t : ℕ) (p q : Value) (f : ℕ → ℕ → Value) → Typed s p → Typed s' q → ((x y : ℕ) → Typed t (f x y)) → Typed t (two p q f)
two_typed s s' t p q f h k g = operands_typed s s' t p q f h k (λ x y v w. g x y)

unless_typed : (t decides : ℕ) (p q : Value) → Typed t p → Typed t q → Typed t (unless_first decides p q)
unless_typed t decides p q h k = one_typed t t p _ h (λ x v. by_test (Typed t) (eqb x decides) _ _ (λ e. v) (λ e. k))

-- the logic operators give codes, a test gives a boolean, and a ranged number is an integer
code_typed : (v : ℕ) → v < 9 → Typed logic (Ok v)
unfolding value_ok
code_typed v h = le-leb v 8 (omega arith)

truth_typed : (b : Bool) → Typed boolean (Ok (truth b))
unfolding value_ok
truth_typed true = refl
truth_typed false = refl

inside_typed : (z : ℤ) → nat_abs z < 2147483648 → Typed integer (Ok (of_z w32 z))
unfolding value_ok
inside_typed z l = rw (ne_eqb (of_z w32 z) 2147483648 (apart z l))
  where
    apart : (z : ℤ) → nat_abs z < 2147483648 → of_z w32 z ≡ 2147483648 → ⊥
    apart (pos n) l e = omega arith
    apart (negsuc n) l e = omega arith

ranged_typed : (n : ℕ) (z : ℤ) → Typed integer (ranged n z)
unfolding ranged
ranged_typed n z =
    by_test (Typed integer) (ltb (nat_abs z) 2147483648) _ _
    (λ e. inside_typed z (ltb-true (nat_abs z) 2147483648 e)) (λ e. tt)

-- so is a quotient, a mod or a rem of two integers: each is in the range, as they are
divided_typed : (n : ℕ) (w : Division) (x y : ℕ) → value_ok integer x ≡ true → value_ok integer y ≡ true → Typed integer (divided n (division_of w) x y)
unfolding divided
divided_typed n w x y h k =
    by_test (Typed integer) (eqb y 0) _ _ (λ e. tt)
    (λ e. inside_typed (division_of w (int x) (int y)) (omega (arith, stays w (int x) (int y) 2147483647 (λ z. eqb-false y 0 e (int_zero y z)) (int_size x h) (int_size y k))))

-- the operators of a type that is logic or boolean
module _ (ty : ℕ) (known : 1 ≤ ty) (most : ty ≤ 2) (p q : Value) (hp : Typed ty p) (hq : Typed ty q) where
  by_type : (P : ℕ → Type 0) → P 1 → P 2 → P ty
  by_type P a b = among P 1 2 ty (a and b and tt) known (omega arith)

  not_typed : Typed ty (not_by ty p)
  not_typed = by_type (λ t. Typed t p → Typed t (not_by t p)) (λ h. one_typed 1 1 p _ h (λ x v. code_typed (not_of x) (not_below x))) (λ h. one_typed 2 2 p _ h (λ x v. truth_typed (eqb x 0))) hp

  and_typed : Typed ty (and_by ty p q)
  and_typed = by_type (λ t. Typed t p → Typed t q → Typed t (and_by t p q)) (λ h k. two_typed 1 1 1 p q _ h k (λ x y. code_typed (and_of x y) (and_below x y))) (unless_typed 2 0 p q) hp hq

  or_typed : Typed ty (or_by ty p q)
  or_typed = by_type (λ t. Typed t p → Typed t q → Typed t (or_by t p q)) (λ h k. two_typed 1 1 1 p q _ h k (λ x y. code_typed (or_of x y) (or_below x y))) (unless_typed 2 1 p q) hp hq

  xor_typed : Typed ty (xor_by ty p q)
  xor_typed = by_type (λ t. Typed t p → Typed t q → Typed t (xor_by t p q)) (λ h k. two_typed 1 1 1 p q _ h k (λ x y. code_typed (xor_of x y) (xor_below x y))) (λ h k. two_typed 2 2 2 p q _ h k (λ x y. truth_typed (not (eqb x y)))) hp hq

-- what e gives is of the type that M says
pub record EnvironmentFits (M : Model) (e : Environment) : Type 0 where
  pub variable : (a : ℕ) → a < length M.variables → value_ok (variable_at M a).ty (e.variable a) ≡ true
  pub signal : (s : ℕ) (w : Moment) → s < length M.signals → Held w → value_ok (signal_at M s).ty (e.signal s w) ≡ true

module _ (M : Model) (fs : Facts M) (e : Environment) (ok : EnvironmentFits M e) where
  module _ (n : ℕ) (h : n < length M.nodes) (p q : Value)
      (hp : 6 ≤ (node_at M n).kind → Typed (type_of M (node_at M n).a) p)
      (hq : 7 ≤ (node_at M n).kind → ((node_at M n).kind ≡ 10 → ⊥) → Typed (type_of M (node_at M n).b) q)
    where
      f : NodeFits M n
      f = fs.node n h

      t : NodeTyped M n
      t = fs.typed n h

      abbrev TypedHere : Type 0
      TypedHere = Typed (type_of M n) (value_by e n (node_at M n) (type_of M n) p q)

      leaves : 1 ≤ (node_at M n).kind → (node_at M n).kind ≤ 5 → TypedHere
      unfolding value_by
      leaves l m =
          among (λ k. (node_at M n).kind ≡ k → TypedHere) 1 5 (node_at M n).kind
          ((λ k. rw k (f.constant (omega arith)))
          and (λ k. rw k (f.constant (omega arith)))
          and (λ k. rw (k, t.variable k) (ok.variable (node_at M n).a (f.variable k)))
          and (λ k. rw (k, t.signal (omega arith) (omega arith)) (ok.signal (node_at M n).a Now (f.signal (omega arith) (omega arith)) tt))
          and (λ k. rw (k, t.signal (omega arith) (omega arith)) (ok.signal (node_at M n).a (delayed_by (node_at M n).k) (f.signal (omega arith) (omega arith)) (delay_held (node_at M n).k (f.delay k))))
          and tt)
          l (omega arith) refl

      logicals : 6 ≤ (node_at M n).kind → (node_at M n).kind ≤ 9 → TypedHere
      unfolding value_by
      logicals l m =
          among (λ k. (node_at M n).kind ≡ k → TypedHere) 6 4 (node_at M n).kind
          ((λ k. rw k (not_typed (type_of M n) some t.known p p ap ap))
          and (λ k. rw k (and_typed (type_of M n) some t.known p q ap (bq (omega arith) k)))
          and (λ k. rw k (or_typed (type_of M n) some t.known p q ap (bq (omega arith) k)))
          and (λ k. rw k (xor_typed (type_of M n) some t.known p q ap (bq (omega arith) k)))
          and tt)
          l (omega arith) refl
        where
          some : 1 ≤ type_of M n
          some = t.logical l m

          ap : Typed (type_of M n) p
          ap = rw (t.logical_a l m) at (hp l)

          bq : {k : ℕ} → 7 ≤ k → (node_at M n).kind ≡ k → Typed (type_of M n) q
          bq g e = let s : 7 ≤ (node_at M n).kind = omega arith in rw (t.logical_b s m) at (hq s (λ z. omega arith))

      -- f of two integers, where the node's kind is no relation, and of two operands where it is one
      number : 11 ≤ (node_at M n).kind → ((node_at M n).kind ≡ 13 → ⊥) → ((node_at M n).kind ≡ 14 → ⊥) → (f : ℕ → ℕ → Value)
          → ((x y : ℕ) → value_ok integer x ≡ true → value_ok integer y ≡ true → Typed integer (f x y)) → Typed (type_of M n) (two p q f)
      number l e g f h =
          rw (t.arithmetic (omega arith) e g)
          (operands_typed integer integer integer p q f (rw (t.arithmetic_a (omega arith) e g) at (hp (omega arith))) (rw (t.arithmetic_b l e g) at (hq (omega arith) (λ z. omega arith))) h)

      relation : 13 ≤ (node_at M n).kind → (node_at M n).kind ≤ 14 → (f : ℕ → ℕ → Value) → ((x y : ℕ) → Typed boolean (f x y)) → Typed (type_of M n) (two p q f)
      relation l m f h = rw (t.relation l m) (two_typed _ _ boolean p q f (hp (omega arith)) (hq (omega arith) (λ z. omega arith)) h)

      numbers : 10 ≤ (node_at M n).kind → (node_at M n).kind ≤ 18 → TypedHere
      unfolding value_by negate_of sum_of difference_of equal_of less_of product_of
      numbers l m =
          among (λ k. (node_at M n).kind ≡ k → TypedHere) 10 9 (node_at M n).kind
          ((λ k. rw (k, t.arithmetic l (λ z. omega arith) (λ z. omega arith)) (one_typed _ integer p _ (hp (omega arith)) (λ x v. ranged_typed n (neg_ℤ (int x)))))
          and (λ k. rw k (number (omega arith) (λ z. omega arith) (λ z. omega arith) (sum_of n) (λ x y v w. ranged_typed n (int x +ℤ int y))))
          and (λ k. rw k (number (omega arith) (λ z. omega arith) (λ z. omega arith) (difference_of n) (λ x y v w. ranged_typed n (int x -ℤ int y))))
          and (λ k. rw k (relation (omega arith) (omega arith) equal_of (λ x y. truth_typed (eqb x y))))
          and (λ k. rw k (relation (omega arith) (omega arith) less_of (λ x y. truth_typed (lt_z (int x) (int y)))))
          and (λ k. rw k (number (omega arith) (λ z. omega arith) (λ z. omega arith) (product_of n) (λ x y v w. ranged_typed n (int x *ℤ int y))))
          and (λ k. rw k (number (omega arith) (λ z. omega arith) (λ z. omega arith) (divided n quotient) (divided_typed n Quotient)))
          and (λ k. rw k (number (omega arith) (λ z. omega arith) (λ z. omega arith) (divided n modulo) (divided_typed n Modulo)))
          and (λ k. rw k (number (omega arith) (λ z. omega arith) (λ z. omega arith) (divided n rem) (divided_typed n Rem)))
          and tt)
          l (omega arith) refl

      next_typed : TypedHere
      next_typed =
          ⊎_elim (λ (l : (node_at M n).kind < 6). leaves f.kind_least (omega arith))
          (λ (l : 6 ≤ (node_at M n).kind).
          ⊎_elim (λ (m : (node_at M n).kind < 10). logicals l (omega arith)) (λ (m : 10 ≤ (node_at M n).kind). numbers m f.kind_most) (split (node_at M n).kind 10))
          (split (node_at M n).kind 6)

  typed_below : (m n : ℕ) → n < m → n < length M.nodes → Typed (type_of M n) (eval_of M e n)
  typed_below zero n l h = absurd (not-suc-le-zero l)
  typed_below (suc m) n l h =
      rw (node_value M e n (fs.node n h))
      (next_typed n h (eval_of M e (node_at M n).a) (eval_of M e (node_at M n).b)
      (λ k. let f = (fs.node n h).lower_a k in typed_below m (node_at M n).a (omega arith) (omega arith))
      (λ k t. let f = (fs.node n h).lower_b k t in typed_below m (node_at M n).b (omega arith) (omega arith)))

  -- where what is read is of its type, a node's value is a fault or of the node's type
  pub value_typed : (n : ℕ) → n < length M.nodes → Typed (type_of M n) (eval_of M e n)
  value_typed n h = typed_below (suc n) n (omega arith) h
