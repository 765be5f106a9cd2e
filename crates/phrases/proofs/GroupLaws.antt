-- The loop over an expression: what is read so far, where an operand is awaited and where one has been read.
-- Assumes nothing.
use mathlib.Core.Path.{◌≡◌, refl, sym, ap, ap₂, subst, ◌∙◌}
use mathlib.Core.Bool.{Bool, true, false, true≢false}
use mathlib.Core.List.{List, [], ◌∷◌, ◌++◌, append_assoc, append-nil}
use mathlib.Core.Logic.{◌≢◌}
use Prim.Native.Nat.{ℕ, suc, ◌+◌, ◌*◌, ◌-◌, ◌≤◌, ◌<◌}
use native.Mathlib.Nat.{add-zero, add_assoc}
use native.Mathlib.Numerals.{add-one}
use native.Mathlib.Omega.{arith}
use lib.ListN as ListN
use lib.ListN.{length, get_or, length-append}
use lib.Seq.{sets}
use Rattle.std.specs.Prelude.{Option, Some, None, MatchOption}
use Rattle.blocks.specs.declared.records.NodeRecord.{NodeRecord}
use Rattle.grammar.specs.Tokens.{Token, word, from, NoWord}
use Rattle.tokens.specs.Answers.{FoundWord}
use Rattle.grammar.specs.Words.{closing, operator_of}
use Rattle.grammar.specs.Grammar.{Expression, unary, binary, Says}
use Rattle.grammar.specs.Made.{node, nodes_in, nodes_of, signals_in, set_with, root_of}
use Rattle.grammar.proofs.MadeLaws.{length_nodes_of, set_append}
use Rattle.writing.specs.Written.{record_bytes, node_bytes}
use Rattle.writing.proofs.WriteLaws.{nodes_behind}
use Rattle.phrases.specs.Groups.{Group, prefix, left, right, Closes, closed, closes_prefix, closes_left, closes_right, Awaits, group_nodes, nodes_of_groups, signals_in_groups, held, opened, Stacked, bottom, on_top}
use Rattle.phrases.specs.Phrases.{FoundExpression, NoExpression, FoundOperator, NoOperator, FoundLeaf, leaf_signals, FoundGroup}
use Rattle.phrases.specs.declared.Open.{Open}
use Rattle.phrases.specs.declared.Open.TheVariants.{Prefix, First, Second}
use Rattle.phrases.proofs.Stacks.{stacked_more, held_first, held_prefix, held_second}

pub length_groups : (m : ℕ) (gs : List Group) → length (nodes_of_groups m gs) ≡ group_nodes gs
unfolding nodes_of_groups group_nodes
length_groups m [] = refl
length_groups m (prefix kind ∷ gs) = length_groups m gs
length_groups m (left ∷ gs) = length_groups m gs
length_groups m (right kind a ∷ gs) = rw (length-append, length_groups m gs, length_nodes_of (m + group_nodes gs) a)

pub one_node : (d : NodeRecord) → record_bytes d.kind d.a d.b 0 d.k ≡ node_bytes (d ∷ [])
unfolding node_bytes
one_node d = sym (append-nil _)

module _ (text : List ℕ) (at m : ℕ) (out : List ℕ) where
  -- an operand is awaited at i: an expression from `at` on is one that goes on there
  pub record Wanting (i n set depth : ℕ) (stack : List Open) (new : List ℕ) : Type 0 where
    pub groups : List Group
    pub down : (t : Expression) (r : List Token) → Says t (from text at) r → Awaits groups t (from text i) r
    pub up : (t : Expression) (r : List Token) → Awaits groups t (from text i) r → Says t (from text at) r
    pub stacked : Stacked stack m depth groups
    pub counted : n ≡ m + group_nodes groups
    pub signals : set ≡ set_with 0 (signals_in_groups groups)
    pub written : new ≡ sets out (12 * m) (node_bytes (nodes_of_groups m groups))

  -- an operand has been read up to i
  pub record Having (groups : List Group) (tree : Expression) (i n set depth : ℕ) (stack : List Open) (new : List ℕ) : Type 0 where
    pub down : (t : Expression) (r : List Token) → Says t (from text at) r → Closes groups tree t (from text i) r
    pub up : (t : Expression) (r : List Token) → Closes groups tree t (from text i) r → Says t (from text at) r
    pub stacked : Stacked stack m depth groups
    pub counted : n ≡ m + group_nodes groups + nodes_in tree
    pub signals : set ≡ set_with 0 (signals_in_groups groups ++ signals_in tree)
    pub written : new ≡ sets out (12 * m) (node_bytes (nodes_of_groups m groups ++ nodes_of (m + group_nodes groups) tree))

  pub record Has (i n set depth : ℕ) (stack : List Open) (new : List ℕ) : Type 0 where
    pub groups : List Group
    pub tree : Expression
    pub having : Having groups tree i n set depth stack new

-- at the start no group is open
pub closed_whole : {e t : Expression} {s r : List Token} → Closes [] e t s r → (e ≡ t) × (s ≡ r)
closed_whole closed = (refl, refl)

awaits_whole : {t : Expression} {s r : List Token} → Awaits [] t s r → Says t s r
awaits_whole {t} {s} {r} a =
    let (same, rest) = closed_whole a.closes in
    subst (λ u. Says u s r) same (subst (λ l. Says a.tree s l) rest a.says)

pub wanting_first : (text : List ℕ) (at m : ℕ) (stack : List Open) (out : List ℕ) → Wanting text at m out at m 0 0 stack out
unfolding group_nodes nodes_of_groups signals_in_groups set_with node_bytes
wanting_first text at m stack out = record {
  groups = [];
  down = λ t r h. record { tree = t; rest = r; says = h; closes = closed };
  up = λ t r a. awaits_whole a;
  stacked = bottom;
  counted = sym (add-zero m);
  signals = refl;
  written = refl;
}

-- an expression of one node
pub leaf_read : {text : List ℕ} {at m i n set depth kind a k next set' : ℕ} {stack : List Open} {out new new' : List ℕ} → Wanting text at m out i n set depth stack new
    → FoundLeaf text (from text i) kind a k next → set' ≡ set_with set (leaf_signals kind a) → new' ≡ sets new (12 * n) (record_bytes kind a 0 0 k)
    → Has text at m out next (n + 1) set' depth stack new'
leaf_read {text} {m} {n} {kind} {a} {k} {next} {out} {new} w f e g =
    let gs = w.groups in
    record {
      groups = gs;
      tree = f.tree;
      having = record {
        down = λ t r h.
            let x = w.down t r h in
            let (same, rest) = f.alone x.tree x.rest x.says in
            subst (λ u. Closes gs u t (from text next) r) same (subst (λ l. Closes gs x.tree t l r) rest x.closes);
        up = λ t r c. w.up t r (record { tree = f.tree; rest = _; says = f.says; closes = c });
        stacked = w.stacked;
        counted = omega (arith, w.counted, f.one);
        signals = e ∙ ap₂ set_with w.signals (sym f.signals) ∙ sym (set_append 0 (signals_in_groups gs) (signals_in f.tree));
        written =
            nodes_behind out m n (nodes_of_groups m gs) (node kind a 0 k ∷ []) (w.counted ∙ ap (λ x. m + x) (sym (length_groups m gs))) w.written
            (g ∙ ap (λ l. sets new (12 * n) l) (one_node (node kind a 0 k)))
            ∙ ap (λ l. sets out (12 * m) (node_bytes (nodes_of_groups m gs ++ l))) (sym (f.made (m + group_nodes gs)));
      };
    }

-- a group that opens
group_nodes_lem : (before : Option ℕ) (m : ℕ) (gs : List Group)
    → (group_nodes (opened before ∷ gs) ≡ group_nodes gs) × (nodes_of_groups m (opened before ∷ gs) ≡ nodes_of_groups m gs) × (signals_in_groups (opened before ∷ gs) ≡ signals_in_groups gs)
unfolding group_nodes nodes_of_groups signals_in_groups
group_nodes_lem None m gs = (refl, refl, refl)
group_nodes_lem (Some kind) m gs = (refl, refl, refl)

-- what is put on the stack for it, o
pub opened_held : {o : Open} {P : ℕ → Type 0} (before : Option ℕ) (m : ℕ) (gs : List Group) → MatchOption before (o ≡ First) P → ((kind : ℕ) → P kind → o ≡ Prefix kind) → o ≡ held m gs (opened before)
unfolding held
opened_held None m gs e k = e
opened_held (Some kind) m gs e k = k kind e

-- what closes a group and then others
through : {gs : List Group} {e u t : Expression} {s v r : List Token} → Closes [] e u s v → Closes gs u t v r → Closes gs e t s r
through closed c = c

outer : {g : Group} {gs : List Group} {e u t : Expression} {s v r : List Token} → Closes (g ∷ []) e u s v → Closes gs u t v r → Closes (g ∷ gs) e t s r
outer (closes_prefix d) c = closes_prefix (through d c)
outer (closes_left n b d) c = closes_left n b (through d c)
outer (closes_right d) c = closes_right (through d c)

-- the expression that closing one group makes
record Inner (g : Group) (gs : List Group) (e t : Expression) (s r : List Token) : Type 0 where
  pub whole : Expression
  pub rest : List Token
  pub first : Closes (g ∷ []) e whole s rest
  pub others : Closes gs whole t rest r

inner : {g : Group} {gs : List Group} {e t : Expression} {s r : List Token} → Closes (g ∷ gs) e t s r → Inner g gs e t s r
inner (closes_prefix c) = record { whole = _; rest = _; first = closes_prefix closed; others = c }
inner (closes_left n b c) = record { whole = _; rest = _; first = closes_left n b closed; others = c }
inner (closes_right c) = record { whole = _; rest = _; first = closes_right closed; others = c }

pub group_opened : {text : List ℕ} {at m i n set depth next : ℕ} {before : Option ℕ} {o : Open} {stack stack' : List Open} {out new : List ℕ} → Wanting text at m out i n set depth stack new
    → FoundGroup text (from text i) before next → depth < length stack → ((gs : List Group) → o ≡ held m gs (opened before)) → stack' ≡ ListN.set stack depth o
    → Wanting text at m out next n set (depth + 1) stack' new
group_opened {m} {depth} {before} {stack} {out} w f less k e =
    let gs = w.groups in
    let (nodes, made, signals) = group_nodes_lem before m gs in
    record {
      groups = opened before ∷ gs;
      down = λ t r h.
          let x = w.down t r h in
          let y = f.down x.tree x.rest x.says in
          record { tree = y.tree; rest = y.rest; says = y.says; closes = outer y.closes x.closes };
      up = λ t r a.
          let y = inner a.closes in
          w.up t r (record { tree = y.whole; rest = y.rest; says = f.up y.whole y.rest (record { tree = a.tree; rest = a.rest; says = a.says; closes = y.first }); closes = y.others });
      stacked = rw (e, add-one) (stacked_more (opened before) less (k gs) w.stacked);
      counted = w.counted ∙ ap (λ x. m + x) (sym nodes);
      signals = w.signals ∙ ap (λ l. set_with 0 l) (sym signals);
      written = w.written ∙ ap (λ l. sets out (12 * m) (node_bytes l)) (sym made);
    }

-- the group on top
record Top (stack : List Open) (m depth : ℕ) (groups : List Group) : Type 0 where
  pub group : Group
  pub others : List Group
  pub all : groups ≡ group ∷ others
  pub entry : get_or stack (depth - 1) First ≡ held m others group
  pub below : Stacked stack m (depth - 1) others

top : {stack : List Open} {m depth : ℕ} {groups : List Group} → Stacked stack m depth groups → 0 < depth → Top stack m depth groups
top bottom h = absurd (omega arith)
top {stack} {m} (on_top {depth} {g} {gs} e s) h =
    let same : depth ≡ suc depth - 1 = omega arith in
    record { group = g; others = gs; all = refl; entry = subst (λ d. get_or stack d First ≡ held m gs g) same e; below = subst (λ d. Stacked stack m d gs) same s }

closes_operator : {gs : List Group} {e t : Expression} {s r : List Token} → Closes (left ∷ gs) e t s r → (c : ℕ) × (u : List Token) × (operator_of c ≢ 0) × (s ≡ word c ∷ u)
closes_operator (closes_left n b c) = (_, _, n, refl)

after_operator : {gs : List Group} {c : ℕ} {e t : Expression} {s r : List Token} → Closes (left ∷ gs) e t (word c ∷ s) r → Awaits (right (operator_of c) e ∷ gs) t s r
after_operator (closes_left n b c) = record { tree = _; rest = _; says = b; closes = closes_right c }

before_rest : {gs : List Group} {c : ℕ} {e f t : Expression} {s u r : List Token} → operator_of c ≢ 0 → Says f s u → Closes (right (operator_of c) e ∷ gs) f t u r
    → Closes (left ∷ gs) e t (word c ∷ s) r
before_rest n h (closes_right c) = closes_left n h c

-- an operator after the first operand
pub operator_read : {text : List ℕ} {at m i n set depth kind next : ℕ} {stack stack' : List Open} {out new : List ℕ} → Has text at m out i n set depth stack new → 0 < depth
    → depth ≤ length stack → get_or stack (depth - 1) First ≡ First → FoundOperator text i kind next → stack' ≡ ListN.set stack (depth - 1) (Second kind (n - 1))
    → Wanting text at m out next n set depth stack' new
unfolding group_nodes nodes_of_groups signals_in_groups held
operator_read {text} {at} {m} {i} {n} {set} {depth} {kind} {next} {stack} {stack'} {out} {new} x some room zero f e =
    let t = top x.having.stacked some in
    let gs = t.others in
    let a = x.tree in
    let is-left : t.group ≡ left = held_first m gs t.group (sym t.entry ∙ zero) in
    let h : Having text at m out (left ∷ gs) a i n set depth stack new = subst (λ l. Having text at m out l a i n set depth stack new) (t.all ∙ ap (λ g. g ∷ gs) is-left) x.having in
    let same-depth : suc (depth - 1) ≡ depth = omega arith in
    let root : n - 1 ≡ root_of (m + group_nodes gs) a = ap (λ y. y - 1) h.counted in
    let group : Group = right kind a in
    record {
      groups = right kind a ∷ gs;
      down = λ w r s. subst (λ y. Awaits (right y a ∷ gs) w (from text next) r) (sym f.operator) (after_operator (subst (λ l. Closes (left ∷ gs) a w l r) f.begins (h.down w r s)));
      up = λ w r s.
          let b = subst (λ y. Awaits (right y a ∷ gs) w (from text next) r) f.operator s in
          h.up w r (subst (λ l. Closes (left ∷ gs) a w l r) (sym f.begins) (before_rest f.some b.says b.closes));
      stacked = subst (λ d. Stacked stack' m d (right kind a ∷ gs)) same-depth (rw e (stacked_more group (omega arith) (ap (λ y. Second kind y) root) t.below));
      counted = h.counted ∙ add_assoc m (group_nodes gs) (nodes_in a);
      signals = h.signals;
      written = h.written;
    }

-- a bracket that closes a group
closing_prefix : {gs : List Group} {kind : ℕ} {e t : Expression} {s r : List Token} → Closes (prefix kind ∷ gs) e t (word closing ∷ s) r → Closes gs (unary kind e) t s r
closing_prefix (closes_prefix c) = c

closing_right : {gs : List Group} {kind : ℕ} {a e t : Expression} {s r : List Token} → Closes (right kind a ∷ gs) e t (word closing ∷ s) r → Closes gs (binary kind a e) t s r
closing_right (closes_right c) = c

no_bracket_prefix : {gs : List Group} {kind : ℕ} {e t : Expression} {s r : List Token} → NoWord s closing → Closes (prefix kind ∷ gs) e t s r → ⊥
no_bracket_prefix n (closes_prefix c) = n _ refl

no_bracket_right : {gs : List Group} {kind : ℕ} {a e t : Expression} {s r : List Token} → NoWord s closing → Closes (right kind a ∷ gs) e t s r → ⊥
no_bracket_right n (closes_right c) = n _ refl

module _ {text : List ℕ} {at m i n set depth next : ℕ} {stack : List Open} {out new new' : List ℕ} where
  prefix_closed : {gs : List Group} {e : Expression} (kind : ℕ) → Having text at m out (prefix kind ∷ gs) e i n set depth stack new → Stacked stack m (depth - 1) gs
      → FoundWord text i closing next → new' ≡ sets new (12 * n) (record_bytes kind (n - 1) 0 0 0) → Having text at m out gs (unary kind e) next (n + 1) set (depth - 1) stack new'
  unfolding group_nodes nodes_of_groups signals_in_groups nodes_of nodes_in signals_in
  prefix_closed {gs} {e} kind h below w f =
      let ds = nodes_of_groups m gs ++ nodes_of (m + group_nodes gs) e in
      let total : length ds ≡ group_nodes gs + nodes_in e = length-append (nodes_of_groups m gs) _ ∙ ap₂ (λ x y. x + y) (length_groups m gs) (length_nodes_of (m + group_nodes gs) e) in
      let d : NodeRecord = node kind (root_of (m + group_nodes gs) e) 0 0 in
      let same : node kind (n - 1) 0 0 ≡ d = ap (λ y. node kind (y - 1) 0 0) h.counted in
      record {
        down = λ t r s. closing_prefix (subst (λ l. Closes (prefix kind ∷ gs) e t l r) w.begins (h.down t r s));
        up = λ t r c. h.up t r (subst (λ l. Closes (prefix kind ∷ gs) e t l r) (sym w.begins) (closes_prefix c));
        stacked = below;
        counted = omega (arith, h.counted);
        signals = h.signals;
        written = nodes_behind out m n ds (d ∷ []) (omega (arith, h.counted)) h.written (f ∙ ap (sets new (12 * n)) (one_node (node kind (n - 1) 0 0)) ∙ ap (λ y. sets new (12 * n) (node_bytes (y ∷ []))) same) ∙ rw append_assoc;
      }

  right_closed : {gs : List Group} {e : Expression} (kind : ℕ) (a : Expression) → Having text at m out (right kind a ∷ gs) e i n set depth stack new → Stacked stack m (depth - 1) gs
      → FoundWord text i closing next → new' ≡ sets new (12 * n) (record_bytes kind (root_of (m + group_nodes gs) a) (n - 1) 0 0)
      → Having text at m out gs (binary kind a e) next (n + 1) set (depth - 1) stack new'
  unfolding group_nodes nodes_of_groups signals_in_groups nodes_of nodes_in signals_in
  right_closed {gs} {e} kind a h below w f =
      let ls = nodes_of_groups m gs ++ nodes_of (m + group_nodes gs) a in
      let next-m : m + (group_nodes gs + nodes_in a) ≡ m + group_nodes gs + nodes_in a = omega arith in
      let es = nodes_of (m + group_nodes gs + nodes_in a) e in
      let total : length (ls ++ es) ≡ group_nodes gs + nodes_in a + nodes_in e = length-append ls es ∙ ap₂ (λ x y. x + y) (length-append (nodes_of_groups m gs) _ ∙ ap₂ (λ x y. x + y) (length_groups m gs) (length_nodes_of (m + group_nodes gs) a)) (length_nodes_of (m + group_nodes gs + nodes_in a) e) in
      let d : NodeRecord = node kind (root_of (m + group_nodes gs) a) (root_of (m + group_nodes gs + nodes_in a) e) 0 in
      let counted : n ≡ m + group_nodes gs + nodes_in a + nodes_in e = omega (arith, h.counted) in
      let root = root_of (m + group_nodes gs) a in
      let same : node kind root (n - 1) 0 ≡ d = ap (λ y. node kind root (y - 1) 0) counted in
      record {
        down = λ t r s. closing_right (subst (λ y. Closes (right kind a ∷ gs) e t y r) w.begins (h.down t r s));
        up = λ t r c. h.up t r (subst (λ y. Closes (right kind a ∷ gs) e t y r) (sym w.begins) (closes_right c));
        stacked = below;
        counted = omega (arith, h.counted);
        signals = h.signals ∙ ap (λ y. set_with 0 y) (append_assoc (signals_in_groups gs) (signals_in a) (signals_in e));
        written = nodes_behind out m n (ls ++ es) (d ∷ []) (omega (arith, counted, total)) (h.written ∙ ap (λ y. sets out (12 * m) (node_bytes (ls ++ nodes_of y e))) next-m)
            (f ∙ ap (sets new (12 * n)) (one_node (node kind root (n - 1) 0)) ∙ ap (λ y. sets new (12 * n) (node_bytes (y ∷ []))) same) ∙ rw (append_assoc, append_assoc);
      }

  -- by what the stack holds on top
  module _ (x : Has text at m out i n set depth stack new) (some : 0 < depth) where
    pub prefix_read : {kind : ℕ} → get_or stack (depth - 1) First ≡ Prefix kind → FoundWord text i closing next → new' ≡ sets new (12 * n) (record_bytes kind (n - 1) 0 0 0)
        → Has text at m out next (n + 1) set (depth - 1) stack new'
    prefix_read {kind} e w f =
        let t = top x.having.stacked some in
        let same = held_prefix m t.others t.group (sym t.entry ∙ e) in
        let h : Having text at m out (prefix kind ∷ t.others) x.tree i n set depth stack new =
        subst (λ l. Having text at m out l x.tree i n set depth stack new) (t.all ∙ ap (λ g. g ∷ t.others) same) x.having in
        record { groups = t.others; tree = unary kind x.tree; having = prefix_closed kind h t.below w f }

    pub second_read : {kind first : ℕ} → get_or stack (depth - 1) First ≡ Second kind first → FoundWord text i closing next → new' ≡ sets new (12 * n) (record_bytes kind first (n - 1) 0 0)
        → Has text at m out next (n + 1) set (depth - 1) stack new'
    second_read {kind} {first} e w f =
        let t = top x.having.stacked some in
        let (a, same, root) = held_second m t.others t.group (sym t.entry ∙ e) in
        let h : Having text at m out (right kind a ∷ t.others) x.tree i n set depth stack new =
        subst (λ l. Having text at m out l x.tree i n set depth stack new) (t.all ∙ ap (λ g. g ∷ t.others) same) x.having in
        record { groups = t.others; tree = binary kind a x.tree; having = right_closed kind a h t.below w (f ∙ ap (λ y. sets new (12 * n) (record_bytes kind y (n - 1) 0 0)) root) }

-- where no expression goes on
not_closed : (m : ℕ) {gs : List Group} {e t : Expression} {s r : List Token} (g : Group) → held m gs g ≢ First → NoWord s closing → Closes (g ∷ gs) e t s r → ⊥
unfolding held
not_closed m (prefix kind) some f c = no_bracket_prefix f c
not_closed m left some f c = some refl
not_closed m (right kind a) some f c = no_bracket_right f c

module _ {text : List ℕ} {at m i n set depth : ℕ} {stack : List Open} {out new : List ℕ} where
  pub no_operator : Has text at m out i n set depth stack new → 0 < depth → get_or stack (depth - 1) First ≡ First → NoOperator (from text i) → NoExpression (from text at)
  no_operator x some zero f e r h =
      let t = top x.having.stacked some in
      let is-left : t.group ≡ left = held_first m t.others t.group (sym t.entry ∙ zero) in
      let (c, u, n, s) = closes_operator (subst (λ l. Closes l x.tree e (from text i) r) (t.all ∙ ap (λ g. g ∷ t.others) is-left) (x.having.down e r h)) in
      f c u n s

  pub no_bracket : Has text at m out i n set depth stack new → 0 < depth → get_or stack (depth - 1) First ≢ First → NoWord (from text i) closing → NoExpression (from text at)
  no_bracket x some more f e r h =
      let t = top x.having.stacked some in
      not_closed m t.group (λ z. more (t.entry ∙ z)) f (subst (λ l. Closes l x.tree e (from text i) r) t.all (x.having.down e r h))

-- with no group open the expression is whole
no_groups : {stack : List Open} {m : ℕ} {gs : List Group} → Stacked stack m 0 gs → gs ≡ []
no_groups bottom = refl

pub whole : {text : List ℕ} {at m i n set depth : ℕ} {stack : List Open} {out new : List ℕ} → Has text at m out i n set depth stack new → depth ≡ 0 → (at < i) × (i ≤ length text) × (m < n) × (n ≤ i)
    → FoundExpression text at m i n set out new
unfolding group_nodes nodes_of_groups signals_in_groups
whole {text} {at} {m} {i} {n} {set} {depth} {stack} {out} {new} x zero within =
    let none = no_groups (subst (λ d. Stacked stack m d x.groups) zero x.having.stacked) in
    let h = subst (λ l. Having text at m out l x.tree i n set depth stack new) none x.having in
    record {
      tree = x.tree;
      says = h.up x.tree (from text i) closed;
      counted = h.counted ∙ ap (λ y. y + nodes_in x.tree) (add-zero m);
      signals = h.signals;
      written = h.written ∙ ap (λ y. sets out (12 * m) (node_bytes (nodes_of y x.tree))) (add-zero m);
      within = within;
    }

-- what the loop keeps
pub record Reads (text : List ℕ) (at m : ℕ) (out : List ℕ) (i n set depth : ℕ) (wanted : Bool) (stack : List Open) (new : List ℕ) : Type 0 where
  pub wanting : wanted ≡ true → Wanting text at m out i n set depth stack new
  pub has : wanted ≡ false → Has text at m out i n set depth stack new × (at < i) × (m < n)

pub reads_wanting : {text : List ℕ} {at m i n set depth : ℕ} {stack : List Open} {out new : List ℕ} → Wanting text at m out i n set depth stack new → Reads text at m out i n set depth true stack new
reads_wanting w = record { wanting = λ e. w; has = λ e. absurd (true≢false e) }

pub reads_having : {text : List ℕ} {at m i n set depth : ℕ} {stack : List Open} {out new : List ℕ} → Has text at m out i n set depth stack new → at < i → m < n
    → Reads text at m out i n set depth false stack new
reads_having h l k = record { wanting = λ e. absurd (true≢false (sym e)); has = λ e. (h, l, k) }

pub reads_still : {text : List ℕ} {at m i n set depth : ℕ} {wanted : Bool} {stack : List Open} {out new : List ℕ} → wanted ≡ true → Wanting text at m out i n set depth stack new
    → Reads text at m out i n set depth wanted stack new
reads_still e w = record { wanting = λ y. w; has = λ y. absurd (true≢false (sym e ∙ y)) }

pub reads_on : {text : List ℕ} {at m i n set depth : ℕ} {wanted : Bool} {stack : List Open} {out new : List ℕ} → wanted ≡ false → Has text at m out i n set depth stack new → at < i → m < n
    → Reads text at m out i n set depth wanted stack new
reads_on e h l k = record { wanting = λ y. absurd (true≢false (sym y ∙ e)); has = λ y. (h, l, k) }
