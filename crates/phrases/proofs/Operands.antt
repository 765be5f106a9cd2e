-- What stands where an operand is awaited, by the first tokens there.
-- Assumes nothing.
use mathlib.Core.Path.{◌≡◌, refl, sym, ap, ap₂, subst, ◌∙◌}
use mathlib.Core.Bool.{true, false, ◌||◌, true≢false}
use mathlib.Core.List.{List, [], ◌∷◌}
use mathlib.Core.Logic.{◌≢◌}
use Prim.Native.Nat.{ℕ, ◌+◌, ◌*◌, ◌%◌, ◌^◌, ◌≤◌, ◌<◌}
use native.Mathlib.Nat.{mod-eq_of_lt}
use native.Mathlib.Omega.{arith}
use lib.Bits.{bit_or}
use lib.Pow.{pow-lt}
use lib.Dec.{eqb}
use lib.ListN.{length}
use Rattle.grammar.specs.Tokens.{Token, tok, word, number_code, signal_code, variable_code, logic_code, from, NoWord}
use Rattle.std.specs.Prelude.{Option, Some, None}
use Rattle.tokens.specs.declared.Lexeme.{Lexeme}
use Rattle.tokens.specs.declared.Lexeme.TheVariants.{Number, Signal, Variable, Logic, Word as Spelled, End}
use Rattle.tokens.specs.Answers.{meant, Word, Fits, FirstToken, FoundWord}
use Rattle.tokens.proofs.Lexing.{other_word, other_signal}
use Rattle.phrases.specs.declared.Awaited.{Awaited}
use Rattle.phrases.specs.declared.Awaited.TheVariants.{Leaf as Single, Group as Opening}
use Rattle.grammar.specs.Words.{opening, closing, minus, not_word, delayed_word, operator_of}
use Rattle.grammar.specs.Grammar.{Expression, number, logic, signal, variable, delayed, unary, binary, Says, says_number, says_logic, says_signal, says_variable, says_delayed, says_not, says_negate, says_binary}
use Rattle.grammar.specs.Made.{node, nodes_in, nodes_of, signals_in, set_with}
use Rattle.grammar.proofs.Unique.{says_at, not_delayed, not_first, minus_first}
use Rattle.phrases.specs.Groups.{left, prefix, Closes, closed, closes_prefix, closes_left, Awaits}
use Rattle.phrases.proofs.GroupLaws.{closed_whole}
use Rattle.phrases.specs.Phrases.{NoExpression, NoOperator, FoundLeaf, FoundGroup, OperandIs, leaf_signals}

-- the first token decides
number_alone : {e : Expression} {n : ℕ} {s r : List Token} → Says e (tok number_code n ∷ s) r → (e ≡ number n) × (r ≡ s)
number_alone says_number = (refl, refl)

logic_alone : {e : Expression} {n : ℕ} {s r : List Token} → Says e (tok logic_code n ∷ s) r → (e ≡ logic n) × (r ≡ s)
logic_alone says_logic = (refl, refl)

signal_alone : {e : Expression} {n : ℕ} {s r : List Token} → Says e (tok signal_code n ∷ s) r → (e ≡ signal n) × (r ≡ s)
signal_alone says_signal = (refl, refl)

variable_alone : {e : Expression} {n : ℕ} {s r : List Token} → Says e (tok variable_code n ∷ s) r → (e ≡ variable n) × (r ≡ s)
variable_alone says_variable = (refl, refl)

-- the same of a token of the program
module _ {text : List ℕ} {at next : ℕ} {token : Lexeme} (t : FirstToken text at token next) where
  pub begins_as : (u : Lexeme) → token ≡ u → u ≢ End → from text at ≡ meant u ∷ from text next
  begins_as u e n = t.begins ∙ ap₂ (λ x l. meant x ∷ l) e (t.goes_on (λ z. n (sym e ∙ z))).0

  pub first_within : (u : Lexeme) → token ≡ u → u ≢ End → (at + 1 ≤ next) × (next ≤ length text)
  first_within u e n = (omega (arith, (t.goes_on (λ z. n (sym e ∙ z))).1), t.within.1)

  -- a leaf whose tree is the token's
  leaf : {kind a k : ℕ} (u : Lexeme) (tree : Expression) → token ≡ u → u ≢ End → Says tree (meant u ∷ from text next) (from text next)
      → ((e : Expression) (r : List Token) → Says e (meant u ∷ from text next) r → (e ≡ tree) × (r ≡ from text next)) → nodes_in tree ≡ 1
      → ((m : ℕ) → nodes_of m tree ≡ node kind a 0 k ∷ []) → signals_in tree ≡ leaf_signals kind a → kind < 65536 → a < 64 → ((eqb kind 4 || eqb kind 5) ≡ true → a < 32)
      → FoundLeaf text (from text at) kind a k next × (at + 1 ≤ next) × (next ≤ length text)
  leaf u tree e n says alone one made signals small below named =
      let here = begins_as u e n in (
        record {
          tree = tree;
          says = says_at (sym here) says;
          alone = λ x r h. alone x r (says_at here h);
          one = one;
          made = made;
          signals = signals;
          small = (small, below);
          named = named;
        },
        (first_within u e n).0,
        (first_within u e n).1,
      )

  pub number_leaf : (n : ℕ) → token ≡ Number n → FoundLeaf text (from text at) 1 0 n next × (at + 1 ≤ next) × (next ≤ length text)
  unfolding nodes_in nodes_of signals_in
  number_leaf n e = leaf (Number n) (number n) e (λ z. cc) says_number (λ x r h. number_alone h) refl (λ m. refl) refl (omega arith) (omega arith) (λ z. omega arith)

  pub logic_leaf : (n : ℕ) → token ≡ Logic n → FoundLeaf text (from text at) 2 0 n next × (at + 1 ≤ next) × (next ≤ length text)
  unfolding nodes_in nodes_of signals_in
  logic_leaf n e = leaf (Logic n) (logic n) e (λ z. cc) says_logic (λ x r h. logic_alone h) refl (λ m. refl) refl (omega arith) (omega arith) (λ z. omega arith)

  pub variable_leaf : (n : ℕ) → token ≡ Variable n → FoundLeaf text (from text at) 3 n 0 next × (at + 1 ≤ next) × (next ≤ length text)
  unfolding nodes_in nodes_of signals_in
  variable_leaf n e =
      leaf (Variable n) (variable n) e (λ z. cc) says_variable (λ x r h. variable_alone h) refl (λ m. refl) refl (omega arith) (subst Fits e t.fits) (λ z. absurd (true≢false (sym z)))

  pub signal_leaf : (n : ℕ) → token ≡ Signal n → FoundLeaf text (from text at) 4 n 0 next × (at + 1 ≤ next) × (next ≤ length text)
  unfolding nodes_in nodes_of signals_in
  signal_leaf n e =
      let l : n < 32 = subst Fits e t.fits in
      leaf (Signal n) (signal n) e (λ z. cc) says_signal (λ x r h. signal_alone h) refl (λ m. refl) refl (omega arith) (omega arith) (λ z. l)

-- ( s delayed k )
-- The codes of the name and of the word are variables here: so antt needs not tell two long words apart by counting.
delayed_by : {e : Expression} {s c v a d : ℕ} {u r : List Token} → a ≡ signal_code → d ≡ delayed_word → Says e (word opening ∷ tok a s ∷ word d ∷ tok c v ∷ u) r
    → (c ≡ number_code) × (v ≤ 31) × (e ≡ delayed s v) × (u ≡ word closing ∷ r)
delayed_by f g (says_delayed h) = (refl, h, refl, refl)
delayed_by f g (says_not p) = absurd (omega arith)
delayed_by f g (says_negate p) = absurd (omega arith)
delayed_by f g (says_binary n p q) = absurd (not_delayed n (rw (f, g) at p))

delayed_alone : {e : Expression} {s c v : ℕ} {u r : List Token} → Says e (word opening ∷ tok signal_code s ∷ word delayed_word ∷ tok c v ∷ u) r
    → (c ≡ number_code) × (v ≤ 31) × (e ≡ delayed s v) × (u ≡ word closing ∷ r)
delayed_alone = delayed_by refl refl

-- the same of a token of the program
delayed_only : {e : Expression} {s : ℕ} {u r : List Token} (token : Lexeme) → Fits token → Says e (word opening ∷ tok signal_code s ∷ word delayed_word ∷ meant token ∷ u) r
    → (v : ℕ) × (token ≡ Number v) × (v ≤ 31) × (e ≡ delayed s v) × (u ≡ word closing ∷ r)
delayed_only (Number v) f h = let (x, l, same, rest) = delayed_alone h in (v, refl, l, same, rest)
delayed_only (Signal n) f h = absurd (omega (arith, (delayed_alone h).0))
delayed_only (Variable n) f h = absurd (omega (arith, (delayed_alone h).0))
delayed_only (Logic n) f h = absurd (omega (arith, (delayed_alone h).0))
delayed_only (Spelled c) f h = absurd (f.not_number (delayed_alone h).0)
delayed_only End f h = absurd (omega (arith, (delayed_alone h).0))

module _ (s : ℕ) {text : List ℕ} {at next : ℕ} {token : Lexeme} (t : FirstToken text at token next) where
  delayed_at : {e : Expression} {r : List Token} → Says e (word opening ∷ tok signal_code s ∷ word delayed_word ∷ from text at) r
      → (v : ℕ) × (token ≡ Number v) × (v ≤ 31) × (e ≡ delayed s v) × (t.rest ≡ word closing ∷ r)
  delayed_at h = delayed_only token t.fits (says_at (ap (λ l. word opening ∷ tok signal_code s ∷ word delayed_word ∷ l) t.begins) h)

  pub no_delay_number : ((n : ℕ) → token ≢ Number n) → NoExpression (word opening ∷ tok signal_code s ∷ word delayed_word ∷ from text at)
  no_delay_number n e r h = let (v, same, l, tree, rest) = delayed_at h in n v same

  module _ (v : ℕ) (c : token ≡ Number v) where
    value_same : (n : ℕ) → token ≡ Number n → n ≡ v
    value_same n e = cc

    goes : t.rest ≡ from text next
    goes = (t.goes_on (λ z. cc)).0

    pub no_delay_range : 31 < v → NoExpression (word opening ∷ tok signal_code s ∷ word delayed_word ∷ from text at)
    no_delay_range n e r h = let (k, same, l, tree, rest) = delayed_at h in omega (arith, n, l, value_same k same)

    pub no_delay_bracket : NoWord (from text next) closing → NoExpression (word opening ∷ tok signal_code s ∷ word delayed_word ∷ from text at)
    no_delay_bracket n e r h = let (k, same, l, tree, rest) = delayed_at h in n r (sym goes ∙ rest)

    pub delay_leaf : {after : ℕ} → v ≤ 31 → s < 32 → FoundWord text next closing after → FoundLeaf text (word opening ∷ tok signal_code s ∷ word delayed_word ∷ from text at) 5 s v after
    unfolding nodes_in nodes_of signals_in
    delay_leaf {after} l b w =
        let here : from text at ≡ tok number_code v ∷ word closing ∷ from text after = t.begins ∙ rw (c, goes, w.begins) in
        record {
          tree = delayed s v;
          says = says_at (ap (λ r. word opening ∷ tok signal_code s ∷ word delayed_word ∷ r) (sym here)) (says_delayed l);
          alone = λ e r h.
              let (k, told, m, tree, rest) = delayed_at h in
              let same = value_same k told in
              (tree ∙ ap (delayed s) same, cc);
          one = refl;
          made = λ m. refl;
          signals = refl;
          small = (omega arith, omega arith);
          named = λ z. b;
        }

-- ( not e ) and ( - e )
prefix_down : {kind : ℕ} {e f : Expression} {s r : List Token} → f ≡ unary kind e → Says e s (word closing ∷ r) → Awaits (prefix kind ∷ []) f s r
prefix_down {kind} {e} {f} {s} {r} same h =
    record { tree = e; rest = word closing ∷ r; says = h; closes = subst (λ x. Closes (prefix kind ∷ []) e x (word closing ∷ r) r) (sym same) (closes_prefix closed) }

not_down_by : {c : ℕ} {e : Expression} {s r : List Token} → c ≡ not_word → Says e (word opening ∷ word c ∷ s) r → Awaits (prefix 6 ∷ []) e s r
not_down_by f (says_delayed h) = absurd (omega arith)
not_down_by f (says_not p) = prefix_down refl p
not_down_by f (says_negate p) = absurd (omega arith)
not_down_by f (says_binary n p q) = absurd (not_first (rw f at p))

not_down : {e : Expression} {s r : List Token} → Says e (word opening ∷ word not_word ∷ s) r → Awaits (prefix 6 ∷ []) e s r
not_down = not_down_by refl

negate_down : {e : Expression} {s r : List Token} → Says e (word opening ∷ word minus ∷ s) r → Awaits (prefix 10 ∷ []) e s r
negate_down (says_negate p) = prefix_down refl p
negate_down (says_binary n p q) = absurd (minus_first p)

-- what closes the one group
one_prefix : {kind : ℕ} {e t : Expression} {s r : List Token} → Closes (prefix kind ∷ []) e t s r → (t ≡ unary kind e) × (s ≡ word closing ∷ r)
one_prefix (closes_prefix c) = let (same, rest) = closed_whole c in (sym same, ap (λ l. word closing ∷ l) rest)

not_up : {e : Expression} {s r : List Token} → Awaits (prefix 6 ∷ []) e s r → Says e (word opening ∷ word not_word ∷ s) r
not_up {e} {s} {r} a =
    let (same, rest) = one_prefix a.closes in
    subst (λ x. Says x (word opening ∷ word not_word ∷ s) r) (sym same) (says_not (subst (λ l. Says a.tree s l) rest a.says))

negate_up : {e : Expression} {s r : List Token} → Awaits (prefix 10 ∷ []) e s r → Says e (word opening ∷ word minus ∷ s) r
negate_up {e} {s} {r} a =
    let (same, rest) = one_prefix a.closes in
    subst (λ x. Says x (word opening ∷ word minus ∷ s) r) (sym same) (says_negate (subst (λ l. Says a.tree s l) rest a.says))

-- ( a op b )
left_down : {e : Expression} {s r : List Token} → NoWord s not_word → NoWord s minus → ((n : ℕ) (u : List Token) → s ≡ tok signal_code n ∷ word delayed_word ∷ u → ⊥)
    → Says e (word opening ∷ s) r → Awaits (left ∷ []) e s r
left_down a b d (says_delayed h) = absurd (d _ _ refl)
left_down a b d (says_not p) = absurd (a _ refl)
left_down a b d (says_negate p) = absurd (b _ refl)
left_down a b d (says_binary n p q) = record { tree = _; rest = _; says = p; closes = closes_left n q closed }

left_close : {a e : Expression} {s u r : List Token} → Says a s u → Closes (left ∷ []) a e u r → Says e (word opening ∷ s) r
left_close {a} {e} {s} {u} {r} h (closes_left {c = c} {b = b} n q d) =
    let (same, rest) = closed_whole d in
    subst (λ x. Says x (word opening ∷ s) r) same (subst (λ l. Says (binary (operator_of c) a b) (word opening ∷ s) l) rest (says_binary n h q))

-- the code of a word is none of the others
denying_word : Word not_word
denying_word = record { not_number = λ e. omega (arith, e); not_signal = λ e. omega (arith, e); not_variable = λ e. omega (arith, e); not_logic = λ e. omega (arith, e); not_end = λ e. omega (arith, e) }

minus_word : Word minus
minus_word = record { not_number = λ e. omega (arith, e); not_signal = λ e. omega (arith, e); not_variable = λ e. omega (arith, e); not_logic = λ e. omega (arith, e); not_end = λ e. omega (arith, e) }

module _ {text : List ℕ} {at next : ℕ} {token : Lexeme} (t : FirstToken text at token next) where
  prefix_group : (c : ℕ) → token ≡ Spelled c → word opening ∷ from text at ≡ word opening ∷ word c ∷ from text next
  prefix_group c e = ap (λ l. word opening ∷ l) (begins_as t (Spelled c) e (λ z. cc))

  pub not_group : token ≡ Spelled not_word → FoundGroup text (word opening ∷ from text at) (Some 6) next
  not_group e = let here = prefix_group not_word e in record { down = λ f r h. not_down (says_at here h); up = λ f r a. says_at (sym here) (not_up a) }

  pub negate_group : token ≡ Spelled minus → FoundGroup text (word opening ∷ from text at) (Some 10) next
  negate_group e = let here = prefix_group minus e in record { down = λ f r h. negate_down (says_at here h); up = λ f r a. says_at (sym here) (negate_up a) }

  left_group : token ≢ Spelled not_word → token ≢ Spelled minus → ((n : ℕ) (u : List Token) → from text at ≡ tok signal_code n ∷ word delayed_word ∷ u → ⊥)
      → FoundGroup text (word opening ∷ from text at) None at
  left_group a b d = record { down = λ f r h. left_down (λ r e. other_word token denying_word a (sym t.begins ∙ e)) (λ r e. other_word token minus_word b (sym t.begins ∙ e)) d h; up = λ f r x. left_close x.says x.closes }

  pub left_other : token ≢ Spelled not_word → token ≢ Spelled minus → ((n : ℕ) → token ≢ Signal n) → FoundGroup text (word opening ∷ from text at) None at
  left_other a b c = left_group a b (λ n u e. other_signal token t.fits c (sym t.begins ∙ e))

  pub left_signal : (s : ℕ) → token ≢ Spelled not_word → token ≢ Spelled minus → token ≡ Signal s → NoWord (from text next) delayed_word → FoundGroup text (word opening ∷ from text at) None at
  left_signal s a b c n = left_group a b (λ m u e. n u (let f = begins_as t (Signal s) c (λ z. cc) in cc))

-- what stands at a place stands there for a lower least place
nearer : (text : List ℕ) (s : List Token) {least more : ℕ} (o : Option Awaited) → least ≤ more → OperandIs text s more o → OperandIs text s least o
nearer text s None l h = h
nearer text s (Some (Single x next)) l (f, m, w) = (f, omega (arith, l, m), w)
nearer text s (Some (Opening before next)) l (f, m, w) = (f, omega (arith, l, m), w)

-- what follows an opening bracket, and a delay behind a signal's name
-- no operator is a number, a name, a logic value or the end
no_operator_code : (c : ℕ) → operator_of c ≢ 0 → Word c
unfolding operator_of
no_operator_code c h =
    record { not_number = λ e. h (ap operator_of e); not_signal = λ e. h (ap operator_of e); not_variable = λ e. h (ap operator_of e); not_logic = λ e. h (ap operator_of e); not_end = λ e. h (ap operator_of e) }

module _ {text : List ℕ} {at next : ℕ} {token : Lexeme} (t : FirstToken text at token next) where
  pub no_operator_token : ((c : ℕ) → token ≢ Spelled c) → NoOperator (from text at)
  no_operator_token n c r some e = other_word token (no_operator_code c some) (n c) (sym t.begins ∙ e)

-- the signals of an expression of one node
pub leaf_signal : (set kind a : ℕ) → (eqb kind 4 || eqb kind 5) ≡ true → a < 32 → bit_or set (1 * 2 ^ a % 4294967296) ≡ set_with set (leaf_signals kind a)
unfolding set_with
leaf_signal set kind a e h =
    let l : 2 ^ a < 4294967296 = pow-lt {i = a} {j = 32} h in
    let o : 1 * 2 ^ a % 4294967296 ≡ 2 ^ a = ap (λ x. x % 4294967296) (omega arith) ∙ mod-eq_of_lt l in
    rw (o, e)

pub leaf_none : (set kind a : ℕ) → (eqb kind 4 || eqb kind 5) ≡ false → set ≡ set_with set (leaf_signals kind a)
unfolding set_with
leaf_none set kind a e = rw e
