-- Expressions read by a loop: the groups that are open where it stands, and what is still to come.
use Rattle.std.specs.Prelude.{List, [], ◌∷◌, ◌++◌, ◌≢◌, ◌≡◌, ℕ, suc, ◌+◌, get_or, Option, Some, None}
use Rattle.blocks.specs.declared.records.NodeRecord.{NodeRecord}
use Rattle.phrases.specs.declared.Open.{Open}
use Rattle.phrases.specs.declared.Open.TheVariants.{Prefix, First, Second}
use Rattle.grammar.specs.Tokens.{Token, word}
use Rattle.grammar.specs.Words.{closing, operator_of}
use Rattle.grammar.specs.Grammar.{Expression, unary, binary, Says}
use Rattle.grammar.specs.Made.{nodes_in, nodes_of, signals_in, root_of}

-- An open group, the innermost operand of which is being read: ( not _ ) or ( - _ ) by the node kind, the first operand of ( _ op b ), or the
-- second of ( a op _ ) by the node kind of op and the tree of a.
pub data Group : Type 0 where
  prefix : ℕ → Group
  left : Group
  right : ℕ → Expression → Group

-- With e in the innermost of the open groups, the tokens s close them all, the whole is the expression t, and r is left.
pub data Closes : List Group → Expression → Expression → List Token → List Token → Type 0 where
  closed : {e : Expression} {s : List Token} → Closes [] e e s s
  closes_prefix : {gs : List Group} {kind : ℕ} {e t : Expression} {s r : List Token} → Closes gs (unary kind e) t s r
      → Closes (prefix kind ∷ gs) e t (word closing ∷ s) r
  closes_left : {gs : List Group} {c : ℕ} {a b t : Expression} {s u r : List Token} → operator_of c ≢ 0 → Says b s (word closing ∷ u)
      → Closes gs (binary (operator_of c) a b) t u r → Closes (left ∷ gs) a t (word c ∷ s) r
  closes_right : {gs : List Group} {kind : ℕ} {a b t : Expression} {s r : List Token} → Closes gs (binary kind a b) t s r
      → Closes (right kind a ∷ gs) b t (word closing ∷ s) r

-- The tokens s are those of an expression and of what closes the groups with it; the whole is t, and r is left.
pub record Awaits (gs : List Group) (t : Expression) (s r : List Token) : Type 0 where
  pub tree : Expression
  pub rest : List Token
  pub says : Says tree s rest
  pub closes : Closes gs tree t rest r

-- how many nodes the operands make that are read already, which, and the signals in them; m nodes stand before the whole
unfoldable pub group_nodes : List Group → ℕ
group_nodes [] = 0
group_nodes (prefix kind ∷ gs) = group_nodes gs
group_nodes (left ∷ gs) = group_nodes gs
group_nodes (right kind a ∷ gs) = group_nodes gs + nodes_in a

unfoldable pub nodes_of_groups : ℕ → List Group → List NodeRecord
nodes_of_groups m [] = []
nodes_of_groups m (prefix kind ∷ gs) = nodes_of_groups m gs
nodes_of_groups m (left ∷ gs) = nodes_of_groups m gs
nodes_of_groups m (right kind a ∷ gs) = nodes_of_groups m gs ++ nodes_of (m + group_nodes gs) a

unfoldable pub signals_in_groups : List Group → List ℕ
signals_in_groups [] = []
signals_in_groups (prefix kind ∷ gs) = signals_in_groups gs
signals_in_groups (left ∷ gs) = signals_in_groups gs
signals_in_groups (right kind a ∷ gs) = signals_in_groups gs ++ signals_in a

-- a group as the stack holds it
unfoldable pub held : ℕ → List Group → Group → Open
held m gs (prefix kind) = Prefix kind
held m gs left = First
held m gs (right kind a) = Second kind (root_of (m + group_nodes gs) a)

-- the group that opens, by the node kind of `not` or `-` before its operand
abbrev pub opened : Option ℕ → Group
opened None = left
opened (Some kind) = prefix kind

-- the stack holds the groups, the innermost on top
pub data Stacked (stack : List Open) (m : ℕ) : ℕ → List Group → Type 0 where
  bottom : Stacked stack m 0 []
  on_top : {depth : ℕ} {g : Group} {gs : List Group} → get_or stack depth First ≡ held m gs g → Stacked stack m depth gs
      → Stacked stack m (suc depth) (g ∷ gs)
