-- The grammar of a process body (document 02, item 12): syntax trees, and which tokens spell them.
use Rattle.std.specs.Prelude.{◌≡◌, List, [], ◌∷◌, ◌≢◌, ℕ, suc, ◌≤◌}
use Rattle.std.proofs.Math.Option.{Option, none, some}
use Rattle.grammar.specs.Tokens.{Token, tok, word, number_code, signal_code, variable_code, logic_code, end_code, tokens}
use Rattle.grammar.specs.Words.{null_word, wait_word, on_word, until_word, for_word, after_word, if_word, then_word, else_word, end_word, while_word, loop_word, delayed_word, not_word, opening, closing, semicolon, comma, minus, becomes, drives, operator_of}

-- "Expressions are unsigned integers, logic values as '0' or 'U', names, (not e), (- e), (s delayed k), or (e op e)". An operator is told by
-- its node kind: 6 is not, 10 is -.
pub data Expression : Type 0 where
  number : ℕ → Expression
  logic : ℕ → Expression
  signal : ℕ → Expression
  variable : ℕ → Expression
  delayed : ℕ → ℕ → Expression
  unary : ℕ → Expression → Expression
  binary : ℕ → Expression → Expression → Expression

-- "Statements [..] are `null`, `v := e`, `s <= e after e` (kind 2), `wait` with the optional parts [..], `if` [..] and `while`". A list of statements
-- a b c is a then (b then c).
pub data Statement : Type 0 where
  null : Statement
  assign : ℕ → Expression → Statement
  drive : ℕ → Expression → Expression → Statement
  -- on, until, for
  wait : Option (List ℕ) → Option Expression → Option Expression → Statement
  ◌then◌ : Statement → Statement → Statement
  while : Expression → Statement → Statement
  choice : Expression → Statement → Statement → Statement

infixr 50 ◌then◌
-- the tokens s are those of the expression, and then r
pub data Says : Expression → List Token → List Token → Type 0 where
  -- 25
  says_number : {n : ℕ} {r : List Token} → Says (number n) (tok number_code n ∷ r) r
  -- 'U'
  says_logic : {n : ℕ} {r : List Token} → Says (logic n) (tok logic_code n ∷ r) r
  -- s3
  says_signal : {n : ℕ} {r : List Token} → Says (signal n) (tok signal_code n ∷ r) r
  -- v3
  says_variable : {n : ℕ} {r : List Token} → Says (variable n) (tok variable_code n ∷ r) r
  -- ( s delayed k ), k being 0 to 31
  says_delayed : {s k : ℕ} {r : List Token} → k ≤ 31
      → Says (delayed s k) (word opening ∷ tok signal_code s ∷ word delayed_word ∷ tok number_code k ∷ word closing ∷ r) r
  -- ( not e )
  says_not : {e : Expression} {s r : List Token} → Says e s (word closing ∷ r) → Says (unary 6 e) (word opening ∷ word not_word ∷ s) r
  -- ( - e )
  says_negate : {e : Expression} {s r : List Token} → Says e s (word closing ∷ r) → Says (unary 10 e) (word opening ∷ word minus ∷ s) r
  -- ( a op b )
  says_binary : {c : ℕ} {a b : Expression} {s t r : List Token} → operator_of c ≢ 0 → Says a s (word c ∷ t) → Says b t (word closing ∷ r)
      → Says (binary (operator_of c) a b) (word opening ∷ s) r

-- "signals, commas between"
pub data SaysSignals : List ℕ → List Token → List Token → Type 0 where
  one_signal : {n : ℕ} {r : List Token} → SaysSignals (n ∷ []) (tok signal_code n ∷ r) r
  more_signals : {n : ℕ} {ns : List ℕ} {s r : List Token} → SaysSignals ns s r → SaysSignals (n ∷ ns) (tok signal_code n ∷ word comma ∷ s) r

-- "`wait` with the optional parts `on` (signals, commas between), `until e` and `for e` in that order": what follows the word, part by part, and
-- the semicolon
pub data SaysFor : Option Expression → List Token → List Token → Type 0 where
  no_for : {r : List Token} → SaysFor none (word semicolon ∷ r) r
  with_for : {e : Expression} {s r : List Token} → Says e s (word semicolon ∷ r) → SaysFor (some e) (word for_word ∷ s) r

pub data SaysUntil : Option Expression → Option Expression → List Token → List Token → Type 0 where
  no_until : {f : Option Expression} {s r : List Token} → SaysFor f s r → SaysUntil none f s r
  with_until : {e : Expression} {f : Option Expression} {s t r : List Token} → Says e s t → SaysFor f t r → SaysUntil (some e) f (word until_word ∷ s) r

pub data SaysOn : Option (List ℕ) → Option Expression → Option Expression → List Token → List Token → Type 0 where
  no_on : {u f : Option Expression} {s r : List Token} → SaysUntil u f s r → SaysOn none u f s r
  with_on : {ns : List ℕ} {u f : Option Expression} {s t r : List Token} → SaysSignals ns s t → SaysUntil u f t r → SaysOn (some ns) u f (word on_word ∷ s) r

-- one statement, or a list of them
pub data Part : Type 0 where
  one list : Part

-- the tokens s are those of a statement or list with at most so many levels of `if` and `while`, and then r
pub data Spells : Part → ℕ → Statement → List Token → List Token → Type 0 where
  -- null ;
  spells_null : {d : ℕ} {r : List Token} → Spells one d null (word null_word ∷ word semicolon ∷ r) r
  -- v := e ;
  spells_assign : {d v : ℕ} {e : Expression} {s r : List Token} → Says e s (word semicolon ∷ r)
      → Spells one d (assign v e) (tok variable_code v ∷ word becomes ∷ s) r
  -- s <= e after e ;
  spells_drive : {d n : ℕ} {e f : Expression} {s t r : List Token} → Says e s (word after_word ∷ t) → Says f t (word semicolon ∷ r)
      → Spells one d (drive n e f) (tok signal_code n ∷ word drives ∷ s) r
  -- wait on .. until e for e ;
  spells_wait : {d : ℕ} {o : Option (List ℕ)} {u f : Option Expression} {s r : List Token} → SaysOn o u f s r
      → Spells one d (wait o u f) (word wait_word ∷ s) r
  -- while e loop p end loop ;
  spells_while : {d : ℕ} {e : Expression} {p : Statement} {s t r : List Token} → Says e s (word loop_word ∷ t)
      → Spells list d p t (word end_word ∷ word loop_word ∷ word semicolon ∷ r) → Spells one (suc d) (while e p) (word while_word ∷ s) r
  -- if e then p else q end if ;
  spells_choice : {d : ℕ} {e : Expression} {p q : Statement} {s t u r : List Token} → Says e s (word then_word ∷ t)
      → Spells list d p t (word else_word ∷ u)
      → Spells list d q u (word end_word ∷ word if_word ∷ word semicolon ∷ r)
      → Spells one (suc d) (choice e p q) (word if_word ∷ s) r
  -- a list has at least one statement
  last : {d : ℕ} {p : Statement} {s r : List Token} → Spells one d p s r → Spells list d p s r
  more : {d : ℕ} {p q : Statement} {s t r : List Token} → Spells one d p s t → Spells list d q t r → Spells list d (p then q) s r

-- The text is a sentence that says p: a list with "up to 16 levels of `if` and `while`", up to the end mark.
pub record Sentence (text : List ℕ) (p : Statement) : Type 0 where
  pub rest : List Token
  pub spells : Spells list 16 p (tokens text) (word end_code ∷ rest)

-- "A text has one reading."
abbrev pub OneReading : List ℕ → Type 0
OneReading text = (p q : Statement) → Sentence text p → Sentence text q → p ≡ q
