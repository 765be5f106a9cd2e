-- "A text has one reading": the same tokens spell one tree, and leave the same rest.
-- Assumes nothing.
use mathlib.Core.Path.{◌≡◌, refl, sym, ap, ◌∙◌}
use mathlib.Core.List.{List, ◌∷◌}
use mathlib.Core.Logic.{◌≢◌}
use mathlib.Core.Option.{Option, none, some}
use Prim.Native.Nat.{ℕ}
use native.Mathlib.Omega.{arith}
use Rattle.grammar.specs.Tokens.{Token, tok, word, number_code, logic_code, end_code, signal_code, variable_code, NoWord}
use Rattle.grammar.specs.Words.{null_word, wait_word, on_word, until_word, for_word, after_word, if_word, then_word, else_word, loop_word, becomes, drives, end_word, while_word, delayed_word, not_word, minus, opening, closing, semicolon, comma, operator_of}
use Rattle.grammar.specs.Grammar.{Expression, number, logic, signal, variable, delayed, unary, binary, Statement, null, assign, drive, wait, while, choice, Says, says_number, says_logic, says_signal, says_variable, says_delayed, says_not, says_negate, says_binary, SaysSignals, one_signal, more_signals, SaysFor, no_for, with_for, SaysUntil, no_until, with_until, SaysOn, no_on, with_on, Part, one, list, Spells, spells_null, spells_assign, spells_drive, spells_wait, spells_while, spells_choice, last, more, OneReading}

-- the same from equal tokens
pub says_at : {e : Expression} {s t r : List Token} → s ≡ t → Says e s r → Says e t r
says_at e h = rw e at h

pub spells_at : {k : Part} {d : ℕ} {p : Statement} {s t r : List Token} → s ≡ t → Spells k d p s r → Spells k d p t r
spells_at e h = rw e at h

-- what follows a signal that is delayed is no operator
pub not_delayed : {c s : ℕ} {a : Expression} {r t : List Token} → operator_of c ≢ 0
    → Says a (tok signal_code s ∷ word delayed_word ∷ r) (word c ∷ t) → ⊥
unfolding operator_of
not_delayed h says_signal = h refl

-- no expression starts with a word or sign but an opening bracket
other_first : {c v : ℕ} {a : Expression} {s t : List Token} → c ≢ number_code → c ≢ logic_code → c ≢ signal_code → c ≢ variable_code → c ≢ opening
    → Says a (tok c v ∷ s) t → ⊥
other_first n l g v o says_number = n refl
other_first n l g v o says_logic = l refl
other_first n l g v o says_signal = g refl
other_first n l g v o says_variable = v refl
other_first n l g v o (says_delayed h) = o refl
other_first n l g v o (says_not p) = o refl
other_first n l g v o (says_negate p) = o refl
other_first n l g v o (says_binary m p q) = o refl

pub not_first : {a : Expression} {s t : List Token} → Says a (word not_word ∷ s) t → ⊥
not_first = other_first (λ e. omega arith) (λ e. omega arith) (λ e. omega arith) (λ e. omega arith) (λ e. omega arith)

pub minus_first : {a : Expression} {s t : List Token} → Says a (word minus ∷ s) t → ⊥
minus_first = other_first (λ e. omega arith) (λ e. omega arith) (λ e. omega arith) (λ e. omega arith) (λ e. omega arith)

same_unary : {k : ℕ} {a b : Expression} {r t : List Token} → (a ≡ b) × (word closing ∷ r ≡ word closing ∷ t) → (unary k a ≡ unary k b) × (r ≡ t)
same_unary (e, f) = (cc, cc)

same_after : {c d : ℕ} {r t : List Token} → word c ∷ r ≡ word d ∷ t → (c ≡ d) × (t ≡ r)
same_after e = (cc, cc)

same_binary : {c d : ℕ} {a b v w : Expression} {r t : List Token} → a ≡ v → c ≡ d → (b ≡ w) × (word closing ∷ r ≡ word closing ∷ t)
    → (binary (operator_of c) a b ≡ binary (operator_of d) v w) × (r ≡ t)
same_binary e f (g, h) = (cc, cc)

-- what the second reading is, by the first reading's form, where the parts have one reading
abbrev One : Expression → List Token → List Token → Type 0
One e s r = (b : Expression) (t : List Token) → Says b s t → (e ≡ b) × (r ≡ t)

number_case : {n : ℕ} {s : List Token} → One (number n) (tok number_code n ∷ s) s
number_case b t says_number = (refl, refl)

logic_case : {n : ℕ} {s : List Token} → One (logic n) (tok logic_code n ∷ s) s
logic_case b t says_logic = (refl, refl)

signal_case : {n : ℕ} {s : List Token} → One (signal n) (tok signal_code n ∷ s) s
signal_case b t says_signal = (refl, refl)

variable_case : {n : ℕ} {s : List Token} → One (variable n) (tok variable_code n ∷ s) s
variable_case b t says_variable = (refl, refl)

-- A code is a variable here: so antt needs not tell two long words apart by counting.
delayed_by : {c d n k : ℕ} {r : List Token} → c ≡ signal_code → d ≡ delayed_word
    → One (delayed n k) (word opening ∷ tok c n ∷ word d ∷ tok number_code k ∷ word closing ∷ r) r
delayed_by e f b t (says_delayed k) = (refl, refl)
delayed_by e f b t (says_not p) = absurd (omega arith)
delayed_by e f b t (says_negate p) = absurd (omega arith)
delayed_by e f b t (says_binary n p q) = absurd (not_delayed n (rw (e, f) at p))

delayed_case : {n k : ℕ} {r : List Token}
    → One (delayed n k) (word opening ∷ tok signal_code n ∷ word delayed_word ∷ tok number_code k ∷ word closing ∷ r) r
delayed_case = delayed_by refl refl

not_by : {c : ℕ} {e : Expression} {s r : List Token} → c ≡ not_word → One e s (word closing ∷ r) → One (unary 6 e) (word opening ∷ word c ∷ s) r
not_by f h b t (says_delayed k) = absurd (omega arith)
not_by f h b t (says_not q) = same_unary (h _ _ q)
not_by f h b t (says_negate q) = absurd (omega arith)
not_by f h b t (says_binary n v q) = absurd (not_first (rw f at v))

not_case : {e : Expression} {s r : List Token} → One e s (word closing ∷ r) → One (unary 6 e) (word opening ∷ word not_word ∷ s) r
not_case h = not_by refl h

negate_case : {e : Expression} {s r : List Token} → One e s (word closing ∷ r) → One (unary 10 e) (word opening ∷ word minus ∷ s) r
negate_case h b t (says_negate q) = same_unary (h _ _ q)
negate_case h b t (says_binary n v q) = absurd (minus_first v)

binary_case : {c : ℕ} {x y : Expression} {s u r : List Token} → operator_of c ≢ 0 → Says x s (word c ∷ u) → One x s (word c ∷ u) → One y u (word closing ∷ r)
    → One (binary (operator_of c) x y) (word opening ∷ s) r
binary_case n p h g b t (says_delayed k) = absurd (not_delayed n p)
binary_case n p h g b t (says_not q) = absurd (not_first p)
binary_case n p h g b t (says_negate q) = absurd (minus_first p)
binary_case n p h g b t (says_binary m v w) =
    let (same-a, left) = h _ _ v in
    let (same_code, same_rest) = same_after left in
    same_binary same-a same_code (g _ _ (says_at same_rest w))

one_of : {a : Expression} {s r : List Token} → Says a s r → One a s r
one_of says_number = number_case
one_of says_logic = logic_case
one_of says_signal = signal_case
one_of says_variable = variable_case
one_of (says_delayed h) = delayed_case
one_of (says_not p) = not_case (one_of p)
one_of (says_negate p) = negate_case (one_of p)
one_of (says_binary n p q) = binary_case n p (one_of p) (one_of q)

pub one_expression : {a b : Expression} {s r t : List Token} → Says a s r → Says b s t → (a ≡ b) × (r ≡ t)
one_expression p q = one_of p _ _ q

-- where no statement starts
pub record Stops (c : ℕ) : Type 0 where
  pub not_null : c ≢ null_word
  pub not_variable : c ≢ variable_code
  pub not_signal : c ≢ signal_code
  pub not_wait : c ≢ wait_word
  pub not_while : c ≢ while_word
  pub not_if : c ≢ if_word

pub not_at_stop : {k : Part} {d c v : ℕ} {p : Statement} {r t : List Token} → Stops c → Spells k d p (tok c v ∷ r) t → ⊥
not_at_stop h spells_null = h.not_null refl
not_at_stop h (spells_assign e) = h.not_variable refl
not_at_stop h (spells_drive e f) = h.not_signal refl
not_at_stop h (spells_wait e) = h.not_wait refl
not_at_stop h (spells_while e p) = h.not_while refl
not_at_stop h (spells_choice e p q) = h.not_if refl
not_at_stop h (last p) = not_at_stop h p
not_at_stop h (more p q) = not_at_stop h p

-- what follows a list is a word with which no statement starts
abbrev pub Ends : Part → List Token → Type 0
Ends one r = Unit {0}
Ends list r = (c : ℕ) × (t : List Token) × (r ≡ word c ∷ t) × Stops c

pub stops_end : Stops end_word
stops_end = record { not_null = λ e. omega arith; not_variable = λ e. omega arith; not_signal = λ e. omega arith; not_wait = λ e. omega arith; not_while = λ e. omega arith; not_if = λ e. omega arith }

pub stops_else : Stops else_word
stops_else = record { not_null = λ e. omega arith; not_variable = λ e. omega arith; not_signal = λ e. omega arith; not_wait = λ e. omega arith; not_while = λ e. omega arith; not_if = λ e. omega arith }

pub stops_mark : Stops end_code
stops_mark = record { not_null = λ e. omega arith; not_variable = λ e. omega arith; not_signal = λ e. omega arith; not_wait = λ e. omega arith; not_while = λ e. omega arith; not_if = λ e. omega arith }

-- the parts of a wait. A list of signals ends where no comma follows.
pub other_word : {c d : ℕ} {r t : List Token} → c ≢ d → word c ∷ r ≡ word d ∷ t → ⊥
other_word {c = c} {d = d} n e = let same : c ≡ d = cc e in n same

for_without_comma : {f : Option Expression} {s r : List Token} → SaysFor f s r → NoWord s comma
for_without_comma no_for t e = other_word {c = semicolon} {d = comma} (λ x. omega arith) e
for_without_comma (with_for p) t e = other_word {c = for_word} {d = comma} (λ x. omega arith) e

pub until_without_comma : {u f : Option Expression} {s r : List Token} → SaysUntil u f s r → NoWord s comma
until_without_comma (no_until p) t e = for_without_comma p t e
until_without_comma (with_until p q) t e = other_word {c = until_word} {d = comma} (λ x. omega arith) e

pub one_signals : {ns ms : List ℕ} {s r t : List Token} → NoWord r comma → NoWord t comma → SaysSignals ns s r → SaysSignals ms s t → (ns ≡ ms) × (r ≡ t)
one_signals x y one_signal one_signal = (refl, refl)
one_signals x y one_signal (more_signals p) = absurd (x _ refl)
one_signals x y (more_signals p) one_signal = absurd (y _ refl)
one_signals x y (more_signals p) (more_signals q) = let (same, left) = one_signals x y p q in (cc, cc)

-- The codes of long words are variables in what follows, as above.
no_for_by : {c : ℕ} {g : Option Expression} {r t : List Token} → c ≡ semicolon → SaysFor g (word c ∷ r) t → (none ≡ g) × (r ≡ t)
no_for_by h no_for = (refl, refl)
no_for_by h (with_for q) = absurd (omega arith)

for_by : {c : ℕ} {e : Expression} {g : Option Expression} {s r t : List Token} → c ≡ for_word → Says e s (word semicolon ∷ r) → SaysFor g (word c ∷ s) t
    → (some e ≡ g) × (r ≡ t)
for_by h p no_for = absurd (omega arith)
for_by h p (with_for q) = let (same, left) = one_expression p q in (cc, cc)

pub one_for : {f g : Option Expression} {s r t : List Token} → SaysFor f s r → SaysFor g s t → (f ≡ g) × (r ≡ t)
one_for no_for q = no_for_by refl q
one_for (with_for p) q = for_by refl p q

pub for_at : {f : Option Expression} {s t r : List Token} → s ≡ t → SaysFor f s r → SaysFor f t r
for_at e h = rw e at h

pub until_at : {u f : Option Expression} {s t r : List Token} → s ≡ t → SaysUntil u f s r → SaysUntil u f t r
until_at e h = rw e at h

for_not_until : {f : Option Expression} {s t r : List Token} → SaysFor f s r → s ≡ word until_word ∷ t → ⊥
for_not_until no_for e = other_word {c = semicolon} {d = until_word} (λ x. omega arith) e
for_not_until (with_for p) e = other_word {c = for_word} {d = until_word} (λ x. omega arith) e

until_by : {c : ℕ} {e : Expression} {f g w : Option Expression} {s m r t : List Token} → c ≡ until_word → Says e s m → SaysFor f m r
    → SaysUntil w g (word c ∷ s) t → (some e ≡ w) × (f ≡ g) × (r ≡ t)
until_by {s = s} h p v (no_until q) = absurd (for_not_until q (ap (λ (c : ℕ). word c ∷ s) h))
until_by h p v (with_until q w) =
    let (same, left) = one_expression p q in
    let (also, after) = one_for v (for_at (sym left) w) in
    (cc, also, after)

pub one_until : {u v f g : Option Expression} {s r t : List Token} → SaysUntil u f s r → SaysUntil v g s t → (u ≡ v) × (f ≡ g) × (r ≡ t)
one_until (no_until p) (no_until q) = let (same, left) = one_for p q in (refl, same, left)
one_until (no_until p) (with_until q w) = absurd (for_not_until p refl)
one_until (with_until p v) q = until_by refl p v q

until_not_on : {u f : Option Expression} {s t r : List Token} → SaysUntil u f s r → s ≡ word on_word ∷ t → ⊥
until_not_on (no_until no_for) e = other_word {c = semicolon} {d = on_word} (λ x. omega arith) e
until_not_on (no_until (with_for p)) e = other_word {c = for_word} {d = on_word} (λ x. omega arith) e
until_not_on (with_until p q) e = other_word {c = until_word} {d = on_word} (λ x. omega arith) e

on_by : {c : ℕ} {ns : List ℕ} {n : Option (List ℕ)} {u v f g : Option Expression} {s m r t : List Token} → c ≡ on_word → SaysSignals ns s m → SaysUntil u f m r
    → SaysOn n v g (word c ∷ s) t → (some ns ≡ n) × (u ≡ v) × (f ≡ g) × (r ≡ t)
on_by {s = s} h p v (no_on q) = absurd (until_not_on q (ap (λ (c : ℕ). word c ∷ s) h))
on_by h p v (with_on q w) =
    let (same, left) = one_signals (until_without_comma v) (until_without_comma w) p q in
    let (also, third, after) = one_until v (until_at (sym left) w) in
    (cc, also, third, after)

pub one_on : {o n : Option (List ℕ)} {u v f g : Option Expression} {s r t : List Token} → SaysOn o u f s r → SaysOn n v g s t
    → (o ≡ n) × (u ≡ v) × (f ≡ g) × (r ≡ t)
one_on (no_on p) (no_on q) = let (same, also, left) = one_until p q in (refl, same, also, left)
one_on (no_on p) (with_on q w) = absurd (until_not_on p refl)
one_on (with_on p v) q = on_by refl p v q

-- what a statement is, by its first token
null_form : {c v f : ℕ} {q : Statement} {s t : List Token} → c ≡ null_word → Spells one f q (tok c v ∷ s) t → (null ≡ q) × (s ≡ word semicolon ∷ t)
null_form h spells_null = (refl, refl)
null_form h (spells_assign e) = absurd (omega arith)
null_form h (spells_drive e g) = absurd (omega arith)
null_form h (spells_wait a) = absurd (omega arith)
null_form h (spells_while e p) = absurd (omega arith)
null_form h (spells_choice e p q) = absurd (omega arith)

assign_form : {c v f : ℕ} {q : Statement} {s t : List Token} → c ≡ variable_code → Spells one f q (tok c v ∷ s) t
    → (e : Expression) × (m : List Token) × (assign v e ≡ q) × (s ≡ word becomes ∷ m) × Says e m (word semicolon ∷ t)
assign_form h spells_null = absurd (omega arith)
assign_form h (spells_assign e) = (_, _, refl, refl, e)
assign_form h (spells_drive e g) = absurd (omega arith)
assign_form h (spells_wait a) = absurd (omega arith)
assign_form h (spells_while e p) = absurd (omega arith)
assign_form h (spells_choice e p q) = absurd (omega arith)

drive_form : {c v f : ℕ} {q : Statement} {s t : List Token} → c ≡ signal_code → Spells one f q (tok c v ∷ s) t
    → (e g : Expression) × (m n : List Token) × (drive v e g ≡ q) × (s ≡ word drives ∷ m) × Says e m (word after_word ∷ n) × Says g n (word semicolon ∷ t)
drive_form h spells_null = absurd (omega arith)
drive_form h (spells_assign e) = absurd (omega arith)
drive_form h (spells_drive e g) = (_, _, _, _, refl, refl, e, g)
drive_form h (spells_wait a) = absurd (omega arith)
drive_form h (spells_while e p) = absurd (omega arith)
drive_form h (spells_choice e p q) = absurd (omega arith)

wait_form : {c v f : ℕ} {q : Statement} {s t : List Token} → c ≡ wait_word → Spells one f q (tok c v ∷ s) t
    → (o : Option (List ℕ)) × (u g : Option Expression) × (wait o u g ≡ q) × SaysOn o u g s t
wait_form h spells_null = absurd (omega arith)
wait_form h (spells_assign e) = absurd (omega arith)
wait_form h (spells_drive e g) = absurd (omega arith)
wait_form h (spells_wait a) = (_, _, _, refl, a)
wait_form h (spells_while e p) = absurd (omega arith)
wait_form h (spells_choice e p q) = absurd (omega arith)

while_form : {c v f : ℕ} {q : Statement} {s t : List Token} → c ≡ while_word → Spells one f q (tok c v ∷ s) t
    → (e : Expression) × (p : Statement) × (g : ℕ) × (m : List Token) × (while e p ≡ q) × Says e s (word loop_word ∷ m)
    × Spells list g p m (word end_word ∷ word loop_word ∷ word semicolon ∷ t)
while_form h spells_null = absurd (omega arith)
while_form h (spells_assign e) = absurd (omega arith)
while_form h (spells_drive e g) = absurd (omega arith)
while_form h (spells_wait a) = absurd (omega arith)
while_form h (spells_while e p) = (_, _, _, _, refl, e, p)
while_form h (spells_choice e p q) = absurd (omega arith)

choice_form : {c v f : ℕ} {q : Statement} {s t : List Token} → c ≡ if_word → Spells one f q (tok c v ∷ s) t
    → (e : Expression) × (p w : Statement) × (g : ℕ) × (m n : List Token) × (choice e p w ≡ q) × Says e s (word then_word ∷ m)
    × Spells list g p m (word else_word ∷ n) × Spells list g w n (word end_word ∷ word if_word ∷ word semicolon ∷ t)
choice_form h spells_null = absurd (omega arith)
choice_form h (spells_assign e) = absurd (omega arith)
choice_form h (spells_drive e g) = absurd (omega arith)
choice_form h (spells_wait a) = absurd (omega arith)
choice_form h (spells_while e p) = absurd (omega arith)
choice_form h (spells_choice e p q) = (_, _, _, _, _, _, refl, e, p, q)

same_tail : {x y : Token} {r t : List Token} → x ∷ r ≡ y ∷ t → r ≡ t
same_tail e = cc

same_assign : {v : ℕ} {e f : Expression} {q : Statement} → e ≡ f → assign v f ≡ q → assign v e ≡ q
same_assign e h = rw e h

same_drive : {v : ℕ} {e f g h : Expression} {q : Statement} → e ≡ f → g ≡ h → drive v f h ≡ q → drive v e g ≡ q
same_drive e f h = rw (e, f) h

same_wait : {o n : Option (List ℕ)} {u v f g : Option Expression} {q : Statement} → o ≡ n → u ≡ v → f ≡ g → wait n v g ≡ q → wait o u f ≡ q
same_wait e f g h = rw (e, f, g) h

same_while : {e f : Expression} {p w q : Statement} → e ≡ f → p ≡ w → while f w ≡ q → while e p ≡ q
same_while e f h = rw (e, f) h

same_choice : {e f : Expression} {p w x y q : Statement} → e ≡ f → p ≡ w → x ≡ y → choice f w y ≡ q → choice e p x ≡ q
same_choice e f g h = rw (e, f, g) h

same_loop_end : {r t : List Token} → word end_word ∷ word loop_word ∷ word semicolon ∷ r ≡ word end_word ∷ word loop_word ∷ word semicolon ∷ t → r ≡ t
same_loop_end e = same_tail (same_tail (same_tail e))

same_if_end : {r t : List Token} → word end_word ∷ word if_word ∷ word semicolon ∷ r ≡ word end_word ∷ word if_word ∷ word semicolon ∷ t → r ≡ t
same_if_end e = same_tail (same_tail (same_tail e))

pub one_statement : {k : Part} {d f : ℕ} {p q : Statement} {s r t : List Token} → Ends k r → Ends k t → Spells k d p s r → Spells k f q s t → (p ≡ q) × (r ≡ t)
one_statement x y spells_null w = let (same, rest) = null_form refl w in (same, same_tail rest)
one_statement x y (spells_assign e) w =
    let (f, m, form, rest, h) = assign_form refl w in
    let (same, after) = one_expression e (says_at (sym (same_tail rest)) h) in
    (same_assign same form, same_tail after)
one_statement x y (spells_drive e f) w =
    let (a, b, m, n, form, rest, h, g) = drive_form refl w in
    let (same, left) = one_expression e (says_at (sym (same_tail rest)) h) in
    let (also, after) = one_expression f (says_at (sym (same_tail left)) g) in
    (same_drive same also form, same_tail after)
one_statement x y (spells_wait a) w =
    let (o, u, g, form, h) = wait_form refl w in
    let (same, also, third, after) = one_on a h in
    (same_wait same also third form, after)
one_statement x y (spells_while e p) w =
    let (f, v, g, m, form, h, q) = while_form refl w in
    let (same, left) = one_expression e h in
    let (also, after) = one_statement (end_word, _, refl, stops_end) (end_word, _, refl, stops_end) p (spells_at (sym (same_tail left)) q) in
    (same_while same also form, same_loop_end after)
one_statement x y (spells_choice e p q) w =
    let (f, a, b, g, m, n, form, h, v, u) = choice_form refl w in
    let (same, left) = one_expression e h in
    let (also, middle) = one_statement (else_word, _, refl, stops_else) (else_word, _, refl, stops_else) p (spells_at (sym (same_tail left)) v) in
    let (third, after) = one_statement (end_word, _, refl, stops_end) (end_word, _, refl, stops_end) q (spells_at (sym (same_tail middle)) u) in
    (same_choice same also third form, same_if_end after)
one_statement x y (last p) (last q) = one_statement tt tt p q
one_statement x y (last p) (more q w) =
    let (c, t, e, h) = x in
    let (same, after) = one_statement tt tt p q in
    absurd (not_at_stop h (spells_at (sym after ∙ e) w))
one_statement x y (more p v) (last q) =
    let (c, t, e, h) = y in
    let (same, after) = one_statement tt tt p q in
    absurd (not_at_stop h (spells_at (after ∙ e) v))
one_statement x y (more p v) (more q w) =
    let (same, after) = one_statement tt tt p q in
    let (same_rest, left) = one_statement x y v (spells_at (sym after) w) in
    (cc, cc)

pub one_reading : (text : List ℕ) → OneReading text
one_reading text p q a b = (one_statement (end_code, _, refl, stops_mark) (end_code, _, refl, stops_mark) a.spells b.spells).0
