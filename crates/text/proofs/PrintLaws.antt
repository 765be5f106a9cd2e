-- Laws of the text that is printed: the lines of the answers in a buffer, the text of a session by its number and what its buffer
-- holds, and the rooms for the files. Assumes nothing.
use mathlib.Core.Path.{◌≡◌, refl, sym, ◌∙◌}
use mathlib.Core.Bool.{false}
use mathlib.Core.Logic.{⊎_elim}
use mathlib.Core.List.{List, [], ◌∷◌, ◌++◌, append_assoc, append-nil}
use Prim.Native.Nat.{ℕ, zero, suc, ◌+◌, ◌*◌, ◌-◌, ◌/◌, ◌≤◌, ◌<◌}
use native.Mathlib.Nat.{add-zero}
use native.Mathlib.Omega.{arith}
use borrow.Author.Tests.{eqb-true, eqb-false, eq-eqb, ne_eqb}
use lib.Dec.{eqb}
use lib.ListN.{length, take, drop, replicate, length-take, length-replicate}
use lib.Seq.{take_all, get_or-take, get_or-drop}
use Rattle.base.specs.Below.{join_below, list_below}
use Rattle.base.specs.Bytes.{byte_at}
use Rattle.base.specs.Cases.{◌∣◌, ◌⇒◌}
use Rattle.base.proofs.Below.{split, list_length}
use Rattle.base.proofs.Rules.{fails}
use Rattle.base.proofs.Cases.{either_way}
use Rattle.blocks.specs.Blocks.{length_ok}
use Rattle.blocks.specs.Records.{model_of}
use Rattle.blocks.specs.Totals.{block_rules}
use Rattle.blocks.proofs.Starts.{length_most}
use Rattle.model.specs.Rules.{rules_of, refusal_of}
use Rattle.rules.specs.Configuration.{first}
use Rattle.session.specs.Lists.{Order, order_of, orders_of, played}
use Rattle.session.specs.Sessions.{orders_ok, buffer_ok, number_of, bytes_of, session_of}
use Rattle.session.proofs.SessionLaws.{nine, room, orders_few, model_refused, model_accepted}
use Rattle.session.proofs.InTime.{not_refused}
use Rattle.text.specs.Text.{line_most, line_of, number_line_of, lines_of, answers_in, session_text, text_of, model_room, orders_room, text_room, RoomsSuffice}

-- the lines of the answers to some orders, and of one more
lines_behind : (os : List Order) (xs : List (List ℕ)) (o : Order) (a : List ℕ) → length os ≡ length xs
    → lines_of (os ++ (o ∷ [])) (xs ++ (a ∷ [])) ≡ lines_of os xs ++ line_of o.kind a
lines_behind [] [] o a e = append-nil (line_of o.kind a)
lines_behind [] (x ∷ xs) o a e = absurd (omega arith)
lines_behind (p ∷ os) [] o a e = absurd (omega arith)
lines_behind (p ∷ os) (x ∷ xs) o a e = rw (lines_behind os xs o a (omega arith), append_assoc)

-- order i of some bytes, and answer i of a buffer
abbrev pub order_at : List ℕ → ℕ → Order
order_at orders i = order_of (take 4 (drop (4 * i) orders))

abbrev pub answer_at : List ℕ → ℕ → List ℕ
answer_at buffer i = take 16 (drop (16 * i) buffer)

-- the line of answer i
abbrev pub line_at : List ℕ → List ℕ → ℕ → List ℕ
line_at orders answers i = line_of (byte_at orders (4 * i)) (answer_at answers i)

-- the kind of order i is its first byte
kind_read : (orders : List ℕ) (i : ℕ) → (order_at orders i).kind ≡ byte_at orders (4 * i)
unfolding order_of
kind_read orders i = rw (get_or-take 4 (drop (4 * i) orders) 0 0 (omega arith), get_or-drop, add-zero)

lines_joined : (orders answers : List ℕ) (n : ℕ) → join_below (line_at orders answers) n ≡ lines_of (list_below (order_at orders) n) (list_below (answer_at answers) n)
unfolding join_below list_below
lines_joined orders answers zero = refl
lines_joined orders answers (suc n) =
    let e : length (list_below (order_at orders) n) ≡ length (list_below (answer_at answers) n) = list_length (order_at orders) n ∙ sym (list_length (answer_at answers) n) in
    rw (lines_behind _ _ (order_at orders n) (answer_at answers n) e, lines_joined orders answers n, kind_read)

pub all_lines : (orders answers : List ℕ) → length answers ≡ 16 * (length orders / 4)
    → join_below (line_at orders answers) (length answers / 16) ≡ lines_of (orders_of orders) (answers_in answers)
unfolding answers_in orders_of
all_lines orders answers h =
    let e : length orders / 4 ≡ length answers / 16 = omega arith in
    rw e (lines_joined orders answers (length answers / 16))

-- the line that is put of order i and its part of the answers
pub line_at_lem : (orders answers : List ℕ) (i : ℕ) {kind : ℕ} → kind ≡ byte_at orders (4 * i) → line_of kind (take (16 * i + 16 - 16 * i) (drop (16 * i) answers)) ≡ line_at orders answers i
line_at_lem orders answers i k = let e : 16 * i + 16 - 16 * i ≡ 16 = omega arith in rw (e, k)

-- the room for the text has room for a line
pub line_room : (n : ℕ) → text_room ≤ n → line_most ≤ n
line_room n h = omega arith

-- longer orders, and a longer model, than a session takes
pub long_orders : (o : List ℕ) → 16384 < length o → orders_ok o ≡ false
long_orders o l = either_way (orders_ok o) (λ e. let k = orders_few o [] e in absurd (omega arith)) (λ e. e)

pub long_model : (m : List ℕ) → 32768 < length m → refusal_of m ≡ 1
unfolding refusal_of rules_of block_rules
long_model m l = either_way (length_ok m) (λ e. let k = length_most m e in absurd (omega arith)) (λ e. sym (fails 1 _ _ refl e))

-- what a session prints where it is played
abbrev answers_text : List ℕ → List ℕ → List ℕ
answers_text m o = lines_of (orders_of o) (answers_in (bytes_of (played (model_of m) (orders_of o) (first (model_of m))).answers))

-- the number of more orders than a session takes: the model's own or 9
pub long_number : List ℕ → ℕ
long_number m = eqb (refusal_of m) 0 ⇒ 9 ∣ refusal_of m

pub long_is : (m : List ℕ) {n : ℕ} → (refusal_of m ≡ 0 → n ≡ 9) → ((refusal_of m ≡ 0 → ⊥) → n ≡ refusal_of m) → n ≡ long_number m
unfolding long_number
long_is m h g = either_way (eqb (refusal_of m) 0) (λ e. rw e (h (eqb-true _ _ e))) (λ e. rw e (g (eqb-false _ _ e)))

pub long_refused : (m : List ℕ) → long_number m ≡ 0 → ⊥
unfolding long_number
long_refused m =
    either_way (eqb (refusal_of m) 0)
    (λ e z. let k : ◌≡◌ {A = ℕ} 9 0 = rw e at z in omega arith)
    (λ e z. eqb-false _ _ e (rw e at z))

module _ (m o : List ℕ) where
  -- besides the model and the orders, a session's text depends on its number alone
  by_number : (b : List ℕ) → session_text (orders_of o) (session_of m o b) ≡ (eqb (number_of m o b) 0 ⇒ answers_text m o ∣ number_line_of (number_of m o b))
  unfolding session_text session_of
  by_number b = either_way (eqb (number_of m o b) 0) (λ e. rw e) (λ e. rw (e, e))

  refused_text : (n : ℕ) → ((b : List ℕ) → number_of m o b ≡ n) → (n ≡ 0 → ⊥) → text_of m o ≡ number_line_of n
  unfolding text_of
  refused_text n e h = by_number _ ∙ rw (e, ne_eqb n 0 h)

  long_number_lem : 16384 < length o → (b : List ℕ) → number_of m o b ≡ long_number m
  long_number_lem l b = long_is m (λ e. model_accepted m o b e ∙ sym (nine o b (long_orders o l))) (model_refused m o b)

  long_orders_text : 16384 < length o → text_of m o ≡ number_line_of (long_number m)
  long_orders_text l = refused_text (long_number m) (long_number_lem l) (long_refused m)

  long_model_text : 32768 < length m → text_of m o ≡ number_line_of 1
  long_model_text l =
      let e : refusal_of m ≡ 1 = long_model m l in
      refused_text 1 (λ b. model_refused m o b (λ z. let k : ◌≡◌ {A = ℕ} 1 0 = sym e ∙ z in omega arith) ∙ e) (λ z. omega arith)

  -- buffers of one length
  same_number : (a b : List ℕ) → length a ≡ length b → number_of m o a ≡ number_of m o b
  unfolding number_of buffer_ok
  same_number a b h = rw h

  -- a buffer of four times the orders' length, or any at all for more orders than a session takes
  module _ (b : List ℕ) (whole : length o ≤ 16384 → length b ≡ 4 * length o) where
    number_is : number_of m o b ≡ number_of m o (replicate (4 * length o) 0)
    number_is =
        ⊎_elim
        (λ (l : 16384 < length o). long_number_lem l b ∙ sym (long_number_lem l _))
        (λ (l : length o ≤ 16384). same_number b _ (whole l ∙ sym (length-replicate _ _)))
        (split 16384 (length o))

    text_is : session_text (orders_of o) (session_of m o b) ≡ text_of m o
    unfolding text_of
    text_is = by_number b ∙ rw number_is (sym (by_number _))

    -- a buffer that a session played into has 16 bytes for each order
    pub played_room : {n : ℕ} → n ≡ (session_of m o b).number → n ≡ 0 → length b ≡ 16 * (length o / 4)
    unfolding session_of
    played_room {n} e z =
        let none : number_of m o b ≡ 0 = either_way (eqb (number_of m o b) 0) (eqb-true _ _) (λ t. rw t at (sym e ∙ z)) in
        room o b (sym (model_accepted m o b (not_refused m o b none)) ∙ none)

    -- what the program writes: the number of a refused session, or the lines of the answers in the buffer
    module _ {n : ℕ} (e : n ≡ (session_of m o b).number) where
      pub refused_writes : (n ≡ 0 → ⊥) → number_line_of n ≡ text_of m o
      unfolding session_text
      refused_writes h = rw (← text_is, ← e, ne_eqb _ _ h)

      pub played_writes : {new : List ℕ} → new ≡ (session_of m o b).buffer → n ≡ 0 → lines_of (orders_of o) (answers_in new) ≡ text_of m o
      unfolding session_text
      played_writes f h = rw (← text_is, ← e, ← f, eq-eqb _ _ h)

-- a model that is longer than its room, where a longer one is printed as 1
pub model_room_lem : (print : List ℕ → List ℕ) → ((m : List ℕ) → 32768 < length m → print m ≡ number_line_of 1) → (m : List ℕ)
    → print (take model_room m) ≡ print m
model_room_lem print long m =
    ⊎_elim
    (λ (l : 32768 < length m).
    let k : 32768 < length (take model_room m) = rw length-take (omega arith) in
    long (take model_room m) k ∙ sym (long m l))
    (λ (l : length m ≤ 32768). rw (take_all model_room m (omega arith)))
    (split 32768 (length m))

-- two files that are longer than their rooms: where longer orders are printed as the model's own number or 9
module _ (print : List ℕ → List ℕ → List ℕ) (model-long : (m o : List ℕ) → 32768 < length m → print m o ≡ number_line_of 1)
    (orders-long : (m o : List ℕ) → 16384 < length o → print m o ≡ number_line_of (long_number m)) where
  orders_room_lem : (m o : List ℕ) → print m (take orders_room o) ≡ print m o
  orders_room_lem m o =
      ⊎_elim
      (λ (l : 16384 < length o).
      let k : 16384 < length (take orders_room o) = rw length-take (omega arith) in
      orders-long m (take orders_room o) k ∙ sym (orders-long m o l))
      (λ (l : length o ≤ 16384). rw (take_all orders_room o (omega arith)))
      (split 16384 (length o))

  pub rooms_by : RoomsSuffice print
  rooms_by m o = model_room_lem (λ n. print n (take orders_room o)) (λ n. model-long n (take orders_room o)) m ∙ orders_room_lem m o

pub rooms_suffice : RoomsSuffice text_of
rooms_suffice = rooms_by text_of long_model_text long_orders_text
