-- What the bytes of an answer and of an order say: the refusal, the picks made, the time, the fault and its node, the fields.
-- Assumes nothing.
use mathlib.Core.Path.{◌≡◌, refl, ap, ◌∙◌}
use mathlib.Core.List.{List, [], ◌∷◌}
use Prim.Native.Nat.{ℕ, suc, ◌+◌, ◌*◌, ◌/◌, ◌%◌, ◌≤◌, ◌<◌}
use native.Mathlib.Omega.{arith}
use lib.ListN.{length, take, drop}
use lib.Seq.{get_or-take, get_or-drop}
use Rattle.base.specs.Below.{list_below, All}
use Rattle.base.specs.Bytes.{byte_at, word_at}
use Rattle.base.proofs.Below.{list_all, list_first, list_same}
use Rattle.rules.specs.Configuration.{last_time}
use Rattle.rules.specs.Orders.{Outcome, fault_and_node}
use Rattle.session.specs.Lists.{Order, order_of, orders_of, byte_of, order_bytes, answer_of, time_in}
use Rattle.session.specs.Demand3.{Bytes}

-- byte 0 is the refusal
pub refusal_byte : (r : Outcome) → r.refusal < 256 → byte_at (answer_of r) 0 ≡ r.refusal
unfolding answer_of
refusal_byte r h = omega arith

-- bytes 2-3 are the picks
pub picks_word : (r : Outcome) → r.picks < 65536 → word_at (answer_of r) 2 ≡ r.picks
unfolding answer_of
picks_word r h = omega arith

-- bytes 8 to 15 are the time after the order
module _ (t : ℕ) where
  low_word : byte_of 0 t + 256 * byte_of 1 t ≡ t % 65536
  low_word = omega arith

  next_word : byte_of 2 t + 256 * byte_of 3 t ≡ t / 65536 % 65536
  next_word = omega arith

  third_word : byte_of 4 t + 256 * byte_of 5 t ≡ t / 4294967296 % 65536
  third_word = omega arith

  last_word : t ≤ last_time → byte_of 6 t + 256 * byte_of 7 t ≡ 0
  last_word h = omega arith

  eight_bytes : t ≤ last_time → byte_of 0 t + 256 * byte_of 1 t + 65536 * (byte_of 2 t + 256 * byte_of 3 t)
      + 4294967296 * (byte_of 4 t + 256 * byte_of 5 t + 65536 * (byte_of 6 t + 256 * byte_of 7 t)) ≡ t
  eight_bytes h = rw (low_word, next_word, third_word, last_word h) (omega arith)

pub time_bytes : (r : Outcome) → r.after.time ≤ last_time → time_in (answer_of r) ≡ r.after.time
unfolding answer_of
time_bytes r = eight_bytes r.after.time

-- bytes 4 to 7 of a fault and a node: byte 4 is the fault, byte 5 zero, bytes 6-7 are the node
module _ (r : Outcome) {f n : ℕ} (e : r.value ≡ fault_and_node f n) (small : f ≤ 4) (short : n ≤ 65535) where
  pub fault_byte : byte_at (answer_of r) 4 ≡ f
  unfolding answer_of
  fault_byte = omega arith

  pub zero_byte : byte_at (answer_of r) 5 ≡ 0
  unfolding answer_of
  zero_byte = omega arith

  pub node_word : word_at (answer_of r) 6 ≡ n
  unfolding answer_of
  node_word = omega arith

-- an order's kind and argument are 8 bits, its count 16
pub record Narrow (o : Order) : Type 0 where
  pub kind : o.kind < 256
  pub argument : o.argument < 256
  pub count : o.count < 65536

abbrev pub Small : List Order → Type 0
Small = All Narrow

-- byte j of order i
byte_small : (xs : Bytes) (i j : ℕ) → j < 4 → byte_at (take 4 (drop (4 * i) xs.bytes)) j < 256
byte_small xs i j h = rw (get_or-take 4 (drop (4 * i) xs.bytes) j 0 h, get_or-drop) (xs.small _)

order_narrow : (xs : Bytes) (i : ℕ) → Narrow (order_of (take 4 (drop (4 * i) xs.bytes)))
unfolding order_of
order_narrow xs i =
    record {
      kind = byte_small xs i 0 (omega arith);
      argument = byte_small xs i 1 (omega arith);
      count = omega (arith, byte_small xs i 2 (omega arith), byte_small xs i 3 (omega arith));
    }

pub orders_small : (xs : Bytes) → Small (orders_of xs.bytes)
unfolding orders_of
orders_small xs = list_all Narrow _ _ (λ i h. order_narrow xs i)

-- the orders of the bytes of some orders are these
first_order : (o : Order) (os : List Order) → Narrow o → order_of (take 4 (order_bytes (o ∷ os))) ≡ o
unfolding order_of
first_order o os n = let e : word_at (take 4 (order_bytes (o ∷ os))) 2 ≡ o.count = omega (arith, n.count) in rw e

pub orders_of_bytes : (os : List Order) → Small os → orders_of (order_bytes os) ≡ os
unfolding orders_of list_below
orders_of_bytes [] n = refl
orders_of_bytes (o ∷ os) n =
    let rest = order_bytes os in
    let e : length (order_bytes (o ∷ os)) / 4 ≡ suc (length rest / 4) = omega arith in
    rw (e, list_first (λ i. order_of (take 4 (drop (4 * i) (order_bytes (o ∷ os))))) (length rest / 4), first_order o os n.0)
    (ap (λ (r : List Order). o ∷ r)
    (list_same _ (λ i. order_of (take 4 (drop (4 * i) rest))) (length rest / 4) (λ i h. let m : 4 * suc i ≡ suc (suc (suc (suc (4 * i)))) = omega arith in rw m)
    ∙ orders_of_bytes os n.1))
