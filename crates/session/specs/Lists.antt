-- Orders and answers as bytes, and lists of orders of any length.
use Rattle.std.specs.Prelude.{Bool, false, not, ◌&&◌, List, [], ◌∷◌, ℕ, ◌+◌, ◌*◌, ◌/◌, ◌%◌, ◌^◌, eqb, length, take, drop}
use Rattle.base.specs.Below.{list_below}
use Rattle.base.specs.Bytes.{byte_at, word_at, long_at}
use Rattle.base.specs.Cases.{◌∣◌, ◌⇒◌, ◌is◌⇒◌}
use Rattle.blocks.specs.Records.{Model}
use Rattle.rules.specs.Configuration.{Configuration, first}
use Rattle.rules.specs.Orders.{Outcome, refused, picked, settled, picked_set, delta_stepped, time_stepped, read_of}

-- "An order is 4 bytes: kind, argument, 16-bit count."
pub record Order : Type 0 where
  pub kind : ℕ
  pub argument : ℕ
  pub count : ℕ

abbrev pub order : ℕ → ℕ → ℕ → Order
order kind argument count = record { kind = kind; argument = argument; count = count }

unfoldable pub order_of : List ℕ → Order
order_of r = record { kind = byte_at r 0; argument = byte_at r 1; count = word_at r 2 }

-- the orders that some bytes hold
unfoldable pub orders_of : List ℕ → List Order
orders_of bytes = list_below (λ i. order_of (take 4 (drop (4 * i) bytes))) (length bytes / 4)

-- the kind is known, and "Unused bytes are zero": a pick and a read use the argument, a settle and a pick of a set the count, a delta
-- step and a time step neither
unfoldable pub is_known : Order → Bool
is_known o =
    o.kind is 1 ⇒ eqb o.count 0
    ∣ o.kind is 3 ⇒ eqb o.argument 0
    ∣ o.kind is 4 ⇒ eqb o.count 0
    ∣ o.kind is 5 ⇒ eqb o.argument 0
    ∣ o.kind is 6 ⇒ eqb o.argument 0 && eqb o.count 0
    ∣ o.kind is 7 ⇒ eqb o.argument 0 && eqb o.count 0
    ∣ false

-- 11. "Unknown kind or unused byte set." Else "1 pick the process named; [..] 3 settle [..]; 4 read the signal named"; 5 pick of the set
-- in the count field (document 02, item 8); "Order 2 is withdrawn (it gives 11) and split: order 6 does a delta step [..], order 7 a
-- time step" (item 9). Of the known kinds 4 is the one left.
unfoldable pub performed : Model → Order → Configuration → Outcome
performed M o c =
    not (is_known o) ⇒ refused 11 c
    ∣ o.kind is 1 ⇒ picked M o.argument c
    ∣ o.kind is 3 ⇒ settled M o.count c
    ∣ o.kind is 5 ⇒ picked_set M o.count c
    ∣ o.kind is 6 ⇒ delta_stepped M c
    ∣ o.kind is 7 ⇒ time_stepped M c
    ∣ read_of M o.argument c

-- byte i of a number, little endian
abbrev pub byte_of : ℕ → ℕ → ℕ
byte_of i x = x / 256 ^ i % 256

-- the bytes of some orders
abbrev pub order_bytes : List Order → List ℕ
order_bytes [] = []
order_bytes (o ∷ os) = o.kind ∷ o.argument ∷ byte_of 0 o.count ∷ byte_of 1 o.count ∷ order_bytes os

-- "Each answer has 16 bytes [..]: 0 refusal or 0; 1 [..]; 2-3 picks made; 4-7 the value read [..]; 8-15 the time after the
-- order." For a pick 4 to 7 are its fault and node (`rules/specs/Orders`: `fault_and_node`).
abbrev pub answer_bytes : ℕ → ℕ → ℕ → ℕ → ℕ → List ℕ
answer_bytes refusal byte picks value time =
    byte_of 0 refusal
    ∷ byte_of 0 byte
    ∷ byte_of 0 picks ∷ byte_of 1 picks
    ∷ byte_of 0 value ∷ byte_of 1 value ∷ byte_of 2 value ∷ byte_of 3 value
    ∷ byte_of 0 time ∷ byte_of 1 time ∷ byte_of 2 time ∷ byte_of 3 time
    ∷ byte_of 4 time ∷ byte_of 5 time ∷ byte_of 6 time ∷ byte_of 7 time
    ∷ []

unfoldable pub answer_of : Outcome → List ℕ
answer_of r = answer_bytes r.refusal r.byte r.picks r.value r.after.time

-- the time of an answer, its bytes 8 to 15
abbrev pub time_in : List ℕ → ℕ
time_in a = long_at a 8 + 4294967296 * long_at a 12

-- what a list of orders gives: an answer to each, and the end configuration
pub record Played : Type 0 where
  pub answers : List (List ℕ)
  pub end : Configuration

-- an order before a list
abbrev pub answered : Outcome → Played → Played
answered r rest = record { answers = answer_of r ∷ rest.answers; end = rest.end }

-- "each order takes the configuration that the order before it handed back": a list, each order doing what `perform` says
unfoldable pub played_by : (Order → Configuration → Outcome) → List Order → Configuration → Played
played_by perform [] c = record { answers = []; end = c }
played_by perform (o ∷ os) c = answered (perform o c) (played_by perform os (perform o c).after)

abbrev pub played : Model → List Order → Configuration → Played
played M = played_by (performed M)

-- "A list's end configuration is the one that its last order handed back, for the empty list the first one"
abbrev pub after : Model → List Order → Configuration
after M os = (played M os (first M)).end
