-- What the program writes of a check is its text; of a model longer than its room too. Assumes nothing.
use mathlib.Core.Path.{◌≡◌, refl, sym, ◌∙◌}
use mathlib.Core.List.{List, [], ◌∷◌, ◌++◌}
use Prim.Native.Nat.{ℕ, ◌+◌, ◌*◌, ◌≤◌, ◌<◌}
use native.Mathlib.Omega.{arith}
use lib.ListN.{length, get_or, take}
use borrow.Author.Tests.{ne_eqb}
use Rattle.base.specs.Refusals as refusals
use Rattle.base.specs.declared.refusal.Refusal.{Refusal}
use Rattle.base.specs.Below.{join_below}
use Rattle.numerals.specs.Numerals.{decimal_of, space, line_feed}
use Rattle.numerals.proofs.NumeralLaws.{decimal_short}
use Rattle.std.proofs.Common.{Some, None, Ok, Err}
use Rattle.chains.specs.Rows.{IsChain}
use Rattle.chains.specs.declared.Chain.{Chain}
use Rattle.chains.proofs.Held.{held_length}
use Rattle.model.proofs.Rules.{number_some}
use Rattle.text.specs.Text.{number_line_of}
use Rattle.text.proofs.PrintLaws.{long_model, model_room_lem}
use Rattle.loop_check.specs.Check.{check_of, CheckIs}
use Rattle.loop_check.specs.declared.Checked.{Checked}
use Rattle.loop_check.proofs.CheckLaws.{number_of}
use Rattle.loop_text.specs.LoopText.{chain_word, none_line, spaced, chain_line, check_text, process_most, loop_room, loop_text, ModelRoomSuffices}

-- a space and a number
pub process_short : (x end a r : ℕ) → a ≡ end + 1 → r ≡ a + length (decimal_of x) → r ≤ end + process_most
process_short x end a r p q = omega (arith, decimal_short x)

some_line : (xs : List ℕ) → 0 < length xs → chain_line xs ≡ chain_word ++ (join_below (λ i. space ∷ decimal_of (get_or xs i 0)) (length xs) ++ (line_feed ∷ []))
unfolding chain_line spaced
some_line [] h = absurd (omega arith)
some_line (x ∷ xs) h = refl

module _ (m : List ℕ) where
  pub refused_text : (r : Refusal) → CheckIs m (Err r) → number_line_of (refusals.number_of r) ≡ loop_text m
  unfolding loop_text check_text
  refused_text r is = rw (← is.number, ne_eqb (refusals.number_of r) 0 (λ z. omega (arith, z, number_some r)))

  module _ (k : Checked) (is : CheckIs m (Ok k)) where
    accepted_text : chain_line (check_of m).chain ≡ loop_text m
    unfolding loop_text check_text
    accepted_text = rw (← is.number)

    pub none_text : k.chain ≡ None → none_line ≡ loop_text m
    unfolding chain_line
    none_text z = let none = rw z at is.found.chain in rw none at accepted_text

    module _ (c : Chain) (e : k.chain ≡ Some c) where
      is_chain : IsChain (check_of m).chain c
      is_chain = rw e at is.found.chain

      pub chain_few : c.len ≤ 16
      chain_few = is_chain.few

      pub chain_text : chain_word ++ (join_below (λ i. space ∷ decimal_of (get_or (take c.len c.at) i 0)) (length (take c.len c.at)) ++ (line_feed ∷ [])) ≡ loop_text m
      chain_text =
          rw is_chain.list
          (sym (some_line (check_of m).chain (omega (arith, is_chain.some, held_length _ c is_chain))) ∙ accepted_text)

-- a line of some processes has room
pub line_room : (n a b c : ℕ) → n ≤ 16 → a ≡ 5 → b ≤ a + n * process_most → c ≡ b + 1 → c ≤ loop_room
line_room n a b c h p q r = omega arith

long_text : (m : List ℕ) → 32768 < length m → loop_text m ≡ number_line_of 1
unfolding loop_text check_text
long_text m l = let e : (check_of m).number ≡ 1 = number_of m ∙ long_model m l in rw e

pub model_room_suffices : ModelRoomSuffices
model_room_suffices = model_room_lem loop_text long_text
