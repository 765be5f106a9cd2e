-- What the loop over the members of a set keeps true. Assumes nothing.
use mathlib.Core.Path.{◌≡◌, refl}
use mathlib.Core.Bool.{Bool, true, false, not, ◌&&◌, ◌||◌}
use mathlib.Core.List.{List}
use Prim.Native.Nat.{ℕ, ◌+◌, ◌≤◌, ◌<◌}
use native.Mathlib.Omega.{arith}
use lib.Dec.{leb}
use lib.ListN.{get_or}
use borrow.Author.Tests.{le-leb, lt-leb, ne_eqb}
use Rattle.std.specs.Prelude.{Result, Ok, Err}
use Rattle.base.specs.declared.refusal.Refusal.{Refusal}
use Rattle.base.specs.declared.refusal.Refusal.TheVariants.{NotReady}
use Rattle.base.specs.Refusals.{told}
use Rattle.base.specs.Below.{any_below}
use Rattle.base.specs.Cases.{◌∣◌, ◌⇒◌}
use Rattle.base.proofs.Below.{any_start, any_next, any_more, any_found}
use Rattle.sets.specs.Sets.{in_set}
use Rattle.rules.specs.Orders.{set_bits, some_member}
use Rattle.members.specs.Members.{ready_in, set_refusal}

module _ (standings : List ℕ) (nprocesses set : ℕ) where
  -- a member is not there, and one is not ready
  abbrev unknown : ℕ → Bool
  unknown p = in_set set p && leb nprocesses p

  abbrev unready : ℕ → Bool
  unready p = in_set set p && not (ready_in standings p)

  -- of the members below p each is there, and `refusal` tells whether one is not ready
  pub record Looked (p : ℕ) (refusal : Result (Unit {0}) Refusal) : Type 0 where
    pub there : any_below unknown p ≡ false
    pub ready : told refusal ≡ (any_below unready p ⇒ 13 ∣ 0)

  pub looked_none : Looked 0 (Ok tt)
  looked_none = record { there = any_start unknown; ready = rw (any_start unready) }

  -- 13 where a member so far was not ready, or this one is not
  either_unready : (a b : Bool) → ◌≡◌ {A = ℕ} (b ⇒ 13 ∣ a ⇒ 13 ∣ 0) ((a || b) ⇒ 13 ∣ 0)
  either_unready true true = refl
  either_unready true false = refl
  either_unready false b = refl

  module _ {p : ℕ} {refusal : Result (Unit {0}) Refusal} (t : Looked p refusal) (h : p < set_bits) where
    looked_next : (refusal' : Result (Unit {0}) Refusal) → unknown p ≡ false → told refusal' ≡ (unready p ⇒ 13 ∣ told refusal) → Looked (p + 1) refusal'
    looked_next refusal' there e =
        record {
          there = any_more unknown p t.there there;
          ready = rw (any_next unready p, ← either_unready (any_below unready p) (unready p), ← t.ready) e;
        }

    -- p is no member; or a member that is there, ready or not
    pub looked_past : in_set set p ≡ false → Looked (p + 1) refusal
    looked_past out = looked_next refusal (rw out) (rw out)

    module _ (m : in_set set p ≡ true) where
      -- p is a member that is not there
      pub looked_unknown : nprocesses ≤ p → 12 ≡ set_refusal standings nprocesses set
      unfolding set_refusal some_member
      looked_unknown l = rw (any_found unknown set_bits p h (rw (m, le-leb nprocesses p l)))

      pub looked_ready : p < nprocesses → get_or standings p 0 ≡ 0 → Looked (p + 1) refusal
      looked_ready l r = looked_next refusal (rw (m, lt-leb nprocesses p l)) (rw (m, r))

      pub looked_unready : p < nprocesses → (get_or standings p 0 ≡ 0 → ⊥) → Looked (p + 1) (Err NotReady)
      looked_unready l r = looked_next (Err NotReady) (rw (m, lt-leb nprocesses p l)) (rw (m, ne_eqb _ 0 r))

  pub looked_all : {p : ℕ} {refusal : Result (Unit {0}) Refusal} → Looked p refusal → p ≤ set_bits → set_bits ≤ p → told refusal ≡ set_refusal standings nprocesses set
  unfolding set_refusal some_member
  looked_all {p} t l h = let e : p ≡ set_bits = omega arith in rw (← e, t.there) t.ready
