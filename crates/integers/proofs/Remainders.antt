-- The laws of quotient, rem and mod. Assumes nothing.
use mathlib.Core.Path.{◌≡◌, refl, sym, ap, ◌∙◌}
use mathlib.Core.Bool.{Bool, true, false, ◌||◌, true≢false}
use mathlib.Core.Logic.{◌⊎◌, inl, inr, ⊎_elim}
use Prim.Native.Nat.{ℕ, zero, suc, ◌+◌, ◌*◌, ◌/◌, ◌%◌, ◌≤◌, ◌<◌}
use native.Mathlib.Nat.{div-add-mod', mod-lt, div-le_self, zero-mul, suc-mul}
use native.Mathlib.Omega.{arith}
use lib.Dec.{eqb, ltb}
use lib.IntN.{ℤ, pos, negsuc, nat_abs, neg_ℤ, pred_ℤ, pos-ne-negsuc, ◌+ℤ◌, ◌-ℤ◌, ◌*ℤ◌, ℤ_ind, suc_ℤ-*ℤ, pred_ℤ-*ℤ, zero-*ℤ, +ℤ-suc_ℤ, +ℤ-pred_ℤ, +ℤ_idl, +ℤ_idr, +ℤ_one, -ℤ_one, +ℤ_assoc, +ℤ_comm, +ℤ-neg_ℤ_cancel, -ℤ-+ℤ_cancel, neg_ℤ-+ℤ}
use lib.Signed.{quot_z, rem_z}
use borrow.Author.Tests.{ltb-true, lt-ltb, le-ltb, eqb-true, eq-eqb}
use Rattle.base.proofs.Below.{or_cases}
use Rattle.base.proofs.Cases.{either_way}
use Rattle.integers.specs.declared.division.Division.{Division}
use Rattle.integers.specs.declared.division.Division.TheVariants.{Quotient, Modulo, Rem}
use Rattle.integers.specs.Division.{same_sign, quotient, rem, modulo, division_of}
use Rattle.integers.specs.Laws.{Leaves, LeavesMod, DivisionLaws}
use Rattle.integers.proofs.Sizes.{neg_abs, abs_times, abs_some, abs_none}

-- a difference of two numbers that are not negative: exact, and its size
difference : (m k r : ℕ) → k + r ≡ m → pos m -ℤ pos k ≡ pos r
difference m zero r e = ap pos (omega arith)
difference m (suc k) r e = rw (le-ltb m (suc k) (omega arith)) (ap pos (omega arith))

difference_small : (m k c : ℕ) → m < c → k < c → nat_abs (pos m -ℤ pos k) < c
difference_small m zero c h g = omega arith
difference_small m (suc k) c h g =
    either_way (ltb m (suc k)) (λ e. rw e (omega (arith, ltb-true m (suc k) e))) (λ e. rw e (omega arith))

difference_negated : (x y : ℤ) → neg_ℤ x -ℤ neg_ℤ y ≡ neg_ℤ (x -ℤ y)
difference_negated x y = sym (neg_ℤ-+ℤ x (neg_ℤ y))

-- a product with a negated number
negated_times : (q n : ℕ) → neg_ℤ (pos q) *ℤ pos n ≡ neg_ℤ (pos (q * n))
negated_times zero n = rw (zero-mul n)
negated_times (suc q) n = refl

negated_twice : (q n : ℕ) → neg_ℤ (pos q) *ℤ negsuc n ≡ pos (q * suc n)
negated_twice zero n = rw (zero-mul (suc n))
negated_twice (suc q) n = refl

-- quotient and rem by the signs
pub quotient_is : (a b : ℤ) → quotient a b ≡ quot_z a b
unfolding quotient
quotient_is (pos m) (pos n) = refl
quotient_is (pos m) (negsuc n) = refl
quotient_is (negsuc m) (pos n) = refl
quotient_is (negsuc m) (negsuc n) = refl

pub rem_is : (a b : ℤ) → rem a b ≡ rem_z a b
unfolding rem quotient
rem_is (pos m) (pos n) = difference m (m / n * n) (m % n) (div-add-mod' m n)
rem_is (pos m) (negsuc n) = rw (negated_twice (m / suc n) n) (difference m (m / suc n * suc n) (m % suc n) (div-add-mod' m (suc n)))
rem_is (negsuc m) (pos n) =
    rw (negated_times (suc m / n) n)
    (difference_negated (pos (suc m)) (pos (suc m / n * n)) ∙ ap neg_ℤ (difference (suc m) (suc m / n * n) (suc m % n) (div-add-mod' (suc m) n)))
rem_is (negsuc m) (negsuc n) =
    difference_negated (pos (suc m)) (pos (suc m / suc n * suc n)) ∙ ap neg_ℤ (difference (suc m) (suc m / suc n * suc n) (suc m % suc n) (div-add-mod' (suc m) (suc n)))

quotient_size : (a b : ℤ) → nat_abs (quotient a b) ≤ nat_abs a
unfolding quotient
quotient_size a b =
    either_way (same_sign a b) (λ e. rw e (div-le_self (nat_abs a) (nat_abs b)))
    (λ e. rw (e, neg_abs (pos (nat_abs a / nat_abs b))) (div-le_self (nat_abs a) (nat_abs b)))

-- what rem leaves
rem_equation : (a b : ℤ) → a ≡ quotient a b *ℤ b +ℤ rem a b
unfolding rem
rem_equation a b = let k = quotient a b *ℤ b in sym (+ℤ_comm k (a -ℤ k) ∙ -ℤ-+ℤ_cancel a k)

rem_sign : (a b : ℤ) → (rem_z a b ≡ pos 0) ⊎ (same_sign (rem_z a b) a ≡ true)
rem_sign (pos m) b = inr refl
rem_sign (negsuc m) b = negated (suc m % nat_abs b)
  where
    negated : (x : ℕ) → (neg_ℤ (pos x) ≡ pos 0) ⊎ (same_sign (neg_ℤ (pos x)) (negsuc m) ≡ true)
    negated zero = inl refl
    negated (suc x) = inr refl

rem_size : (a b : ℤ) → 0 < nat_abs b → nat_abs (rem_z a b) < nat_abs b
rem_size (pos m) b h = mod-lt m h
rem_size (negsuc m) b h = rw (neg_abs (pos (suc m % nat_abs b))) (mod-lt (suc m) h)

pub rem_leaves : (a b : ℤ) → (b ≡ pos 0 → ⊥) → Leaves a a b (quotient a b) (rem a b)
rem_leaves a b h =
    record {
      equation = rem_equation a b;
      sign = rw (rem_is a b) (rem_sign a b);
      size = rw (rem_is a b) (rem_size a b (abs_some b h));
    }

-- a remainder of the other sign than b's, and b more
raised : (r b : ℤ) → (nat_abs r ≡ 0 → ⊥) → same_sign r b ≡ false → nat_abs r < nat_abs b → (same_sign (r +ℤ b) b ≡ true) × (nat_abs (r +ℤ b) < nat_abs b)
raised (pos m) (pos n) h e l = absurd (true≢false e)
raised (pos m) (negsuc n) h e l = rw (lt-ltb m (suc n) l) (refl, omega arith)
raised (negsuc m) (pos n) h e l = rw (le-ltb n (suc m) (omega arith)) (refl, omega arith)
raised (negsuc m) (negsuc n) h e l = absurd (true≢false e)

raised_equation : (a b q r : ℤ) → a ≡ q *ℤ b +ℤ r → a ≡ pred_ℤ q *ℤ b +ℤ (r +ℤ b)
raised_equation a b q r e =
    let k = q *ℤ b in
    e
    ∙ ap (λ x. x +ℤ r) (sym (-ℤ-+ℤ_cancel k b))
    ∙ +ℤ_assoc (k -ℤ b) b r
    ∙ rw (+ℤ_comm b r, pred_ℤ-*ℤ q b)

not_or : (s t : Bool) → (s || t) ≡ false → (s ≡ false) × (t ≡ false)
not_or true t e = absurd (true≢false e)
not_or false t e = (refl, e)

module _ (a b : ℤ) (h : b ≡ pos 0 → ⊥) where
  abbrev r : ℤ
  r = rem a b

  leaves : Leaves a a b (quotient a b) r
  leaves = rem_leaves a b h

  kept : (eqb (nat_abs r) 0 || same_sign r b) ≡ true → LeavesMod a b
  unfolding modulo
  kept e =
      record {
        times = quotient a b;
        leaves =
            rw e
            record {
              equation = leaves.equation;
              sign = ⊎_elim (λ (z : eqb (nat_abs r) 0 ≡ true). inl (abs_none r (eqb-true (nat_abs r) 0 z))) (λ (z : same_sign r b ≡ true). inr z) (or_cases (eqb (nat_abs r) 0) (same_sign r b) e);
              size = leaves.size;
            };
      }

  more : (eqb (nat_abs r) 0 || same_sign r b) ≡ false → LeavesMod a b
  unfolding modulo
  more e =
      let none = not_or (eqb (nat_abs r) 0) (same_sign r b) e in
      let g = raised r b (λ z. absurd (true≢false (sym (eq-eqb (nat_abs r) 0 z) ∙ none.0))) none.1 leaves.size in
      record {
        times = pred_ℤ (quotient a b);
        leaves = rw e record { equation = raised_equation a b (quotient a b) r leaves.equation; sign = inr g.0; size = g.1 };
      }

  pub mod_leaves : LeavesMod a b
  mod_leaves = either_way (eqb (nat_abs r) 0 || same_sign r b) kept more

-- no two remainders of one sign. Their difference is smaller than b
difference_below : (s r r' : ℤ) (c : ℕ) → (r ≡ pos 0) ⊎ (same_sign r s ≡ true) → (r' ≡ pos 0) ⊎ (same_sign r' s ≡ true) → nat_abs r < c → nat_abs r' < c → nat_abs (r' -ℤ r) < c
difference_below (pos m) r r' c h h' l l' = rw (up r h, up r' h') (difference_small (nat_abs r') (nat_abs r) c l' l)
  where
    up : (x : ℤ) → (x ≡ pos 0) ⊎ (same_sign x (pos m) ≡ true) → x ≡ pos (nat_abs x)
    up (pos n) e = refl
    up (negsuc n) e = ⊎_elim (λ z. absurd (pos-ne-negsuc 0 n (sym z))) (λ z. absurd (true≢false (sym z))) e
difference_below (negsuc m) r r' c h h' l l' =
    rw (down r h, down r' h', difference_negated (pos (nat_abs r')) (pos (nat_abs r)), neg_abs (pos (nat_abs r') -ℤ pos (nat_abs r)))
    (difference_small (nat_abs r') (nat_abs r) c l' l)
  where
    down : (x : ℤ) → (x ≡ pos 0) ⊎ (same_sign x (negsuc m) ≡ true) → x ≡ neg_ℤ (pos (nat_abs x))
    down (pos zero) e = refl
    down (pos (suc n)) e = ⊎_elim (λ z. absurd (omega (arith, ap nat_abs z))) (λ z. absurd (true≢false (sym z))) e
    down (negsuc n) e = refl

-- (m + k) times b
times_sum : (b m k : ℤ) → (m +ℤ k) *ℤ b ≡ m *ℤ b +ℤ k *ℤ b
times_sum b m =
    ℤ_ind (λ k. (m +ℤ k) *ℤ b ≡ m *ℤ b +ℤ k *ℤ b)
    (rw (+ℤ_idr m, zero-*ℤ b, +ℤ_idr (m *ℤ b)))
    (λ n h. one_more (pos n) h)
    (λ n h. one_less (neg_ℤ (pos n)) h)
  where
    one_more : (k : ℤ) → (m +ℤ k) *ℤ b ≡ m *ℤ b +ℤ k *ℤ b → (m +ℤ (k +ℤ pos 1)) *ℤ b ≡ m *ℤ b +ℤ (k +ℤ pos 1) *ℤ b
    one_more k h = rw (+ℤ_one k, +ℤ-suc_ℤ m k, suc_ℤ-*ℤ (m +ℤ k) b, suc_ℤ-*ℤ k b, h) (+ℤ_assoc (m *ℤ b) (k *ℤ b) b)

    one_less : (k : ℤ) → (m +ℤ k) *ℤ b ≡ m *ℤ b +ℤ k *ℤ b → (m +ℤ (k -ℤ pos 1)) *ℤ b ≡ m *ℤ b +ℤ (k -ℤ pos 1) *ℤ b
    one_less k h = rw (-ℤ_one k, +ℤ-pred_ℤ m k, pred_ℤ-*ℤ (m +ℤ k) b, pred_ℤ-*ℤ k b, h) (+ℤ_assoc (m *ℤ b) (k *ℤ b) (neg_ℤ b))

cancel_left : (k m n : ℤ) → k +ℤ m ≡ k +ℤ n → m ≡ n
cancel_left k m n e = sym (+ℤ-neg_ℤ_cancel m k) ∙ ap (λ x. x -ℤ k) (+ℤ_comm m k ∙ e ∙ +ℤ_comm k n) ∙ +ℤ-neg_ℤ_cancel n k

-- a multiple of b that is smaller than b is none
no_multiple : (x b : ℤ) → nat_abs (x *ℤ b) < nat_abs b → x ≡ pos 0
no_multiple x b l = abs_none x (none (nat_abs x) (rw (abs_times x b) at l))
  where
    none : (n : ℕ) → n * nat_abs b < nat_abs b → n ≡ 0
    none zero l = refl
    none (suc n) l = absurd (omega (arith, rw (suc-mul n (nat_abs b)) at l))

module _ (s a b q r q' r' : ℤ) (l : Leaves s a b q r) (l' : Leaves s a b q' r') where
  abbrev x : ℤ
  x = q -ℤ q'

  -- with q as x + q'
  split_sum : q' *ℤ b +ℤ (x *ℤ b +ℤ r) ≡ q *ℤ b +ℤ r
  split_sum =
      sym (+ℤ_assoc (q' *ℤ b) (x *ℤ b) r)
      ∙ ap (λ y. y +ℤ r) (+ℤ_comm (q' *ℤ b) (x *ℤ b) ∙ sym (times_sum b x q') ∙ ap (λ y. y *ℤ b) (-ℤ-+ℤ_cancel q q'))

  apart : x *ℤ b +ℤ r ≡ r'
  apart = cancel_left (q' *ℤ b) (x *ℤ b +ℤ r) r' (split_sum ∙ sym l.equation ∙ l'.equation)

  multiple : x *ℤ b ≡ r' -ℤ r
  multiple = sym (+ℤ-neg_ℤ_cancel (x *ℤ b) r) ∙ ap (λ y. y -ℤ r) apart

  none : x ≡ pos 0
  none = no_multiple x b (rw multiple (difference_below s r r' (nat_abs b) l.sign l'.sign l.size l'.size))

  pub only : (q ≡ q') × (r ≡ r')
  only =
      (sym (-ℤ-+ℤ_cancel q q') ∙ ap (λ y. y +ℤ q') none ∙ +ℤ_idl q', sym (+ℤ_idl r) ∙ ap (λ y. y +ℤ r) (sym (zero-*ℤ b) ∙ ap (λ y. y *ℤ b) (sym none)) ∙ apart)

-- a quotient is no larger than a, a remainder smaller than b
pub stays : (w : Division) (a b : ℤ) (m : ℕ) → (b ≡ pos 0 → ⊥) → nat_abs a ≤ m → nat_abs b ≤ m → nat_abs (division_of w a b) ≤ m
stays Quotient a b m h l g = omega (arith, quotient_size a b)
stays Modulo a b m h l g = omega (arith, (mod_leaves a b h).leaves.size)
stays Rem a b m h l g = omega (arith, (rem_leaves a b h).size)

pub division_laws : DivisionLaws
division_laws = record { rem = rem_leaves; modulo = mod_leaves; only = only; stays = stays }
