-- Laws of texts that are put one behind the other. Assumes nothing.
use mathlib.Core.Path.{◌≡◌, refl, sym, ap, ◌∙◌}
use mathlib.Core.List.{List, [], ◌∷◌, ◌++◌, append_assoc, append-nil}
use Prim.Native.Nat.{ℕ, ◌+◌, ◌*◌, ◌-◌, ◌≤◌, ◌<◌}
use native.Mathlib.Nat.{add-zero, le_antisymm}
use native.Mathlib.Numerals.{add-one}
use native.Mathlib.Omega.{arith}
use borrow.Rule.Slice.PartMut.{post_of, put_mid, Post-is}
use lib.ListN.{length, set, take, drop, length-append, length-take, length-drop}
use lib.Seq.{take_at, take-suc-set, drop_at, drop-drop, drop-set-lt}
use Rattle.base.specs.Below.{join_below}
use Rattle.base.proofs.Below.{join_none, join_more}
use Rattle.numerals.specs.Puts.{Puts}

-- nothing
pub put_none : (old : List ℕ) (at : ℕ) → Puts [] old old at at
put_none old at = record { place = sym (add-zero at); bytes = λ h. sym (append-nil (take at old)); rest = λ h. refl }

-- a text behind another
pub behind : {s t old mid new : List ℕ} {at a r : ℕ} → Puts s old mid at a → length mid ≡ length old → Puts t mid new a r → Puts (s ++ t) old new at r
behind {s} {t} {old} {mid} {at = at} {a = a} {r = r} p e q =
    let n : r ≡ a + length t = q.place in
    record {
      place = rw length-append (omega (arith, p.place, q.place));
      bytes = λ h. rw (q.bytes (omega arith), p.bytes (omega arith), append_assoc);
      rest = λ h.
          q.rest (omega arith) ∙ rw n (sym (drop-drop (length t) a mid) ∙ ap (drop (length t)) (p.rest (omega arith)) ∙ drop-drop (length t) a old);
    }

-- the same text, said in another way
pub said : {s t old new : List ℕ} {at r : ℕ} → s ≡ t → Puts s old new at r → Puts t old new at r
said e p = rw (← e) p

-- a text that the buffer does not hold is counted
pub counted : (text old : List ℕ) (at r : ℕ) → r ≡ at + length text → length old < r → Puts text old old at r
counted text old at r e h = record { place = e; bytes = λ l. absurd (omega arith); rest = λ l. absurd (omega arith) }

-- one that it holds is written over its part
pub held : (text old last : List ℕ) (at r : ℕ) → r ≡ at + length text → r ≤ length old → last ≡ text → Puts text old (put_mid at (r - at) old last) at r
held text old last at r e h q =
    let k : length (take at old ++ text) ≡ r = simp (length-append, length-take) (omega arith) in
    let p : post_of at (r - at) old ≡ drop r old = Post-is at r old (omega arith) in
    record {
      place = e;
      bytes = λ l. rw (q, p, ← append_assoc) (take_at (take at old ++ text) (drop r old) r k);
      rest = λ l. rw (q, p, ← append_assoc) (drop_at (take at old ++ text) (drop r old) r k);
    }

-- the part has as many bytes as the text
pub part_length : (text old : List ℕ) (at r : ℕ) → r ≡ at + length text → r ≤ length old → length (take (r - at) (drop at old)) ≡ length text
part_length text old at r e h = simp (length-take, length-drop) (omega arith)

-- one byte
pub one_held : (x : ℕ) (old : List ℕ) (at : ℕ) → at < length old → Puts (x ∷ []) old (set old at x) at (at + 1)
one_held x old at h =
    record {
      place = refl;
      bytes = λ l. rw (add-one, take-suc-set old at x h);
      rest = λ l. drop-set-lt (at + 1) old at x (omega arith);
    }

-- texts in a loop: f 0 to f (k - 1) are put, each at most `most` bytes
pub record Putting (f : ℕ → List ℕ) (n most : ℕ) (old : List ℕ) (at : ℕ) (out : List ℕ) (end k : ℕ) : Type 0 where
  pub few : k ≤ n
  pub short : end ≤ at + k * most
  pub same : length out ≡ length old
  pub put : Puts (join_below f k) old out at end

pub putting_none : (f : ℕ → List ℕ) (n most : ℕ) (old : List ℕ) (at : ℕ) → Putting f n most old at old at 0
putting_none f n most old at =
    record { few = omega arith; short = omega arith; same = refl; put = rw join_none (put_none old at) }

pub putting_next : {f : ℕ → List ℕ} {n most : ℕ} {old : List ℕ} {at : ℕ} {out : List ℕ} {end k : ℕ} → Putting f n most old at out end k → k < n
    → {new : List ℕ} {r : ℕ} → length new ≡ length out → r ≤ end + most → Puts (f k) out new end r → Putting f n most old at new r (k + 1)
putting_next {f} {n} {most} {k = k} p h e m q =
    let s : (k + 1) * most ≡ k * most + most = omega arith in
    record {
      few = omega arith;
      short = omega (arith, s, p.short);
      same = e ∙ p.same;
      put = rw join_more (behind p.put p.same q);
    }

pub putting_all : {f : ℕ → List ℕ} {n most : ℕ} {old : List ℕ} {at : ℕ} {out : List ℕ} {end k : ℕ} → Putting f n most old at out end k → n ≤ k
    → (end ≤ at + n * most) × Puts (join_below f n) old out at end
putting_all p h = let e = le_antisymm p.few h in (rw e at p.short, rw e at p.put)
