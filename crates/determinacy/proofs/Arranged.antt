-- Picks of ready processes, each once, come to one end in every arrangement: by the diamond the first of one list may be done first
-- in the other.
-- Assumes nothing.
use mathlib.Core.Path.{◌≡◌, refl, sym, ap, ◌∙◌}
use mathlib.Core.Bool.{Bool, true}
use mathlib.Core.Logic.{◌≢◌}
use mathlib.Core.List.{List, [], ◌∷◌, ◌++◌}
use Prim.Native.Nat.{ℕ, suc, ◌+◌, ◌≤◌, ◌<◌}
use native.Mathlib.Decide.{ℕ_discrete}
use native.Mathlib.Omega.{arith}
use borrow.Author.Tests.{eq-eqb, ne_eqb}
use lib.ListN.{length}
use Rattle.base.proofs.Cases.{choice_most, either_way}
use Rattle.determinacy.specs.Kernel.{Kernel, Laws}
use Rattle.determinacy.specs.Arrangements.{occurrences, Arranges, steps_of, CanStep, SameSteps}

-- what stands first
first_there : (p : ℕ) (ps : List ℕ) → occurrences p (p ∷ ps) ≡ 1 + occurrences p ps
first_there p ps = rw (eq-eqb p p refl)

other_first : (p q : ℕ) (ps : List ℕ) → p ≢ q → occurrences p (q ∷ ps) ≡ occurrences p ps
other_first p q ps other = rw (ne_eqb p q other) (omega arith)

-- a list behind another
pub occurrences_append : (p : ℕ) (xs ys : List ℕ) → occurrences p (xs ++ ys) ≡ occurrences p xs + occurrences p ys
occurrences_append p [] ys = omega arith
occurrences_append p (x ∷ xs) ys = omega (arith, occurrences_append p xs ys)

pub steps_append : (K : Kernel) (xs ys : List ℕ) (c : K.Conf) → steps_of K (xs ++ ys) c ≡ steps_of K ys (steps_of K xs c)
steps_append K [] ys c = refl
steps_append K (x ∷ xs) ys c = steps_append K xs ys (K.step x c)

module _ (K : Kernel) (L : Laws K) where
  open K use {Conf, ready, step}
  open L use {Sound, step_sound, stays_ready, commutes}

  -- the processes of a list are ready, and none stands in it twice
  record Free (ps : List ℕ) (c : Conf) : Type 0 where
    sound : Sound c
    once : (p : ℕ) → occurrences p ps ≤ 1
    ready : (p : ℕ) → 0 < occurrences p ps → ready p c ≡ true

  first_ready : (p : ℕ) (ps : List ℕ) (c : Conf) → Free (p ∷ ps) c → ready p c ≡ true
  first_ready p ps c f = f.ready p (omega (arith, first_there p ps))

  -- those behind the first, once its pick is done
  free_rest : (p : ℕ) (ps : List ℕ) (c : Conf) → Free (p ∷ ps) c → Free ps (step p c)
  free_rest p ps c f =
      let head = first_ready p ps c f in
      let apart : (q : ℕ) → 0 < occurrences q ps → p ≢ q = λ q h e. let twice = f.once p in omega (arith, first_there p ps, rw (← e) at h) in
      record {
        sound = step_sound p c f.sound head;
        once = λ q. omega (arith, f.once q);
        ready = λ q h. stays_ready p q c f.sound (apart q h) head (f.ready q (omega (arith, h)));
      }

  can_steps : (ps : List ℕ) (c : Conf) → Free ps c → CanStep K ps c
  can_steps [] c f = tt
  can_steps (p ∷ ps) c f = (first_ready p ps c f, can_steps ps (step p c) (free_rest p ps c f))

  -- a process of the list may be picked first
  record Front (p : ℕ) (qs : List ℕ) (c : Conf) : Type 0 where
    rest : List ℕ
    same : (x : ℕ) → occurrences x qs ≡ occurrences x (p ∷ rest)
    many : length qs ≡ suc (length rest)
    end : steps_of K qs c ≡ steps_of K rest (step p c)

  front : (p : ℕ) (qs : List ℕ) (c : Conf) → Free qs c → 0 < occurrences p qs → Front p qs c
  front p [] c f h = absurd (omega arith)
  front p (q ∷ qs) c f h = elim (ℕ_discrete p q) [
    | yes e ↦ record { rest = qs; same = λ x. rw e; many = refl; end = rw e }
    | no other ↦
        let later : 0 < occurrences p qs = rw (other_first p q qs other) at h in
        let r = front p qs (step q c) (free_rest q qs c f) later in
        record {
          rest = q ∷ r.rest;
          same = λ x. omega (arith, r.same x);
          many = ap suc r.many;
          end = r.end ∙ ap (steps_of K r.rest) (commutes q p c f.sound (λ e. other (sym e)) (first_ready q qs c f) (f.ready p h));
        }
  ]

  free_same : (ps qs : List ℕ) (c : Conf) → ((x : ℕ) → occurrences x qs ≡ occurrences x ps) → Free qs c → Free ps c
  free_same ps qs c same f =
      record { sound = f.sound; once = λ x. omega (arith, f.once x, same x); ready = λ x h. f.ready x (omega (arith, same x)) }

  -- two lists that have the same processes
  same_end : (ps qs : List ℕ) (c : Conf) → Free qs c → ((x : ℕ) → occurrences x qs ≡ occurrences x ps)
      → (length qs ≡ length ps) × (steps_of K qs c ≡ steps_of K ps c)
  same_end [] [] c f same = (refl, refl)
  same_end [] (q ∷ qs) c f same = absurd (omega (arith, same q, first_there q qs))
  same_end (p ∷ ps) qs c f same =
      let r = front p qs c f (omega (arith, same p, first_there p ps)) in
      let free = free_rest p r.rest c (free_same (p ∷ r.rest) qs c r.same f) in
      let (many, end) = same_end ps r.rest (step p c) free (λ x. omega (arith, same x, r.same x)) in
      (r.many ∙ ap suc many, r.end ∙ end)

  -- two arrangements of a set whose processes are ready
  pub arranged : (member : ℕ → Bool) (c : Conf) → Sound c → ((p : ℕ) → member p ≡ true → ready p c ≡ true)
      → (ps qs : List ℕ) → Arranges member ps → Arranges member qs → SameSteps K ps qs c
  arranged member c s ready ps qs a b =
      let free : Free qs c =
      record {
        sound = s;
        once = λ p. rw (b p) (choice_most (member p) 1);
        ready = λ p h. either_way (member p) (ready p) (λ m. absurd (omega (arith, rw (b p, m) at h)));
      } in
      let (many, end) = same_end ps qs c free (λ x. b x ∙ sym (a x)) in
      record { can = can_steps qs c free; many = many; end = end }
