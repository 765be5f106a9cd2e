-- Arrangements of a set of processes: the lists that have each of them once, and picks of the processes of such a list.
-- Assumes nothing.
use Rattle.std.specs.Prelude.{◌≡◌, Bool, true, List, [], ◌∷◌, ℕ, ◌+◌, eqb, length}
use Rattle.base.specs.Cases.{◌∣◌, ◌⇒◌}
use Rattle.determinacy.specs.Kernel.{Kernel}

-- how often p stands in a list
abbrev pub occurrences : ℕ → List ℕ → ℕ
occurrences p [] = 0
occurrences p (q ∷ qs) = (eqb p q ⇒ 1 ∣ 0) + occurrences p qs

-- the list has each member of the set once, and nothing else
abbrev pub Arranges : (ℕ → Bool) → List ℕ → Type 0
Arranges member ps = (p : ℕ) → occurrences p ps ≡ (member p ⇒ 1 ∣ 0)

module _ (K : Kernel) where
  open K use {Conf, ready, step}

  -- picks of the processes of a list, one after the other: the end, and that each can be done
  abbrev pub steps_of : List ℕ → Conf → Conf
  steps_of [] c = c
  steps_of (p ∷ ps) c = steps_of ps (step p c)

  abbrev pub CanStep : List ℕ → Conf → Type 0
  CanStep [] c = Unit {0}
  CanStep (p ∷ ps) c = (ready p c ≡ true) × CanStep ps (step p c)

  -- the lists ps and qs from c: all picks of qs can be done, and they are as many and come to the same end as those of ps
  pub record SameSteps (ps qs : List ℕ) (c : Conf) : Type 0 where
    pub can : CanStep qs c
    pub many : length qs ≡ length ps
    pub end : steps_of qs c ≡ steps_of ps c
