-- Determinacy: what the choice and the order of picks cannot change, as one claim over all lists of orders.
-- Assumes nothing.
use Rattle.std.specs.Prelude.{◌≡◌, true, ℕ, zero, suc, ◌-◌, ◌≤◌}
use Rattle.determinacy.specs.Kernel.{Kernel, NormalForm}

-- What a list of orders came to: its end configuration, its picks and its done advances.
pub record Tally (Conf : Type 0) : Type 0 where
  pub end : Conf
  pub picks : ℕ
  pub advances : ℕ

module _ (K : Kernel) where
  open K use {Conf, ready, step}

  -- From c exactly n picks can still be done, whichever ready process each takes, and they bring it to the normal form e.
  abbrev pub Exactly : ℕ → Conf → Conf → Type 0
  Exactly zero c e = NormalForm K c × (c ≡ e)
  Exactly (suc n) c e = ((p : ℕ) × (ready p c ≡ true)) × ((p : ℕ) → ready p c ≡ true → Exactly n (step p c) e)

  -- Two lists agree in picks and end configuration.
  pub record Alike (x y : Tally Conf) : Type 0 where
    pub same_picks : x.picks ≡ y.picks
    pub same_end : x.end ≡ y.end

  -- The list y is behind the list x by picks alone: exactly the missing ones bring it to x's end.
  pub record Behind (x y : Tally Conf) : Type 0 where
    pub at_most : y.picks ≤ x.picks
    pub still_to_do : Exactly (x.picks - y.picks) y.end x.end

  -- The claim, `play` giving what each list comes to from one first configuration: of lists with equally many advances, those
  -- that end in a normal form are alike, and every other list is behind each of them.
  pub record Determinacy {List : Type 0} (play : List → Tally Conf) : Type 0 where
    pub alike : (xs ys : List) → NormalForm K (play xs).end → NormalForm K (play ys).end
        → (play xs).advances ≡ (play ys).advances → Alike (play xs) (play ys)
    pub behind : (xs ys : List) → NormalForm K (play xs).end → (play xs).advances ≡ (play ys).advances
        → Behind (play xs) (play ys)
