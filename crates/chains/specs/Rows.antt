-- A relation between processes as a row of bits for each, and what the search for a closed chain over it promises.
use Rattle.std.specs.Prelude.{◌≡◌, Bool, true, ◌&&◌, List, [], ℕ, suc, ◌≤◌, ◌<◌, ltb, length, get_or, take, Option, MatchOption}
use Rattle.base.specs.Below.{any_below}
use Rattle.sets.specs.Sets.{in_set}
use Rattle.loops.specs.Chains.{Asked}
use Rattle.loops.specs.Search.{walks}
use Rattle.chains.specs.declared.Chain.{Chain}

-- a leads to b: bit b of row a
abbrev pub arrow : List ℕ → ℕ → ℕ → Bool
arrow rows a b = in_set (get_or rows a 0) b

-- v is a process, and its row has one of the set
unfoldable pub meets_row : List ℕ → ℕ → ℕ → ℕ → Bool
meets_row rows P set v = ltb v P && any_below (λ w. arrow rows v w && in_set set w) 32

-- row a of the relation has each process b that waits on a signal which a assigns
pub record Related (assigned waited : List ℕ) (P : ℕ) (rows : List ℕ) : Type 0 where
  pub at : (a b : ℕ) → a < P → b < P → arrow rows a b ≡ any_below (λ s. in_set (get_or waited b 0) s && in_set (get_or assigned a 0) s) 32

-- v is a process from which k edges lead to s
unfoldable pub leads_back : List ℕ → ℕ → ℕ → ℕ → ℕ → Bool
leads_back rows P s k v = ltb v P && walks (arrow rows) P s k v

-- from s, l + 1 edges lead back to it
pub record Closes (rows : List ℕ) (P s l : ℕ) : Type 0 where
  pub few : P ≤ 16
  pub there : s < P
  pub within : l < P
  pub round : walks (arrow rows) P s (suc l) s ≡ true

-- r names k, where k is below n
abbrev pub NamesBelow : ℕ → ℕ → Option ℕ → Type 0
NamesBelow n k r = MatchOption r (n ≤ k) (λ l. (l ≡ k) × (k < n))

-- the list xs has some entries, and they are the first `len` of the chain's; the others are 0
pub record IsChain (xs : List ℕ) (c : Chain) : Type 0 where
  pub long : length c.at ≡ 16
  pub some : 0 < c.len
  pub few : c.len ≤ 16
  pub list : take c.len c.at ≡ xs
  pub rest : (i : ℕ) → c.len ≤ i → get_or c.at i 0 ≡ 0

-- r has the list xs: as a chain, or as none where it is empty
abbrev pub Holds : List ℕ → Option Chain → Type 0
Holds xs r = MatchOption r (xs ≡ []) (λ c. IsChain xs c)

-- a list, and no other, is the chain asked for, and r has it
pub record Returned (leads : ℕ → ℕ → Bool) (P : ℕ) (r : Option Chain) : Type 0 where
  pub processes : List ℕ
  pub holds : Holds processes r
  pub chain : Asked leads P processes
  pub only : (ys : List ℕ) → Asked leads P ys → ys ≡ processes
