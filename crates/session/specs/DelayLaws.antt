-- Laws of the earlier values (document 02, item 4): "Only models with a delay of 0 answer otherwise".
use Rattle.std.specs.Prelude.{◌≡◌, List, ℕ}
use Rattle.blocks.specs.Records.{Model}
use Rattle.rules.specs.Configuration.{Configuration}
use Rattle.rules.specs.Evaluation.{environment_of, eval_of}
use Rattle.rules.specs.Steps.{delta_step}
use Rattle.rules.specs.Delays.{NoDelayOfZero, former_environment, SameButEarlier}
use Rattle.session.specs.Lists.{Order, played}

-- orders from two configurations have the same answers, and their ends differ in the earlier values alone
pub record SamePlay (M : Model) (os : List Order) (c c' : Configuration) : Type 0 where
  pub answers : (played M os c).answers ≡ (played M os c').answers
  pub end : SameButEarlier (played M os c).end (played M os c').end

pub record DelayLaws : Type 0 where
  -- without a delay of 0 a node has the value that document 01 gives it, whatever the earlier values es are
  pub values : (M : Model) → NoDelayOfZero M → (vs : List ℕ) (ss : List (List ℕ)) (es : List ℕ) (n : ℕ)
      → eval_of M (environment_of vs ss es) n ≡ eval_of M (former_environment vs ss) n
  -- and any orders are answered as if the earlier values were others
  pub orders : (M : Model) → NoDelayOfZero M → (os : List Order) (c c' : Configuration) → SameButEarlier c c' → SamePlay M os c c'
  -- in any model a delta step leaves nothing of the earlier values that it found
  pub deltas : (M : Model) (c c' : Configuration) → SameButEarlier c c' → delta_step M c ≡ delta_step M c'
