-- Expressions and statements read from the struct's arrays what the rules read from its view. Assumes nothing.
use mathlib.Core.Path.{◌≡◌, sym}
use mathlib.Core.List.{List, []}
use Prim.Native.Nat.{ℕ, ◌+◌, ◌*◌, ◌≤◌, ◌<◌}
use native.Mathlib.Nat.{add-zero}
use native.Mathlib.Omega.{arith}
use lib.ListN.{length, get_or}
use Rattle.base.specs.Below.{list_below}
use Rattle.base.proofs.Below.{list_at}
use Rattle.blocks.specs.Records.{Model}
use Rattle.blocks.specs.declared.records.StatementRecord.{StatementRecord}
use Rattle.model.specs.Facts.{Facts, StatementFits}
use Rattle.rules.specs.Configuration.{past_of}
use Rattle.rules.specs.declared.moment.Moment.{Moment}
use Rattle.rules.specs.declared.moment.Moment.TheVariants.{Now, DeltaAgo, UnitsAgo}
use Rattle.rules.specs.Evaluation.{Environment, Held, signal_in, environment_of, eval_of}
use Rattle.rules.specs.Statements.{effect_by}
use Rattle.rules.specs.Invariant.{Reachable}
use Rattle.rules.proofs.Evaluation.{agree_all}
use Rattle.rules.proofs.Picks.{effect_same}
use Rattle.expressions.specs.Reading.{signal_slot, arrays}
use Rattle.steps.specs.Entries.{history_of, earlier_of}
use Rattle.steps.proofs.Shifts.{history_at}
use Rattle.cycle.specs.View.{view_of}
use Rattle.cycle.specs.declared.config.Config.{Config}
use Rattle.cycle.proofs.ViewLaws.{nsignals_is, nvariables_is}

-- what is read from the lists that arrays of variables and signals hold
abbrev pub listed : List ℕ → List ℕ → ℕ → ℕ → Environment
listed vs ss nvariables nsignals = environment_of (list_below (λ a. get_or vs a 0) nvariables) (list_below (history_of ss) nsignals) (list_below (earlier_of ss) nsignals)

-- lists as long as the model says
module _ (M : Model) (fs : Facts M) (vs ss : List ℕ) (nvariables nsignals : ℕ) (some : nvariables ≡ length M.variables) (many : nsignals ≡ length M.signals) where
  past_listed : (s k : ℕ) → s < length M.signals → k ≤ 31 → get_or ss (32 * s + k) 0 ≡ past_of (list_below (history_of ss) nsignals) s k
  past_listed s k h l = rw (list_at (history_of ss) [] nsignals s (omega arith)) (sym (history_at ss s k (omega arith)))

  signal_listed : (s : ℕ) (w : Moment) → s < length M.signals → Held w → get_or ss (signal_slot s w) 0 ≡ signal_in (list_below (history_of ss) nsignals) (list_below (earlier_of ss) nsignals) s w
  signal_listed s Now h l = simp add-zero at (past_listed s 0 h (omega arith))
  signal_listed s DeltaAgo h l = sym (list_at (earlier_of ss) 0 nsignals s (omega arith))
  signal_listed s (UnitsAgo k) h l = past_listed s k h l

  variable_listed : (a : ℕ) → a < length M.variables → get_or vs a 0 ≡ get_or (list_below (λ a. get_or vs a 0) nvariables) a 0
  variable_listed a h = sym (list_at (λ a. get_or vs a 0) 0 nvariables a (omega arith))

  pub value_listed : (n : ℕ) → n < length M.nodes → eval_of M (arrays vs ss) n ≡ eval_of M (listed vs ss nvariables nsignals) n
  value_listed = agree_all M fs (arrays vs ss) (listed vs ss nvariables nsignals) signal_listed variable_listed

  pub effect_listed : (p : ℕ) (s : StatementRecord) → StatementFits M p s → effect_by M (arrays vs ss) p s ≡ effect_by M (listed vs ss nvariables nsignals) p s
  effect_listed p = effect_same M p (arrays vs ss) (listed vs ss nvariables nsignals) (λ n h own. value_listed n h)

-- the same of a struct and its view
module _ (M : Model) (fs : Facts M) (c : Config) (r : Reachable M (view_of c)) where
  pub effect_viewed : (p : ℕ) (s : StatementRecord) → StatementFits M p s → effect_by M (arrays c.variables c.signals) p s ≡ effect_by M (environment_of (view_of c).variables (view_of c).signals (view_of c).earlier) p s
  unfolding view_of
  effect_viewed = effect_listed M fs c.variables c.signals c.nvariables c.nsignals (nvariables_is M c r) (nsignals_is M c r)
