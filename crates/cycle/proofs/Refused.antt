-- A refusal's number is not 0. Assumes nothing.
use mathlib.Core.Path.{◌≡◌}
use native.Mathlib.Omega.{arith}
use Rattle.base.specs.declared.refusal.Refusal.{Refusal}
use Rattle.base.specs.declared.refusal.Refusal.TheVariants.{ModelLength, BlockSum, BlockHead, Counts, Fields, Trees, Types, Owners, OrdersLength, AnswersLength, UnknownOrder, NoProcess, NotReady, StillReady, Stopped, DeltaLimit, NeverDue, TooLate, NoSignal, NullOnPlain, NoRoom, NothingDueNow, DueNow, NotSymmetric, NotAssociative, NoSentence, UnknownName}
use Rattle.base.specs.Refusals.{number_of}

pub numbered : (r : Refusal) → number_of r ≡ 0 → ⊥
numbered ModelLength h = absurd (omega arith)
numbered BlockSum h = absurd (omega arith)
numbered BlockHead h = absurd (omega arith)
numbered Counts h = absurd (omega arith)
numbered Fields h = absurd (omega arith)
numbered Trees h = absurd (omega arith)
numbered Types h = absurd (omega arith)
numbered Owners h = absurd (omega arith)
numbered OrdersLength h = absurd (omega arith)
numbered AnswersLength h = absurd (omega arith)
numbered UnknownOrder h = absurd (omega arith)
numbered NoProcess h = absurd (omega arith)
numbered NotReady h = absurd (omega arith)
numbered StillReady h = absurd (omega arith)
numbered Stopped h = absurd (omega arith)
numbered DeltaLimit h = absurd (omega arith)
numbered NeverDue h = absurd (omega arith)
numbered TooLate h = absurd (omega arith)
numbered NoSignal h = absurd (omega arith)
numbered NullOnPlain h = absurd (omega arith)
numbered NoRoom h = absurd (omega arith)
numbered NothingDueNow h = absurd (omega arith)
numbered DueNow h = absurd (omega arith)
numbered NotSymmetric h = absurd (omega arith)
numbered NotAssociative h = absurd (omega arith)
numbered NoSentence h = absurd (omega arith)
numbered UnknownName h = absurd (omega arith)
