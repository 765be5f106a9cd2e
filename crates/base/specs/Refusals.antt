-- The numbers of refusals.
use Rattle.std.specs.Prelude.{ℕ, Result, Ok, Err}
use Rattle.base.specs.declared.refusal.Refusal.{Refusal}
use Rattle.base.specs.declared.refusal.Refusal.TheVariants.{ModelLength, BlockSum, BlockHead, Counts, Fields, Trees, Types, Owners, OrdersLength, AnswersLength, UnknownOrder, NoProcess, NotReady, StillReady, Stopped, DeltaLimit, NeverDue, TooLate, NoSignal, NullOnPlain, NoRoom, NothingDueNow, DueNow, NotSymmetric, NotAssociative, NoSentence, UnknownName}

-- the number of the rule that is broken
abbrev pub number_of : Refusal → ℕ
number_of ModelLength = 1
number_of BlockSum = 2
number_of BlockHead = 3
number_of Counts = 4
number_of Fields = 5
number_of Trees = 6
number_of Types = 7
number_of Owners = 8
number_of OrdersLength = 9
number_of AnswersLength = 10
number_of UnknownOrder = 11
number_of NoProcess = 12
number_of NotReady = 13
number_of StillReady = 14
number_of Stopped = 15
number_of DeltaLimit = 16
number_of NeverDue = 17
number_of TooLate = 18
number_of NoSignal = 19
number_of NullOnPlain = 20
number_of NoRoom = 21
number_of NothingDueNow = 22
number_of DueNow = 23
number_of NotSymmetric = 24
number_of NotAssociative = 25
number_of NoSentence = 26
number_of UnknownName = 27

-- what a check tells: the number of the refusal, or 0
abbrev pub told : {A : Type 0} → Result A Refusal → ℕ
told (Ok x) = 0
told (Err r) = number_of r
