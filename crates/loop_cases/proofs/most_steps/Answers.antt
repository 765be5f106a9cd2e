-- By computation. Assumes nothing.
use mathlib.Core.Path.{sym}
use Rattle.loop_cases.proofs.Shown.{loops_shown}
use Rattle.loop_cases.proofs.most_steps.Goals as goal

pub returns : goal.returns
returns c = record { value = sym loops_shown.met; loops_shown = loops_shown }
