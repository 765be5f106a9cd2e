-- The loop keeps `Looked`. Assumes nothing.
use Rattle.members.proofs.MemberLaws.{Looked}
use Rattle.members.proofs.set_refusal.Given as goal

abbrev pub invariant-loop-p : goal.invariant-loop-p
invariant-loop-p l = Looked l.standings l.nprocesses l.set l.p l.refusal
