use Rattle.model.proofs.owners.+reads_own.Given as goal

abbrev pub decreases-reads_own : goal.decreases-reads_own
decreases-reads_own l = l.n
