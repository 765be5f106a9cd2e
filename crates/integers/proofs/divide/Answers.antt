-- `divide`: each arm is a case of `division_of`. Assumes nothing.
use Rattle.integers.proofs.Remainders.{division_laws}
use Rattle.integers.proofs.divide.Goals as goal

pub returns-in-Quotient-clause-division_laws : goal.returns-in-Quotient-clause-division_laws
returns-in-Quotient-clause-division_laws c = division_laws

pub returns-in-Modulo-clause-division_laws : goal.returns-in-Modulo-clause-division_laws
returns-in-Modulo-clause-division_laws c = division_laws

pub returns-in-Rem-clause-division_laws : goal.returns-in-Rem-clause-division_laws
returns-in-Rem-clause-division_laws c = division_laws
