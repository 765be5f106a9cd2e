-- The proved table of the bench, by computation. Assumes nothing.
use mathlib.Core.Path.{refl, ap}
use mathlib.Core.Logic.{inl}
use Prim.Native.Nat.{ℕ}
use native.Mathlib.Omega.{arith}
use lib.IntN.{pos, negsuc, nat_abs}
use Rattle.values.specs.Bench as Values
use Rattle.values.specs.Bench.{holds, Holds}
use Rattle.integers.specs.Division.{quotient, rem, modulo}
use Rattle.integers.proofs.Remainders.{division_laws}
use Rattle.rules.specs.Evaluation.{failure}
use Rattle.rules.specs.Failing.{AtFault}
use Rattle.session.proofs.FaultLaws.{fault_laws}
use Rattle.base.specs.Rules.{first_failing}
use Rattle.model.specs.Rules.{record_rules, Accepted}
use Rattle.cases.specs.Arithmetic.{sign_cases, end_cases, fault_cases, arithmetic_rows, arithmetic_refusals, DivisionUsed}
use Rattle.cases.specs.Bench.{sum_rows, settle_rows, pending_rows}
use Rattle.cases.specs.Faults.{told_cases, kept_rows, fault_rows, fault_refusals, inner_sum, reading, FaultsUsed}
use Rattle.cases.specs.Table.{rows, TableWhole}
use Rattle.cases.proofs.Rules.{the_orders, the_checks}

-- named on an `unfolding` line, it opens the rows
unfoldable pub the_rows : ℕ
unfolding rows Values.rows sum_rows settle_rows pending_rows arithmetic_rows sign_cases end_cases fault_cases fault_rows told_cases kept_rows
the_rows = 0

pub table : Holds rows
unfolding the_rows holds the_orders
table = refl

pub whole : TableWhole
unfolding the_rows arithmetic_refusals fault_refusals record_rules first_failing the_checks
whole =
    record {
      resolutions = refl;
      sums = refl;
      settles = refl;
      pendings = refl;
      arithmetic = refl;
      faults = refl;
      all = refl;
      adder_accepted = record { totals = refl; fields = refl; trees = refl; types = refl; owners = refl; nulls = refl; symmetric = refl; associative = refl };
      scheduler_accepted = record { totals = refl; fields = refl; trees = refl; types = refl; owners = refl; nulls = refl; symmetric = refl; associative = refl };
      arithmetic_accepted = refl;
      faults_accepted = refl;
    }

pub division_used : DivisionUsed
unfolding quotient rem modulo
division_used =
    record {
      dividend_sign = λ q r l. division_laws.only _ _ _ q r _ _ l (division_laws.rem (negsuc 6) (pos 2) (λ e. absurd (omega (arith, ap nat_abs e))));
      divisor_sign = λ q r l. (division_laws.only _ _ _ q r _ _ l (division_laws.modulo (negsuc 6) (pos 2) (λ e. absurd (omega (arith, ap nat_abs e)))).leaves).1;
    }

inner_accepted : Accepted inner_sum
unfolding the_checks
inner_accepted = record { totals = refl; fields = refl; trees = refl; types = refl; owners = refl; nulls = refl; symmetric = refl; associative = refl }

inner_named : AtFault inner_sum reading 3 (failure 2 1)
unfolding the_orders
inner_named = fault_laws.named inner_sum inner_accepted reading 3 (omega arith)

pub faults_used : FaultsUsed
unfolding the_orders
faults_used =
    record {
      laws = fault_laws;
      accepted = inner_accepted;
      there = omega arith;
      fails = refl;
      at_fault = inner_named;
      order = inner_named.order;
      itself = refl;
      before = inner_named.valued;
      evaluated = refl;
      done = refl;
      stops = refl;
      fault_told = refl;
      zero_told = refl;
      node_told = refl;
      stopping = inl (inl refl, omega arith);
    }
