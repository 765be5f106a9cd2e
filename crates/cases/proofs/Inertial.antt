-- What inertial delays leave of a line, by computation. Assumes nothing.
use mathlib.Core.Path.{◌≡◌, refl}
use mathlib.Core.List.{flatten}
use Rattle.base.specs.Below.{all_below, sum_below, every}
use Rattle.base.specs.Rules.{first_failing}
use Rattle.blocks.specs.Blocks.{length_ok, block_sum, sum_ok, trailing_at, trailing_ok}
use Rattle.blocks.specs.Records.{model_of}
use Rattle.model.specs.Rules.{record_rules, Accepted, refusal_of}
use Rattle.cases.specs.Inertial.{inertial_cases, InertialPlayed, filtered, filtered_blocks, filtered_bytes}
use Rattle.cases.proofs.Rules.{the_orders, the_checks, the_reading}
use Rattle.cases.proofs.Blocks.{accepted_bytes}

pub inertial_played : InertialPlayed
unfolding inertial_cases first_failing record_rules the_orders the_checks
inertial_played = record { left = refl; ninth_done = refl; ninth_fails = refl; accepted = refl }

records_accepted : Accepted filtered
unfolding filtered the_checks
records_accepted = record { totals = refl; fields = refl; trees = refl; types = refl; owners = refl; nulls = refl; symmetric = refl; associative = refl }

pub filtered_read : model_of filtered_bytes ≡ filtered
unfolding the_reading flatten filtered_bytes filtered_blocks filtered
filtered_read = refl

pub accepted_filtered : refusal_of filtered_bytes ≡ 0
unfolding flatten filtered_bytes filtered_blocks length_ok every all_below sum_below block_sum sum_ok trailing_at trailing_ok
accepted_filtered = accepted_bytes filtered_blocks filtered refl refl refl refl filtered_read records_accepted
