-- The rules under three names: named on an `unfolding` line, each opens what it lists. Assumes nothing.
use Prim.Native.Nat.{ℕ}
use Rattle.base.specs.Below.{sum_below, every, all_below, any_below, join_below, list_below}
use Rattle.base.specs.Course.{up_to, course, first_with}
use Rattle.sets.specs.Sets.{in_set}
use Rattle.values.specs.Nine.{code_of, low, high}
use Rattle.values.specs.Operators.{not_of}
use Rattle.values.specs.Resolve.{standard_rows, entry_of, table_by, standard, pair_in, pair_of, resolution_by, resolution_of, row_symmetric, symmetric, pair_associative, row_associative, associative}
use Rattle.integers.specs.Division.{quotient, rem, modulo}
use Rattle.blocks.specs.Blocks.{starts_of, starts_in, count_in}
use Rattle.blocks.specs.Records.{zeros_at, signal_of, variable_of, process_of, driver_of, node_of, statement_of, row_of, records_of, model_of}
use Rattle.blocks.specs.Totals.{totals_ok}
use Rattle.fields.specs.Fields.{value_ok, signal_ok, variable_ok, process_ok, covered, driver_ok, node_ok, owner_of, in_span, statement_ok, row_ok, fields_ok}
use Rattle.trees.specs.Trees.{operands_of, lower_ok, size_by, next_size, size_of, tree_ok, trees_ok, type_by, next_type, type_of, statement_typed, types_ok}
use Rattle.tables.specs.Tables.{rows_of, table_of, symmetric_ok, associative_ok, table_rules}
use Rattle.model.specs.Nulls.{null_ok, nulls_ok}
use Rattle.model.specs.Owners.{pair_below, drivers_rise, drivers_of, single_ok, driver_for, reads_by, next_reads, reads_own, statement_owned, owners_ok}
use Rattle.rules.specs.Configuration.{driving_of, first_drivers, first_signal, first}
use Rattle.rules.specs.Evaluation.{ranged, negate_of, sum_of, difference_of, equal_of, less_of, product_of, divided, value_by, next_value, eval_of}
use Rattle.rules.specs.Failing.{order_by, next_order, evaluation_order}
use Rattle.rules.specs.Statements.{with_delay, effect_by, effect_of, kept, before, added, equal_value, marked, left_by, scheduled, overflows, next_place, driver_after, applied, stepped}
use Rattle.rules.specs.Steps.{transaction_due, taken, deadline_due, active, undriven, signal_after, signals_after, earlier_after, changed_in, woken_if, woken_at, process_after_delta, delta_step, shifted, time_step}
use Rattle.rules.specs.Orders.{is_ready, is_stopped, picked, due_times, due_now, delta_stepped, time_stepped, lowest_ready, settled_from, settled, some_member, members_below, stepped_below, picked_set, read_of}
use Rattle.session.specs.Lists.{order_of, orders_of, is_known, performed, answer_of, played_by}

-- a list of orders is read and played
unfoldable pub the_orders : ℕ
unfolding any_below sum_below join_below list_below up_to course first_with
    code_of low high not_of standard_rows entry_of table_by standard pair_in pair_of resolution_by resolution_of rows_of table_of
    type_by next_type type_of driver_for
    driving_of first_drivers first_signal first
    quotient rem modulo ranged negate_of sum_of difference_of equal_of less_of product_of divided value_by next_value eval_of order_by next_order evaluation_order
    with_delay effect_by effect_of kept before added equal_value marked left_by scheduled overflows next_place driver_after applied stepped
    transaction_due taken deadline_due active undriven signal_after signals_after earlier_after in_set changed_in woken_if woken_at process_after_delta delta_step
    shifted time_step
    is_ready is_stopped picked due_times due_now delta_stepped time_stepped lowest_ready settled_from settled some_member members_below stepped_below picked_set read_of
    order_of orders_of is_known performed answer_of played_by
the_orders = 0

-- the rules of the records
unfoldable pub the_checks : ℕ
unfolding every all_below sum_below list_below up_to course first_with
    totals_ok value_ok signal_ok variable_ok process_ok covered driver_ok node_ok owner_of in_span statement_ok row_ok fields_ok
    operands_of lower_ok size_by next_size size_of tree_ok trees_ok type_by next_type type_of statement_typed types_ok
    pair_below drivers_rise drivers_of single_ok driver_for reads_by next_reads reads_own statement_owned owners_ok
    null_ok nulls_ok
    code_of entry_of table_by pair_in rows_of table_of row_symmetric symmetric symmetric_ok pair_associative row_associative associative associative_ok table_rules
the_checks = 0

-- a model is read from its bytes
unfoldable pub the_reading : ℕ
unfolding all_below join_below list_below starts_of starts_in count_in zeros_at
    signal_of variable_of process_of driver_of node_of statement_of row_of records_of model_of
the_reading = 0
