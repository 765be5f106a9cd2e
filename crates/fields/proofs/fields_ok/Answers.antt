use Rattle.std.proofs.Common.{rules, tests}
use Rattle.base.proofs.Ranges.{all_from_range}
use Rattle.blocks.specs.Records.{signal_at, variable_at, driver_at, node_at, statement_at, row_at}
use Rattle.blocks.specs.Lent.{model_in}
use Rattle.fields.specs.Fields.{signal_ok, variable_ok, process_ok, driver_ok, node_ok, statement_ok, row_ok}
use Rattle.fields.proofs.FieldForms.{fields_form}
use Rattle.fields.proofs.fields_ok.Goals as goal

pub returns : goal.returns
returns c =
    let t = c.args.records.now.totals_of in
    let M = model_in c.args.records.now in
    fields_form M
    (all_from_range (λ n. signal_ok (signal_at M n)) c.all.ensures.ran t.signals (λ x b q k. search (rules, tests)))
    (all_from_range (λ n. variable_ok M (variable_at M n)) c.all-2.ensures.ran t.variables (λ x b q k. search (rules, tests)))
    (all_from_range (process_ok M) c.all-3.ensures.ran t.processes (λ x b q k. search (rules, tests)))
    c.all_covered.ensures
    (all_from_range (λ n. driver_ok M (driver_at M n)) c.all-4.ensures.ran t.drivers (λ x b q k. search (rules, tests)))
    (all_from_range (λ n. node_ok M (node_at M n)) c.all-5.ensures.ran t.nodes (λ x b q k. search (rules, tests)))
    (all_from_range (λ n. statement_ok M n (statement_at M n)) c.all-6.ensures.ran t.statements (λ x b q k. search (rules, tests)))
    (all_from_range (λ n. row_ok (row_at M n)) c.all-7.ensures.ran t.rows (λ x b q k. search (rules, tests)))
