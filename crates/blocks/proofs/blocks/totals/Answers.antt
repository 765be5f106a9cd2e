use mathlib.Core.Path.{sym, ◌∙◌}
use Rattle.blocks.proofs.Lookup.{signals_length, variables_length, processes_length, drivers_length, nodes_length, statements_length, rows_length}
use Rattle.blocks.proofs.blocks.totals.Goals as goal

pub returns : goal.returns
returns c =
    record {
      signals = c.total.ensures ∙ sym (signals_length _);
      variables = c.total-2.ensures ∙ sym (variables_length _);
      processes = c.total-3.ensures ∙ sym (processes_length _);
      drivers = c.total-4.ensures ∙ sym (drivers_length _);
      nodes = c.total-5.ensures ∙ sym (nodes_length _);
      statements = c.total-6.ensures ∙ sym (statements_length _);
      rows = c.total-7.ensures ∙ sym (rows_length _);
    }
