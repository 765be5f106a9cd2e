use mathlib.Core.Path.{refl}
use Rattle.cycle.proofs.First.{begins_first}
use Rattle.cycle.proofs.config.Config.first.Goals as goal

pub returns : goal.returns
returns c =
    begins_first _ c.args.program.now.runs.facts _ c.none-d.result c.first_values-values.result c.histories-signals.result
    (record {
      time = refl;
      deltas = refl;
      nsignals = c.args.program.now.records.totals_of.signals;
      nvariables = c.args.program.now.records.totals_of.variables;
      ndrivers = c.args.program.now.records.totals_of.drivers;
      nprocesses = c.args.program.now.records.totals_of.processes;
      variables = c.first_variables-variables.ensures;
      places = c.first_places-places.ensures;
      currents = c.first_currents-currents.ensures;
      values = c.first_values-values.ensures;
      histories = c.histories-signals.ensures;
      signals = c.keep.ensures;
      none = c.none-d.ensures;
      drivers = refl;
      due = refl;
      standings = refl;
      deadlines = refl;
      faults = refl;
      nodes = refl;
    })
