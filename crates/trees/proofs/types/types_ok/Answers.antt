use Rattle.std.proofs.Common.{rules, tests, leb}
use Rattle.base.proofs.Ranges.{all_from_range}
use Rattle.blocks.specs.Records.{model_of, statement_at}
use Rattle.trees.specs.Trees.{type_of, statement_typed, types_ok}
use Rattle.trees.proofs.types.types_ok.Goals as goal

pub returns-clause-value : goal.returns-clause-value
unfolding types_ok
returns-clause-value c =
    let M = model_of c.args.m.now in
    rw (
      all_from_range (λ n. leb (type_of M n) 2) c.all-nodes.ensures.ran c.requires.totals_of.nodes (λ x b q k. search (rules, tests)),
      all_from_range (λ n. statement_typed M (statement_at M n)) c.all-statements.ensures.ran c.requires.totals_of.statements (λ x b q k. search (rules, tests)),
    )
