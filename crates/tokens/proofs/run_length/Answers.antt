-- The place of the first byte that is no letter or digit, or the end. Assumes nothing.
use Rattle.std.proofs.Common.{rules, arith, refl, sym, ◌∙◌, true, false, ◌≡◌}
use borrow.Author.Tests.{tests}
use Rattle.std.proofs.lemmas.Iterator.{YieldsList-from_slice, IsFirst-from_position, index_from_first}
use Rattle.grammar.specs.Tokens.{in_run, run_length}
use Rattle.tokens.proofs.Runs.{run_within}
use Rattle.tokens.proofs.run_length.Goals as goal

pub returns : goal.returns
unfolding run_length
returns c =
    let first = IsFirst-from_position _ _ _ (λ b. in_run b ≡ false) (λ b. in_run b ≡ true) c.position.ensures.ran (YieldsList-from_slice c.args.t.now cc) (λ x q k. search (rules, tests)) (λ x q k. search (rules, tests)) in
    let e = index_from_first run_length (λ b. in_run b ≡ false) (λ b. in_run b ≡ true) refl (λ x xs h. rw h) (λ x xs h. rw h (omega arith)) c.args.t.now c.position.result first in
    let same : c.unwrap_or.result ≡ run_length c.args.t.now = c.unwrap_or.ensures ∙ sym e in
    (same, rw same (run_within c.args.t.now))
