-- The first token, and the word behind a signal's name, decide.
-- Assumes nothing.
use Rattle.std.proofs.Common.{rules, arith}
use Rattle.phrases.proofs.Operands.{not_group, negate_group, left_other, left_signal}
use Rattle.phrases.proofs.group.Goals as goal

pub returns-then-eq : goal.returns-then-eq
returns-then-eq c = (not_group c.token-found.ensures (search rules), c.token-found.ensures.within.0, c.token-found.ensures.within.1)

pub returns-then-eq-2 : goal.returns-then-eq-2
returns-then-eq-2 c = (negate_group c.token-found.ensures (search rules), c.token-found.ensures.within.0, c.token-found.ensures.within.1)

pub returns-in_default-word : goal.returns-in_default-word
returns-in_default-word c = (left_signal c.token-found.ensures _ (λ e. search rules) (λ e. search rules) c.in-Signal.is c.in_default-word.ensures, omega arith, c.requires)

pub returns-in_default : goal.returns-in_default
returns-in_default c = (left_other c.token-found.ensures (λ e. search rules) (λ e. search rules) c.in_default.not-Signal, omega arith, c.requires)
