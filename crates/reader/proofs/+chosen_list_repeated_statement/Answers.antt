use Rattle.std.proofs.Common.{rules, arith, refl, Some, None}
use Rattle.grammar.specs.Words.{null_word, wait_word}
use Rattle.tokens.specs.declared.Lexeme.TheVariants.{Word}
use Rattle.simple.proofs.AssignLaws.{stored}
use Rattle.reader.specs.Reading.{behind_end, behind_else}
use Rattle.reader.proofs.Clauses.{null_found, no_body, while_found, no_loop_end, no_first, no_second, choice_found, no_choice_end}
use Rattle.reader.proofs.Lists.{stands, word_stands, from_before, no_list, found_last, more_answer}
use Rattle.reader.proofs.+chosen_list_repeated_statement.Goals as goal

pub chosen-list-requires : goal.chosen-list-requires
chosen-list-requires t c =
    let f = c.in_ok-e.ensures in
    let p = c.requires in
    (omega (arith, f.within, c.decreases, p.0, p.1, p.2, p.3), (f.within.1, p.1, f.within.3, omega (arith, f.within, c.decreases, p.0, p.1, p.2, p.3), behind_else))

pub chosen-returns-in_err-p : goal.chosen-returns-in_err-p
chosen-returns-in_err-p t c = rw c.from_residual-in_err-p.ensures (no_first c.requires.4 c.in_ok-e.ensures c.in_err-p.ensures)

pub chosen-list-requires-2 : goal.chosen-list-requires-2
chosen-list-requires-2 t c =
    let f = c.in_ok-e.ensures in
    let g = c.in_ok-p.ensures in
    let p = c.requires in
    (omega (arith, f.within, g.within, c.decreases, p.0, p.1, p.2, p.3), (g.within.1, p.1, g.within.2, omega (arith, g.within), behind_end))

pub chosen-returns-in_err-q : goal.chosen-returns-in_err-q
chosen-returns-in_err-q t c = rw c.from_residual-in_err-q.ensures (no_second c.requires.4 c.in_ok-e.ensures _ c.in_ok-p.ensures c.in_err-q.ensures)

pub chosen-returns-in_err-next : goal.chosen-returns-in_err-next
chosen-returns-in_err-next t c = rw c.from_residual-in_err-next.ensures (no_choice_end c.requires.4 c.in_ok-e.ensures _ c.in_ok-p.ensures c.in_ok-q.ensures c.in_err-next.ensures)

pub chosen-returns : goal.chosen-returns
chosen-returns t c = choice_found c.requires.4 c.in_ok-e.ensures _ c.in_ok-p.ensures c.in_ok-q.ensures c.in_ok-next.ensures c.put_choice.ensures

pub list-returns-in_err-s : goal.list-returns-in_err-s
list-returns-in_err-s t c = rw c.from_residual.ensures (c.loop-s.invariant.6 None c.statement.new.nodes c.statement.new.out (no_list c.args.stop c.in_err-s.ensures))

pub list-returns-then-eq : goal.list-returns-then-eq
list-returns-then-eq t c = c.loop-s.invariant.6 (Some _) _ _ (found_last c.in_ok-s.ensures c.token-found.ensures (search rules))

pub list-loop-s-preserved : goal.list-loop-s-preserved
list-loop-s-preserved t c =
    let v = c.loop-s.invariant in
    let s = c.in_ok-s.ensures in
    (omega (arith, v.0, s.within), s.within.1, s.within.2, omega (arith, s.within), search rules, search rules, λ o nodes three a. v.6 o nodes three (more_answer s c.token-found.ensures nodes three o (λ e. search rules) c.requires.4 a))

pub repeated-list-requires : goal.repeated-list-requires
repeated-list-requires t c =
    let f = c.in_ok-e.ensures in
    let p = c.requires in
    (omega (arith, f.within, c.decreases, p.0, p.1, p.2, p.3), (f.within.1, p.1, f.within.3, omega (arith, f.within, c.decreases, p.0, p.1, p.2, p.3), behind_end))

pub repeated-returns-in_err-p : goal.repeated-returns-in_err-p
repeated-returns-in_err-p t c = rw c.from_residual-in_err-p.ensures (no_body c.requires.4 c.in_ok-e.ensures c.in_err-p.ensures)

pub repeated-returns-in_err-next : goal.repeated-returns-in_err-next
repeated-returns-in_err-next t c = rw c.from_residual-in_err-next.ensures (no_loop_end c.requires.4 c.in_ok-e.ensures _ c.in_ok-p.ensures c.in_err-next.ensures)

pub repeated-returns : goal.repeated-returns
repeated-returns t c = while_found c.requires.4 c.in_ok-e.ensures _ c.in_ok-p.ensures c.in_ok-next.ensures c.put_loop.ensures

pub statement-returns-in_ok-end-in-Word-eq1853189228 : goal.statement-returns-in_ok-end-in-Word-eq1853189228
statement-returns-in_ok-end-in-Word-eq1853189228 t c =
    null_found (word_stands c.token-found.ensures null_word (search rules)) _ c.requires.2 c.requires.3 c.in_ok-end-in-Word-eq1853189228.ensures (stored _ _ c.put_record.ensures refl)

pub statement-returns-in-Word-eq2002872692 : goal.statement-returns-in-Word-eq2002872692
statement-returns-in-Word-eq2002872692 t c =
    let (e, l) = stands c.token-found.ensures (Word wait_word) (search rules) (λ z. cc) in
    from_before _ _ _ _ _ _ _ _ _ e l (c.waiting.ensures _)

pub statement-returns-in-Variable : goal.statement-returns-in-Variable
statement-returns-in-Variable t c =
    let (e, l) = stands c.token-found.ensures _ c.in-Variable.is (λ z. cc) in
    from_before _ _ _ _ _ _ _ _ _ e l (c.assigned.ensures _)

pub statement-returns-in-Signal : goal.statement-returns-in-Signal
statement-returns-in-Signal t c =
    let (e, l) = stands c.token-found.ensures _ c.in-Signal.is (λ z. cc) in
    from_before _ _ _ _ _ _ _ _ _ e l (c.driven.ensures _)
