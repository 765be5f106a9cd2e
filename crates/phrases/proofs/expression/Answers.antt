use Rattle.std.proofs.Common.{rules, arith, refl}
use Rattle.phrases.proofs.GroupLaws.{wanting_first, leaf_read, opened_held, group_opened, operator_read, prefix_read, second_read, no_operator, no_bracket, whole, reads_wanting, reads_having, reads_still, reads_on}
use Rattle.phrases.proofs.Stacks.{prefix_apart, second_apart}
use Rattle.phrases.proofs.expression.Goals as goal

pub loop-wanted-init : goal.loop-wanted-init
loop-wanted-init c = let p = c.requires in (omega arith, p.0, p.1, p.2, omega arith, omega arith, refl, c.told-stack, reads_wanting (wanting_first _ _ _ _ _))

pub loop-wanted-preserved-in-Leaf : goal.loop-wanted-preserved-in-Leaf
loop-wanted-preserved-in-Leaf c =
    let v = c.loop-wanted.invariant in
    let (f, l, w) = rw c.in-Leaf.is at c.in_ok-leaf.ensures in
    let read = leaf_read (v.8.wanting c.if-wanted.true) f c.with_leaf-set.ensures c.put_record.ensures in
    (omega (arith, v.0, l), w, v.2, omega (arith, v.3, l), omega (arith, v.4, l), omega (arith, v.5), search rules, v.7, reads_having read (omega (arith, v.0, l)) (omega (arith, v.5)))

pub loop-wanted-preserved-in-Group : goal.loop-wanted-preserved-in-Group
loop-wanted-preserved-in-Group c =
    let v = c.loop-wanted.invariant in
    let (f, l, w) = rw c.in-Group.is at c.in_ok-leaf.ensures in
    let opens = group_opened (v.8.wanting c.if-wanted.true) f (omega (arith, v.1, v.2, v.4, v.7)) (λ gs. opened_held c.in-Group.prefix _ gs c.map_or.ensures (λ k p. search rules)) refl in
    (omega (arith, v.0, l), w, v.2, omega (arith, v.3, l), omega (arith, v.4, l), v.5, v.6, search rules, reads_still c.if-wanted.true opens)

pub returns-then-depth-eq0 : goal.returns-then-depth-eq0
returns-then-depth-eq0 c = let v = c.loop-wanted.invariant in let (h, l, k) = v.8.has c.if-wanted.false in whole h c.if-depth-eq0.true (l, v.1, k, v.3)

pub returns-in_err-o-in-First : goal.returns-in_err-o-in-First
returns-in_err-o-in-First c =
    let h = c.loop-wanted.invariant.8.has c.if-wanted.false in
    rw c.from_residual-in_err-o-in-First.ensures (no_operator h.0 (omega (arith, c.if-depth-eq0.false)) c.in-First.is c.in_err-o-in-First.ensures)

pub loop-wanted-preserved-in-First : goal.loop-wanted-preserved-in-First
loop-wanted-preserved-in-First c =
    let v = c.loop-wanted.invariant in
    let f = c.in_ok-o-in-First.ensures in
    let read = operator_read (v.8.has c.if-wanted.false).0 (omega (arith, c.if-depth-eq0.false)) (omega (arith, v.1, v.2, v.4, v.7)) c.in-First.is f refl in
    (omega (arith, v.0, f.within), f.within.1, v.2, omega (arith, v.3, f.within), omega (arith, v.4, f.within), v.5, v.6, search rules, reads_wanting read)

pub returns-in_err-i-in-Prefix : goal.returns-in_err-i-in-Prefix
returns-in_err-i-in-Prefix c =
    let h = c.loop-wanted.invariant.8.has c.if-wanted.false in
    rw c.from_residual-in_err-i-in-Prefix.ensures (no_bracket h.0 (omega (arith, c.if-depth-eq0.false)) (prefix_apart c.in-Prefix.is) c.in_err-i-in-Prefix.ensures)

pub loop-wanted-preserved-in-Prefix : goal.loop-wanted-preserved-in-Prefix
loop-wanted-preserved-in-Prefix c =
    let v = c.loop-wanted.invariant in
    let f = c.in_ok-i-in-Prefix.ensures in
    let h = v.8.has c.if-wanted.false in
    let read = prefix_read h.0 (omega (arith, c.if-depth-eq0.false)) c.in-Prefix.is f (rw c.from.ensures at c.put_record-in-Prefix.ensures) in
    (omega (arith, v.0, f.within), f.within.1, v.2, omega (arith, v.3, f.within), omega (arith, v.4, f.within), omega (arith, v.5), search rules, v.7, reads_on c.if-wanted.false read (omega (arith, v.0, f.within)) (omega (arith, v.5)))

pub returns-in_err-i-in-Second : goal.returns-in_err-i-in-Second
returns-in_err-i-in-Second c =
    let h = c.loop-wanted.invariant.8.has c.if-wanted.false in
    rw c.from_residual-in_err-i-in-Second.ensures (no_bracket h.0 (omega (arith, c.if-depth-eq0.false)) (second_apart c.in-Second.is) c.in_err-i-in-Second.ensures)

pub loop-wanted-preserved : goal.loop-wanted-preserved
loop-wanted-preserved c =
    let v = c.loop-wanted.invariant in
    let f = c.in_ok-i-in-Second.ensures in
    let h = v.8.has c.if-wanted.false in
    let read = second_read h.0 (omega (arith, c.if-depth-eq0.false)) c.in-Second.is f (rw (c.from-in-Second.ensures, c.from-in-Second-2.ensures) at c.put_record-in-Second.ensures) in
    (omega (arith, v.0, f.within), f.within.1, v.2, omega (arith, v.3, f.within), omega (arith, v.4, f.within), omega (arith, v.5), search rules, v.7, reads_on c.if-wanted.false read (omega (arith, v.0, f.within)) (omega (arith, v.5)))
