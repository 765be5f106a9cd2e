-- The kinds follow each other, a stage for each. Assumes nothing.
use native.Mathlib.Omega.{arith}
use Rattle.packing.proofs.PageLaws.{no_stage, next_stage, all_staged}
use Rattle.packing.proofs.pack.Goals as goal

pub put_kind-a-requires : goal.put_kind-a-requires
put_kind-a-requires c = (omega (arith, c.requires.fits), omega (arith, c.requires.most), omega arith)

pub put_kind-b-requires : goal.put_kind-b-requires
put_kind-b-requires c =
    let s1 = next_stage 1 c.args.signals.now (no_stage c.args.out.now) (c.put_kind-a.ensures.value, c.put_kind-a.ensures.out_after) in
    (omega (arith, c.requires.fits, s1.long, c.put_kind-a.ensures.value), omega (arith, c.requires.most, c.put_kind-a.ensures.value), omega arith)

pub put_kind-c-requires : goal.put_kind-c-requires
put_kind-c-requires c =
    let s1 = next_stage 1 c.args.signals.now (no_stage c.args.out.now) (c.put_kind-a.ensures.value, c.put_kind-a.ensures.out_after) in
    let s2 = next_stage 2 c.args.variables.now s1 (c.put_kind-b.ensures.value, c.put_kind-b.ensures.out_after) in
    (omega (arith, c.requires.fits, s2.long, c.put_kind-a.ensures.value, c.put_kind-b.ensures.value), omega (arith, c.requires.most, c.put_kind-a.ensures.value, c.put_kind-b.ensures.value), omega arith)

pub put_kind-d-requires : goal.put_kind-d-requires
put_kind-d-requires c =
    let s1 = next_stage 1 c.args.signals.now (no_stage c.args.out.now) (c.put_kind-a.ensures.value, c.put_kind-a.ensures.out_after) in
    let s2 = next_stage 2 c.args.variables.now s1 (c.put_kind-b.ensures.value, c.put_kind-b.ensures.out_after) in
    let s3 = next_stage 3 c.args.processes.now s2 (c.put_kind-c.ensures.value, c.put_kind-c.ensures.out_after) in
    (omega (arith, c.requires.fits, s3.long, c.put_kind-a.ensures.value, c.put_kind-b.ensures.value, c.put_kind-c.ensures.value), omega (arith, c.requires.most, c.put_kind-a.ensures.value, c.put_kind-b.ensures.value, c.put_kind-c.ensures.value), omega arith)

pub put_kind-e-requires : goal.put_kind-e-requires
put_kind-e-requires c =
    let s1 = next_stage 1 c.args.signals.now (no_stage c.args.out.now) (c.put_kind-a.ensures.value, c.put_kind-a.ensures.out_after) in
    let s2 = next_stage 2 c.args.variables.now s1 (c.put_kind-b.ensures.value, c.put_kind-b.ensures.out_after) in
    let s3 = next_stage 3 c.args.processes.now s2 (c.put_kind-c.ensures.value, c.put_kind-c.ensures.out_after) in
    let s4 = next_stage 4 c.args.drivers.now s3 (c.put_kind-d.ensures.value, c.put_kind-d.ensures.out_after) in
    (omega (arith, c.requires.fits, s4.long, c.put_kind-a.ensures.value, c.put_kind-b.ensures.value, c.put_kind-c.ensures.value, c.put_kind-d.ensures.value), omega (arith, c.requires.most, c.put_kind-a.ensures.value, c.put_kind-b.ensures.value, c.put_kind-c.ensures.value, c.put_kind-d.ensures.value), omega arith)

pub put_kind-requires : goal.put_kind-requires
put_kind-requires c =
    let s1 = next_stage 1 c.args.signals.now (no_stage c.args.out.now) (c.put_kind-a.ensures.value, c.put_kind-a.ensures.out_after) in
    let s2 = next_stage 2 c.args.variables.now s1 (c.put_kind-b.ensures.value, c.put_kind-b.ensures.out_after) in
    let s3 = next_stage 3 c.args.processes.now s2 (c.put_kind-c.ensures.value, c.put_kind-c.ensures.out_after) in
    let s4 = next_stage 4 c.args.drivers.now s3 (c.put_kind-d.ensures.value, c.put_kind-d.ensures.out_after) in
    let s5 = next_stage 5 c.args.nodes.now s4 (c.put_kind-e.ensures.value, c.put_kind-e.ensures.out_after) in
    (omega (arith, c.requires.fits, s5.long, c.put_kind-a.ensures.value, c.put_kind-b.ensures.value, c.put_kind-c.ensures.value, c.put_kind-d.ensures.value, c.put_kind-e.ensures.value), omega (arith, c.requires.most, c.put_kind-a.ensures.value, c.put_kind-b.ensures.value, c.put_kind-c.ensures.value, c.put_kind-d.ensures.value, c.put_kind-e.ensures.value), omega arith)

pub returns : goal.returns
returns c =
    let s1 = next_stage 1 c.args.signals.now (no_stage c.args.out.now) (c.put_kind-a.ensures.value, c.put_kind-a.ensures.out_after) in
    let s2 = next_stage 2 c.args.variables.now s1 (c.put_kind-b.ensures.value, c.put_kind-b.ensures.out_after) in
    let s3 = next_stage 3 c.args.processes.now s2 (c.put_kind-c.ensures.value, c.put_kind-c.ensures.out_after) in
    let s4 = next_stage 4 c.args.drivers.now s3 (c.put_kind-d.ensures.value, c.put_kind-d.ensures.out_after) in
    let s5 = next_stage 5 c.args.nodes.now s4 (c.put_kind-e.ensures.value, c.put_kind-e.ensures.out_after) in
    let s6 = next_stage 6 c.args.statements.now s5 (c.put_kind.ensures.value, c.put_kind.ensures.out_after) in
    all_staged _ s6
