-- Assumes nothing.
use native.Mathlib.Omega.{arith}
use Rattle.text_model.proofs.PutLaws.{all_there, parts_put}
use Rattle.text_model.proofs.put_model.Goals as goal

pub slice_bounds-pack-end : goal.slice_bounds-pack-end
slice_bounds-pack-end c = omega (arith, all_there _ c.requires.given_fits c.byte_or_zero.ensures c.byte_or_zero-2.ensures c.byte_or_zero-3.ensures)

pub slice_bounds-pack-end-2 : goal.slice_bounds-pack-end-2
slice_bounds-pack-end-2 c = omega (arith, all_there _ c.requires.given_fits c.byte_or_zero.ensures c.byte_or_zero-2.ensures c.byte_or_zero-3.ensures)

pub slice_bounds-pack-end-4 : goal.slice_bounds-pack-end-4
slice_bounds-pack-end-4 c = omega (arith, all_there _ c.requires.given_fits c.byte_or_zero.ensures c.byte_or_zero-2.ensures c.byte_or_zero-3.ensures)

pub returns : goal.returns
returns c p x y = parts_put _ c.requires.given_fits c.byte_or_zero.ensures c.byte_or_zero-2.ensures c.byte_or_zero-3.ensures p x y c.put_record.ensures c.pack.ensures
