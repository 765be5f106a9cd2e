use borrow.Author.Rules.{rules}
use Rattle.values.specs.Resolve.{entry_of}
use Rattle.values.proofs.entry.Goals as goal

pub offset_bounds-rows-n : goal.offset_bounds-rows-n
unfolding entry_of
offset_bounds-rows-n c = search rules

pub offset_bounds-rows-n-2 : goal.offset_bounds-rows-n-2
unfolding entry_of
offset_bounds-rows-n-2 c = search rules

pub bounds-rows-n : goal.bounds-rows-n
unfolding entry_of
bounds-rows-n c = search rules

pub bounds-rows-n-2 : goal.bounds-rows-n-2
unfolding entry_of
bounds-rows-n-2 c = search rules

pub returns : goal.returns
unfolding entry_of
returns c = search rules
