use Rattle.std.proofs.Common.{arith}
use Rattle.link_core.proofs.PartsLaws.{bounds_at, there_at, len_at}
use Rattle.link_core.proofs.bundle.part_in.Goals as goal

pub slice_bounds-result-count : goal.slice_bounds-result-count
slice_bounds-result-count c = rw c.start_of-start.ensures (bounds_at c.args.ends.now _ c.args.at c.requires.at c.requires.rise).up

pub slice_bounds-result-start : goal.slice_bounds-result-start
slice_bounds-result-start c = let b = bounds_at c.args.ends.now _ c.args.at c.requires.at c.requires.rise in rw c.start_of-start.ensures (omega (arith, b.up, b.within))

pub slice_bounds-result-end : goal.slice_bounds-result-end
slice_bounds-result-end c = (bounds_at c.args.ends.now _ c.args.at c.requires.at c.requires.rise).within

pub returns-clause-there : goal.returns-clause-there
returns-clause-there c = rw c.start_of-start.ensures (there_at c.args.ends.now c.args.bytes.now c.args.at c.requires.at)

pub returns-clause-len : goal.returns-clause-len
returns-clause-len c = rw c.start_of-start.ensures (len_at c.args.ends.now c.args.bytes.now c.args.at c.requires.at c.requires.rise)
