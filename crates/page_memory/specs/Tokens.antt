-- The right to give a block of the heap back.
use mir.Syntax.{Ty}
use base.Fml.{Fml}
use denote.RawPtr.{Ptr}
use Rattle.std_heap.specs.contracts.Global as heap
use Rattle.std_heap.specs.contracts.GlobalAllocator.TheImpl.{ghosts}

-- the block at a pointer, which was allocated for a type, may be freed
abbrev pub may_free : (heap.the_row).Denot → Ty → Ptr → Fml
may_free alloc = ghosts.dealloc_token alloc
