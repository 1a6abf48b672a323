-- What a frame is after its bytes were borrowed to be changed.
use Rattle.std.specs.Prelude.{ℕ, List}
use Rattle.std.specs.Borrow.{Lends, MutBor, Fml, Array, u8}
use Rattle.page_memory.specs.declared.frames.Frame.{Frame}
use Rattle.page_memory.specs.contracts.frames.Frame.{the_row}

-- the frame with other bytes
abbrev pub with_bytes : Frame → List ℕ → Frame
with_bytes frame bytes = record frame { bytes = bytes }

-- the frame ends with the last bytes of the reference
abbrev pub LendsBytes : MutBor Frame → MutBor (List ℕ) → Fml
LendsBytes frame r = Lends the_row (Array u8 0) frame r (with_bytes frame.now)
