-- What an inner machine is after its memory was borrowed to be changed.
use Rattle.std.specs.Prelude.{ℕ, Option}
use Rattle.std.specs.FinMap as map
use Rattle.std.specs.Borrow.{Lends, LendsIf, MutBor, Fml}
use Rattle.machine_state.specs.Memory.{Memory}
use Rattle.page_memory.specs.contracts.memory.Memory.{the_row as memory_row}
use Rattle.inner_machines.specs.contracts.slots.Slots.{the_row as slots_row}
use Rattle.inner_machines.specs.contracts.inner.Inner.{the_row}
use Rattle.inner_machines.specs.Inner.{Inner, Inners}

abbrev pub with_memory : Inner → Memory → Inner
with_memory inner memory = record inner { memory = memory }

-- the machine ends with the last memory of the reference
abbrev pub LendsMemory : MutBor Inner → MutBor Memory → Fml
LendsMemory inner memory = Lends the_row memory_row inner memory (with_memory inner.now)

abbrev pub LendsInner : MutBor Inners → ℕ → Option (MutBor Inner) → Fml
LendsInner inners number inner = LendsIf slots_row the_row inners inner (λ (w : Inner). map.insert inners.now number w) inners.now
