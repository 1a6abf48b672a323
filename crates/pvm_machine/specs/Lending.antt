-- What a core and a machine are after their memory was borrowed to be changed.
use Rattle.std.specs.Prelude.{[]}
use mir.Syntax.{named}
use Rattle.std.specs.Borrow.{Lends, MutBor, Fml}
use Rattle.machine_state.specs.Memory.{Memory}
use Rattle.machine_state.specs.State.{with_memory}
use Rattle.page_memory.specs.contracts.memory.Memory as memory
use Rattle.pvm_machine.specs.contracts.cores.Core as core
use Rattle.pvm_machine.specs.contracts.machine.Machine as machine
use Rattle.pvm_machine.specs.Machine.{Core, Machine}

-- the core with another memory
abbrev pub core_with : Core → Memory → Core
core_with c pages = record c { state = with_memory c.state pages }

-- the core ends with the last memory of the reference, and is else as before
abbrev pub LendsCoreMemory : MutBor Core → MutBor Memory → Fml
LendsCoreMemory c r = Lends core.the_row memory.the_row c r (core_with c.now)

-- the machine with another memory
abbrev pub machine_with : Machine → Memory → Machine
machine_with m pages = record m { state = with_memory m.state pages }

-- the machine ends with the last memory of the reference, and is else as before
abbrev pub LendsMemory : MutBor Machine → MutBor Memory → Fml
LendsMemory m r = Lends (machine.the_row (record { mir = named 1; lft = [] })) memory.the_row m r (machine_with m.now)
