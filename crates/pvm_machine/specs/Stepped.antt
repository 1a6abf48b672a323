-- What steps under gas leave and answer (JAM Gray Paper 0.7.0, appendix A).
use Rattle.std.specs.Prelude.{◌≡◌, ℕ, zero, suc, ◌+◌, ◌-◌, ◌<◌, ◌≤◌, ◌==◌, if◌then◌else◌, length, Option, Some, None}
use Rattle.std.specs.FinMap as map
use Rattle.runs.specs.Machine.{Outcome, Next, Jump, Call, Ends}
use Rattle.runs.specs.Lockstep.{Fetched}
use Rattle.machine_state.specs.State.{State}
use Rattle.machine_state.specs.Ends.{End, Halt, Panic, Fault, Unanswered, BadReply}
use Rattle.machine_state.specs.Start.{pages_of}
use Rattle.pvm_machine.specs.Machine.{Machine}
use Rattle.pvm_machine.specs.Step.{FetchedInstr, does_at, instr_at}
use Rattle.pvm_machine.specs.declared.answers.Step.{Step}
use Rattle.pvm_machine.specs.declared.answers.Step.TheVariants as answer

-- the machine after a step, and the answer
pub record Stepped : Type 0 where
  pub machine : Machine
  pub answer : Step

-- the machine has gone to a position, with a state
abbrev pub gone : Machine → ℕ → State → Step → Stepped
gone m position s how = record { machine = record m { counter = position; state = s }; answer = how }

-- the machine stays at the instruction, which changed nothing
abbrev pub stayed : Machine → Step → Stepped
stayed m how = record { machine = m; answer = how }

-- An end, at which the machine stays. A halt leaves the registers that it ends with; what panics or faults changes
-- nothing. The other two are the host's ends and no instruction's.
abbrev pub ended : Machine → End → Stepped
ended m (Halt registers memory) = stayed (record m { state = record m.state { registers = registers; memory = memory } }) answer.Halt
ended m (Panic memory) = stayed m answer.Panic
ended m (Fault address memory) = stayed m (answer.Fault address)
ended m (Unanswered number memory) = stayed m answer.Panic
ended m (BadReply line address memory) = stayed m answer.Panic

-- an instruction came out so, and `next` is the position after it: there the machine is for a host call too
abbrev pub after_outcome : Machine → ℕ → Outcome ℕ State End → Stepped
after_outcome m next (Next s) = gone m next s answer.Next
after_outcome m next (Jump target s) = gone m target s answer.Next
after_outcome m next (Call number s) = gone m next s (answer.Host number)
after_outcome m next (Ends end) = ended m end

-- the instruction at the counter is executed, and where none is, the machine panics as at a trap
abbrev pub begun : Machine → Option (Fetched FetchedInstr ℕ) → Stepped
begun m None = stayed m answer.Panic
begun m (Some f) = after_outcome m f.next (does_at m.table m.code f.instr m.state)

-- An instruction is begun only with gas above 0, and costs one, whatever its result; with none left nothing changes.
-- How the host would answer does not matter: the step ends where the host is called.
unfoldable pub stepped : Machine → Stepped
stepped m = if m.gas == 0 then stayed m answer.OutOfGas else begun (record m { gas = m.gas - 1 }) (instr_at m.code m.counter)

-- The step would map pages of the heap: its instruction is an `sbrk` that leads the heap's end into another page.
abbrev pub MapsPages : Machine → Type 0
MapsPages m = pages_of m.state.heap_top < pages_of (stepped m).machine.state.heap_top

-- A step leaves and answers what is defined. Only where it would map pages an allocation can fail, and then it changes
-- nothing.
abbrev pub IsStep : Machine → Machine → Step → Type 0
IsStep old new answer.Memory = (new ≡ old) × MapsPages old
IsStep old new how = record { machine = new; answer = how } ≡ stepped old

-- after a step that goes on to the next instruction come more steps, after any other none
abbrev pub go_on : (Machine → Stepped) → Machine → Step → Stepped
go_on more m answer.Next = more m
go_on more m how = stayed m how

-- steps until one does not go on to the next instruction, at most n + 1
unfoldable pub repeated : ℕ → Machine → Stepped
repeated zero m = stepped m
repeated (suc n) m = go_on (repeated n) (stepped m).machine (stepped m).answer

-- steps until one does not go on: each that does costs gas
abbrev pub all_steps : Machine → Stepped
all_steps m = repeated m.gas m

-- the given number of steps leads from a machine to another, and each goes on to the next instruction
abbrev pub LeadsTo : ℕ → Machine → Machine → Type 0
LeadsTo zero old new = new ≡ old
LeadsTo (suc n) old new = ((stepped old).answer ≡ answer.Next) × LeadsTo n (stepped old).machine new

-- steps that go on lead from a machine to another
pub record Reached (old new : Machine) : Type 0 where
  pub steps : ℕ
  pub leads : LeadsTo steps old new

-- Repeated steps leave and answer what is defined. Where an allocation fails, they led to a step that would map pages.
abbrev pub AreSteps : Machine → Machine → Step → Type 0
AreSteps old new answer.Memory = Reached old new × MapsPages new
AreSteps old new how = record { machine = new; answer = how } ≡ all_steps old

-- what a step with an answer costs: 1, where an instruction was begun
abbrev pub Costs : Step → ℕ → ℕ → Type 0
Costs answer.Next old new = old ≡ new + 1
Costs answer.Halt old new = old ≡ new + 1
Costs answer.Panic old new = old ≡ new + 1
Costs (answer.Fault address) old new = old ≡ new + 1
Costs answer.OutOfGas old new = (old ≡ 0) × (new ≡ 0)
Costs (answer.Host number) old new = old ≡ new + 1
Costs answer.Memory old new = old ≡ new

-- What no step changes: the program, how many registers there are, how far the heap may grow, and how many pages the memory
-- may have. The heap's end only rises, and the gas only falls. The memory has no more pages than it may, if it had no more before. Without a heap,
-- the heap's end and the number of pages stay.
pub record Keeps (old new : Machine) : Type 0 where
  pub table : new.table ≡ old.table
  pub code : new.code ≡ old.code
  pub registers : length new.state.registers ≡ length old.state.registers
  pub heap_bound : new.state.heap_bound ≡ old.state.heap_bound
  pub frame_limit : new.state.frame_limit ≡ old.state.frame_limit
  pub heap_top : old.state.heap_top ≤ new.state.heap_top
  pub gas : new.gas ≤ old.gas
  pub within : map.len old.state.memory ≤ old.state.frame_limit → map.len new.state.memory ≤ new.state.frame_limit
  pub frames : old.state.heap_bound ≡ 0 → map.len new.state.memory ≡ map.len old.state.memory
  pub heap_end : old.state.heap_bound ≡ 0 → new.state.heap_top ≡ old.state.heap_top
