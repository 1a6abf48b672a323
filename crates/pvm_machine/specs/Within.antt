-- What the steps of a machine without a heap keep: how many pages it has, and that what it names are words.
use Rattle.std.specs.Prelude.{◌≡◌, ◌<◌, ◌≤◌, ◌^◌, length}
use Rattle.std.specs.FinMap as map
use Rattle.pvm_machine.specs.Machine.{Machine}
use Rattle.pvm_machine.specs.Stepped.{Stepped, all_steps}
use Rattle.pvm_machine.specs.declared.answers.Step.{Step}
use Rattle.pvm_machine.specs.declared.answers.Step.TheVariants as answer

-- the address or the number in an answer is a word
abbrev pub NamesWord : Step → Type 0
NamesWord (answer.Fault address) = address < 2 ^ 64
NamesWord (answer.Host number) = number < 2 ^ 64
NamesWord how = Unit {0}

-- as many pages as before, and words for the counter and in the answer
pub record IsWithin (m : Machine) (r : Stepped) : Type 0 where
  pub pages : map.len r.machine.state.memory ≡ map.len m.state.memory
  pub counter : r.machine.counter < 2 ^ 64
  pub names : NamesWord r.answer

-- this holds of all steps of a machine without a heap, whose code has at most 2^32 bytes
abbrev pub StepsStayWithin : Type 0
StepsStayWithin = (m : Machine) → m.state.heap_bound ≡ 0 → m.counter < 2 ^ 64 → length m.code.bytes ≤ 2 ^ 32 → IsWithin m (all_steps m)
