-- The result of a generation: a generated object is linked, and its program is run.
use Rattle.std.specs.Prelude.{◌≡◌, ℕ, ◌+◌, List, [], length, Some}
use Rattle.std.specs.Io.KnownBytes.{Appends}
use Rattle.outside.specs.Outside.{Rose, AppendsPrefix}
use Rattle.machine_state.specs.Ends.{Halt, no_host}
use Rattle.machine_state.specs.Memory.{Memory}
use Rattle.blob_codec.specs.Grammar.{Container}
use Rattle.symbols.specs.Wanted.{Wanted}
use Rattle.link_core.specs.Faults.{input_of, HasNoFault}
use Rattle.link_core.specs.Linked.{IsLinked}
use Rattle.link_core.specs.Runs.{machine_run}
use Rattle.generated_runs.specs.Inputs.{files_of, wanted_with}
use Rattle.polkatool_cmd.specs.GenerateWords.{GenerateCommand}
use Rattle.polkatool_cmd.specs.Lines.{generated_line}
use Rattle.polkatool_cmd.specs.LinkWords.{default_stack}
use Rattle.polkatool_cmd.specs.Snapshot.{Stream}
use Rattle.polkatool_cmd.specs.declared.answer.Answer.{Answer}
use Rattle.polkatool_cmd.specs.declared.answer.Answer.TheVariants as answers

-- the one file of the link: the generated object
abbrev pub generated_files : GenerateCommand → List (List ℕ)
generated_files asked = files_of asked.seed asked.count

-- what is wanted of it: its entry `main` and a stack, as of a link by default
abbrev pub generated_wanted : Wanted
generated_wanted = wanted_with default_stack

-- the gas of its run: one for each word, one for the entry's jump and one for the return
abbrev pub generated_gas : GenerateCommand → ℕ
generated_gas asked = asked.count + 2

-- The generated object has no fault, and this is its linked container. The container's run, without a host, halts with all
-- of its gas spent, and leaves these registers.
pub record HasHalted (asked : GenerateCommand) (container : Container) (registers : List ℕ) : Type 0 where
  pub no_fault : HasNoFault (generated_files asked) generated_wanted
  pub is_linked : IsLinked (input_of (generated_files asked) generated_wanted) container
  pub memory : Memory
  pub halts : machine_run no_host tt container 0 [] (generated_gas asked) ≡ record { events = []; end = Some (Halt registers memory); left = 0; begun = generated_gas asked }

-- the line of a generation, by the container and the registers that its run left
abbrev pub line_of : GenerateCommand → Container → List ℕ → List ℕ
line_of asked container registers = generated_line asked.seed asked.count (length container.program.code.bytes) (generated_gas asked) registers

-- The run halted, and its line was put.
pub record HasGenerated (asked : GenerateCommand) (old new : Stream) : Type 0 where
  pub container : Container
  pub registers : List ℕ
  pub has_halted : HasHalted asked container registers
  pub seen : Appends old.text new.text (line_of asked container registers)
  pub puts : new.puts ≡ old.puts

-- A put of the line failed after a prefix of it.
pub record FailedGenerated (asked : GenerateCommand) (old new : Stream) : Type 0 where
  pub container : Container
  pub registers : List ℕ
  pub has_halted : HasHalted asked container registers
  pub seen : AppendsPrefix old.text new.text (line_of asked container registers)
  pub cause : Rose old.puts new.puts

-- The result of a generation: the line of the run is written; or a write failed; or an allocation failed, before anything
-- was written. Every generated object is linked, and every run halts.
abbrev pub GenerateResultsIn : GenerateCommand → Answer → Stream → Stream → Type 0
GenerateResultsIn asked answers.Done old new = HasGenerated asked old new
GenerateResultsIn asked answers.Panicked old new = ⊥
GenerateResultsIn asked answers.Faulted old new = ⊥
GenerateResultsIn asked answers.OutOfGas old new = ⊥
GenerateResultsIn asked answers.Unanswered old new = ⊥
GenerateResultsIn asked answers.BadReply old new = ⊥
GenerateResultsIn asked (answers.Refused fault) old new = ⊥
GenerateResultsIn asked answers.Usage old new = ⊥
GenerateResultsIn asked answers.FileFault old new = FailedGenerated asked old new
GenerateResultsIn asked answers.Memory old new = new ≡ old
