-- The laws of generated objects and their programs.
use Rattle.std.specs.Prelude.{◌≡◌, ℕ, ◌+◌, ◌*◌, ◌≤◌, List, [], length, Ok, Some, slice_get}
use Rattle.rv_decode.specs.declared.ops.RvOp.{RvOp}
use Rattle.rv_decode.specs.Operations.{operation}
use Rattle.relocs.specs.Words.{word_at}
use Rattle.runs.specs.Machine.{Ends, does}
use Rattle.machine_state.specs.Ends.{Halt, no_host}
use Rattle.machine_state.specs.Memory.{Memory}
use Rattle.machine_state.specs.Start.{start_state}
use Rattle.blob_codec.specs.Grammar.{Container}
use Rattle.lift_blocks.specs.Operations.{Operation}
use Rattle.lift_blocks.specs.Listed.{IsLifted}
use Rattle.lift_blocks.specs.Step.{op_does}
use Rattle.lower.specs.Lowering.{lowered_blocks}
use Rattle.link_core.specs.Faults.{input_of, listed_faults, HasNoFault}
use Rattle.link_core.specs.Linked.{IsLinked}
use Rattle.link_core.specs.Runs.{image_of, machine_run}
use Rattle.generated.specs.Objects.{text}
use Rattle.generated_runs.specs.Inputs.{files_of, wanted_with, given_of}
use Rattle.generated_runs.specs.Lifted.{lifted}
use Rattle.generated_runs.specs.Operations.{operations}
use Rattle.generated_runs.specs.Program.{IsOneInstruction, instructions, program}
use Rattle.generated_runs.specs.Runs.{SpendsAll}

-- each word of a generated text is decoded to the operation meant
abbrev pub TextsAreOperations : Type 0
TextsAreOperations = (seed count at : ℕ) (op : RvOp) → slice_get (operations seed count) at ≡ Some op → operation (word_at (text seed count) (4 * at)) ≡ Ok op

-- the link of a generated object of at most 1,000,000 words is given the object meant
abbrev pub GeneratedIsGiven : Type 0
GeneratedIsGiven = (seed count stack : ℕ) → count ≤ 1000000 → input_of (files_of seed count) (wanted_with stack) ≡ given_of seed count stack

-- no fault of such an object, of its names, its layout, its code or its data is listed
abbrev pub NothingIsListed : Type 0
NothingIsListed = (seed count stack : ℕ) → count ≤ 1000000 → listed_faults (files_of seed count) (wanted_with stack) ≡ []

-- the operations of a generated object in code order are those of its text
abbrev pub GeneratedIsLifted : Type 0
GeneratedIsLifted = (seed count stack : ℕ) → count ≤ 1000000 → IsLifted (given_of seed count stack) (lifted seed count)

-- each operation of a generated text is one instruction
abbrev pub WordsAreInstructions : Type 0
WordsAreInstructions = (seed count at : ℕ) (op : Operation ℕ) → slice_get (lifted seed count).ops at ≡ Some op → IsOneInstruction op

-- The operations are lowered to one block, with an instruction for each.
pub record GeneratedIsLowered : Type 0 where
  pub program_is : (seed count : ℕ) → lowered_blocks (lifted seed count) ≡ program seed count
  pub size : (seed count : ℕ) → length (instructions seed count) ≡ count + 1

-- A generated object of at most 1,000,000 words is linked, unless an allocation fails: it has no fault, and its program isn't
-- too large.
abbrev pub GeneratedHasNoFault : Type 0
GeneratedHasNoFault = (seed count stack : ℕ) → count ≤ 1000000 → HasNoFault (files_of seed count) (wanted_with stack)

-- The program of a generated object of at most 1,000,000 words halts, with one gas spent for each word, one for the entry's
-- jump and one for the return.
abbrev pub GeneratedHalts : Type 0
GeneratedHalts =
    (seed count stack : ℕ) (c : Container) → count ≤ 1000000 → IsLinked (input_of (files_of seed count) (wanted_with stack)) c
    → SpendsAll (count + 2) (machine_run no_host tt c 0 [] (count + 2))

-- It halts with the registers and the memory that its operations leave, one after another, from the standard start.
abbrev pub GeneratedComputes : Type 0
GeneratedComputes =
    (seed count stack : ℕ) (c : Container) (registers : List ℕ) (memory : Memory) → count ≤ 1000000 → IsLinked (input_of (files_of seed count) (wanted_with stack)) c
    → (machine_run no_host tt c 0 [] (count + 2)).end ≡ Some (Halt registers memory)
    → does (op_does []) (lifted seed count).ops (start_state (image_of (given_of seed count stack)) []) ≡ Ends (Halt registers memory)
