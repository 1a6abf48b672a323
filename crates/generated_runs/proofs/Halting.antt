-- The program of a generated object halts, and spends all of its gas.
use Rattle.std.proofs.Common.{◌≡◌, ℕ, ◌+◌, ◌<◌, ◌≤◌, [], length, Option, Some, refl, sym, ap, ◌∙◌, subst, arith}
use Rattle.runs.specs.Machine.{Ends}
use Rattle.runs.specs.Runs.{MeteredRun}
use Rattle.machine_state.specs.Ends.{Event, End, Halt, halt, no_host}
use Rattle.machine_state.specs.State.{State}
use Rattle.machine_state.specs.Start.{IsImage, start_state}
use Rattle.machine_state.specs.Laws.{StartIsGood}
use Rattle.blob_codec.specs.Grammar.{Container, IsContainer}
use Rattle.pvm_ops.specs.BlockList.{BlockList}
use Rattle.pvm_machine.specs.Laws.{EffectIsPlain}
use Rattle.symbols.specs.Wanted.{Given}
use Rattle.jump_table.specs.Assembly.{code_of}
use Rattle.jump_table.specs.Lengths.{AreLengths}
use Rattle.jump_table.specs.Laws.{IsAssemblable, AreEnded, IsPlaced, CodeIsPlaced}
use Rattle.lift_blocks.specs.Laws.{LiftedIsOne}
use Rattle.lower.specs.Lowering.{lowered_blocks}
use Rattle.lower.specs.Laws.{AllAreLowered, LoweredIsPlaceable}
use Rattle.link_core.specs.Faults.{input_of}
use Rattle.link_core.specs.Linked.{IsLinked, container_around, program_of}
use Rattle.link_core.specs.Runs.{image_of, machine_run}
use Rattle.generated_runs.specs.Inputs.{files_of, wanted_with, given_of}
use Rattle.generated_runs.specs.Lifted.{lifted}
use Rattle.generated_runs.specs.Program.{program}
use Rattle.generated_runs.specs.Laws.{GeneratedIsGiven, GeneratedIsLifted, WordsAreInstructions, GeneratedIsLowered, GeneratedHalts, GeneratedComputes}
use Rattle.generated_runs.proofs.Straight.{Halts, halts}

module _ (given_is : GeneratedIsGiven) (is_lifted : GeneratedIsLifted) (words : WordsAreInstructions) (is_lowered : GeneratedIsLowered) (one : LiftedIsOne) (placeable : LoweredIsPlaceable)
    (lower_each : AllAreLowered) (code_is_placed : CodeIsPlaced) (plain : EffectIsPlain) (start_is_good : StartIsGood) where
  -- the container that is linked has this program
  module _ (seed count stack : ℕ) (few : count ≤ 1000000) (c : Container) (linked : IsLinked (given_of seed count stack) c) where
    lowered-is : lowered_blocks linked.lifted ≡ program seed count
    lowered-is =
        ap lowered_blocks (one (given_of seed count stack) linked.lifted (lifted seed count) linked.is_lifted (is_lifted seed count stack few))
        ∙ is_lowered.program_is seed count

    container-is : c ≡ container_around (image_of (given_of seed count stack)) (program_of linked.lengths (program seed count))
    container-is = linked.container_is ∙ ap (λ (list : BlockList). container_around (image_of (given_of seed count stack)) (program_of linked.lengths list)) lowered-is

    lengths-are : AreLengths (program seed count) linked.lengths
    lengths-are = subst (λ (list : BlockList). AreLengths list linked.lengths) lowered-is linked.lengths_are

    can-be_placed : IsAssemblable (program seed count) × AreEnded (program seed count)
    can-be_placed = subst (λ (list : BlockList). IsAssemblable list × AreEnded list) lowered-is (placeable (given_of seed count stack) linked.lifted linked.is_lifted)

    small : length (code_of linked.lengths (program seed count)).bytes < 2147483648
    small = omega (arith, linked.small, ap (λ (c : Container). length c.program.code.bytes) container-is)

    placed : IsPlaced linked.lengths (program seed count) (code_of linked.lengths (program seed count))
    placed = code_is_placed linked.lengths (program seed count) can-be_placed.0 lengths-are.wide small

    image : IsImage (image_of (given_of seed count stack))
    image = (let fits : IsContainer (container_around (image_of (given_of seed count stack)) (program_of linked.lengths (program seed count))) = subst IsContainer container-is linked.fits in
        record { read_only = fits.read_only; writable = fits.writable; zero_pages = fits.zero_pages; stack = fits.stack })

    abbrev start : State
    start = start_state (image_of (given_of seed count stack)) []

    run : Halts seed count linked.lengths words (is_lifted seed count stack few).ops_fit lower_each plain can-be_placed.0 can-be_placed.1 placed (count + 2) (record { at = 0; of = record { state = start; held = tt } }) 0 start (count + 2)
    run =
        halts seed count linked.lengths words (is_lifted seed count stack few).ops_fit lower_each plain can-be_placed.0 can-be_placed.1 placed
        start (start_is_good (image_of (given_of seed count stack)) [] image (omega arith)) refl

    run-is : machine_run no_host tt c 0 [] (count + 2) ≡ record { events = []; end = Some (halt run.last); left = 0; begun = count + 2 }
    run-is = ap (λ (c : Container). machine_run no_host tt c 0 [] (count + 2)) container-is ∙ run.is

  -- the link of files is given the object meant
  meant : (seed count stack : ℕ) (c : Container) → count ≤ 1000000 → IsLinked (input_of (files_of seed count) (wanted_with stack)) c → IsLinked (given_of seed count stack) c
  meant seed count stack c few linked = subst (λ (given : Given). IsLinked given c) (given_is seed count stack few) linked

  pub generated-halts : GeneratedHalts
  generated-halts seed count stack c few linked =
      let of : IsLinked (given_of seed count stack) c = meant seed count stack c few linked in
      record { registers = (run seed count stack few c of).last.registers; memory = (run seed count stack few c of).last.memory; is = run-is seed count stack few c of }

  pub generated-computes : GeneratedComputes
  generated-computes seed count stack c registers memory few linked ends =
      let of : IsLinked (given_of seed count stack) c = meant seed count stack c few linked in
      let halts : ◌≡◌ {A = Option End} (Some (halt (run seed count stack few c of).last)) (Some (Halt registers memory)) = ap (λ (r : MeteredRun Event End). r.end) (sym (run-is seed count stack few c of)) ∙ ends in
      let same : halt (run seed count stack few c of).last ≡ Halt registers memory = cc in
      (run seed count stack few c of).computed ∙ ap (λ (end : End). Ends end) same
