-- The two runs: that of the objects, by steps, and that of the linked program, under gas.
use Rattle.std.specs.Prelude.{ℕ, List}
use Rattle.runs.specs.Runs.{Steps, MeteredRun, run}
use Rattle.machine_state.specs.Ends.{Event, End, Host}
use Rattle.machine_state.specs.Start.{Image, start_state}
use Rattle.symbols.specs.Wanted.{Given}
use Rattle.layout.specs.Addresses.{zero_pages}
use Rattle.relocs.specs.Images.{read_only_image, writable_image}
use Rattle.lift_blocks.specs.Listed.{entry_places, place}
use Rattle.lift_blocks.specs.Step.{source_step}
use Rattle.pvm_machine.specs.Started.{started}
use Rattle.pvm_machine.specs.Ran.{run_with}
use Rattle.blob_codec.specs.Grammar.{Container}

-- what the objects start with: their data, and a stack
abbrev pub image_of : Given → Image
image_of given = record {
  read_only = read_only_image given;
  writable = writable_image given;
  zero_pages = zero_pages given;
  stack = given.wanted.stack;
}

-- The first n steps of the objects, from the standard start with an argument, at the place of the entry with a number,
-- with a host and its state at the start.
abbrev pub source_run : {Held : Type 0} → Host Held → Held → Given → ℕ → List ℕ → ℕ → Steps Event End
source_run host held given entry argument n =
    run (source_step host given) n (record { at = place (entry_places given) entry; of = record { state = start_state (image_of given) argument; held = held } })

-- The container's run with so much gas, from the standard start with an argument, at the jump of the entry with a
-- number, with the same host: entry i begins at position 5 i (JAM Gray Paper 0.7.0, appendix A: invocations at 0, 5, 10
-- and so on).
abbrev pub machine_run : {Held : Type 0} → Host Held → Held → Container → ℕ → List ℕ → ℕ → MeteredRun Event End
machine_run host held c entry argument gas = run_with host held (started c entry argument gas)
