-- What a linked program is.
use Rattle.std.specs.Prelude.{◌≡◌, ℕ, ◌≤◌, ◌^◌, List, length}
use Rattle.machine_state.specs.Start.{Image}
use Rattle.symbols.specs.Wanted.{Given}
use Rattle.relocs.specs.Images.{Images}
use Rattle.relocs.specs.Places.{CodePlace}
use Rattle.relocs.specs.AddressMap.{needed_places}
use Rattle.lift_blocks.specs.Listed.{Lifted, IsLifted}
use Rattle.lower.specs.Lowering.{lowered_blocks}
use Rattle.pvm_ops.specs.BlockList.{BlockList}
use Rattle.jump_table.specs.Assembly.{code_of, table_of, width_of}
use Rattle.jump_table.specs.Lengths.{AreLengths}
use Rattle.jump_table.specs.Assembling.{AssembledCode}
use Rattle.blob_codec.specs.Grammar.{Program, Container, IsContainer, container_bytes}
use Rattle.link_core.specs.Agrees.{Agrees}
use Rattle.link_core.specs.MapText.{map_text}
use Rattle.link_core.specs.Runs.{image_of}

-- the program of a list of blocks, where the offsets have these lengths
abbrev pub program_of : List ℕ → BlockList → Program
program_of lengths list = record { table = table_of lengths list; width = width_of (table_of lengths list); code = code_of lengths list }

-- the container of what a program starts with and of the program itself
abbrev pub container_around : Image → Program → Container
container_around image program = record {
  read_only = image.read_only;
  writable = image.writable;
  zero_pages = image.zero_pages;
  stack = image.stack;
  program = program;
}

-- the container of the objects' data and of the operations in code order
abbrev pub container_of : Given → List ℕ → Lifted → Container
container_of given lengths lifted = container_around (image_of given) (program_of lengths (lowered_blocks lifted))

-- the container of data and of code, as the code writes it
abbrev pub container_with : Given → Images → AssembledCode → Container
container_with given images assembled =
    container_around (record (image_of given) { read_only = images.read_only; writable = images.writable })
    (record { table = assembled.table; width = assembled.width; code = assembled.code })

-- The container is that of the objects: their data at their addresses, and their operations in code order, cut into
-- blocks, lowered and placed with the shortest offsets that are wide enough. So it is determined by what the link was
-- given.
pub record IsLinked (given : Given) (c : Container) : Type 0 where
  pub lifted : Lifted
  pub is_lifted : IsLifted given lifted
  pub lengths : List ℕ
  pub lengths_are : AreLengths (lowered_blocks lifted) lengths
  pub container_is : c ≡ container_of given lengths lifted
  pub fits : IsContainer c
  pub small : length c.program.code.bytes ≤ 2 ^ 25

-- a linked program: the bytes of its container, its address map, and its map as text
pub record Linked : Type 0 where
  pub container : List ℕ
  pub map : List CodePlace
  pub text : List ℕ

-- the bytes are the linked program's container, which means what the objects mean, with its maps
pub record HoldsLinked (given : Given) (linked : Linked) : Type 0 where
  pub container : Container
  pub spelled : linked.container ≡ container_bytes container
  pub is_linked : IsLinked given container
  pub agrees : Agrees given container
  pub map_is : linked.map ≡ needed_places given
  pub text_is : linked.text ≡ map_text given is_linked.lengths is_linked.lifted
