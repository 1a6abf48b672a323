-- The places of code, section by section, as they are listed.
use Rattle.std.specs.Prelude.{ℕ, List, Bool, true, false, not, length, Option, Some}
use Rattle.std.specs.List.{filter}
use Rattle.faults.specs.Present.{each_below}
use Rattle.symbols.specs.Parts.{object_at}
use Rattle.symbols.specs.Wanted.{Given, kept_objects}
use Rattle.relocs.specs.Places.{CodePlace, code_at, section_offsets}
use Rattle.elf_objects.specs.declared.parts.Relocation.{Relocation}
use Rattle.rv_decode.specs.declared.ops.RvOp.{RvOp}
use Rattle.rv_decode.specs.declared.ops.RvOp.TheVariants.{Jal, Jalr, Auipc}
use Rattle.symbols.specs.Faults.{has_effect}
use Rattle.relocs.specs.Kinds.{names_target}
use Rattle.relocs.specs.Pairs.{is_second}

-- it is no second word of a pair
abbrev pub is_first : Given → CodePlace → Bool
is_first given p = not (is_second given p)

unfoldable pub section_places : Given → ℕ → ℕ → List CodePlace
section_places given o s = filter (is_first given) (section_offsets (code_at given o s) o s)

abbrev pub object_places : Given → ℕ → List CodePlace
object_places given o = each_below (length (object_at (kept_objects given) o).sections) (section_places given o)

-- the places of code in code order
abbrev pub code_places_of : Given → List CodePlace
code_places_of given = each_below (length (kept_objects given)) (object_places given)

-- a relocation gives a target, or it changes something
abbrev pub test_of : Bool → Relocation → Bool
test_of true r = names_target r
test_of false r = has_effect r.kind

-- an operation, or a pair that begins with it, may keep a place in a register
abbrev pub may_link : Option RvOp → Bool
may_link (Some (Jal rd offset)) = true
may_link (Some (Jalr rd rs1 imm)) = true
may_link (Some (Auipc rd value)) = true
may_link op = false
