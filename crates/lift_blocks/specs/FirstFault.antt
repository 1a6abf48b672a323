-- What the first fault of code is found from.
use Rattle.std.specs.Prelude.{◌≡◌, ℕ, ◌<◌, ◌-◌, ◌%◌, ◌^◌, List, [], ◌∷◌, length, Option, Some, None, Bool, true, false, not, ◌&&◌, nat_eq, if◌then◌else◌}
use Rattle.std.specs.List.{filter, list_any}
use Rattle.faults.specs.Present.{each_below}
use Rattle.elf_objects.specs.declared.parts.Relocation.{Relocation}
use Rattle.rv_decode.specs.declared.ops.RvOp.{RvOp}
use Rattle.rv_decode.specs.declared.ops.RvOp.TheVariants as rv
use Rattle.symbols.specs.declared.place.Place.{Place}
use Rattle.symbols.specs.declared.place.Place.TheVariants as names
use Rattle.symbols.specs.Faults.{has_effect}
use Rattle.symbols.specs.Resolution.{entry_place}
use Rattle.symbols.specs.Wanted.{Given}
use Rattle.layout.specs.Slots.{is_among}
use Rattle.relocs.specs.CodeFaults.{is_entry_at, own_target}
use Rattle.relocs.specs.ByOffset.{AreTables}
use Rattle.relocs.specs.Pairs.{relocation_is_at, relocations_at, is_none_of}
use Rattle.relocs.specs.Places.{CodePlace, Code}
use Rattle.relocs.specs.Sources.{IsSourcesOf}
use Rattle.relocs.specs.Words.{raw_at}
use Rattle.lift_blocks.specs.declared.first_fault.CodeFaults.{CodeFaults}

-- what the names of the entries stand for, in their order
abbrev pub entries_of : Given → List Place
entries_of given = each_below (length given.wanted.entries) (λ e. entry_place given e ∷ [])

-- an entry is at an offset of a section
abbrev pub has_entry : Given → ℕ → ℕ → ℕ → Bool
has_entry given o s offset = list_any (is_entry_at o s offset) (entries_of given)

-- the places of the entries are among these, and no other places of code
pub record AreEntries (given : Given) (places : List Place) : Type 0 where
  pub each : (o s offset : ℕ) → is_among places (names.Code o s offset) ≡ has_entry given o s offset

-- the offset of a relocation with an effect, if no multiple of four; else 2^64 - 1
abbrev pub unaligned_offset : Relocation → ℕ
unaligned_offset r = if has_effect r.kind && not (nat_eq (r.offset % 4) 0) then r.offset else 2 ^ 64 - 1

-- below a limit, what changes something is at multiples of four
pub record AreAligned (relocations : List Relocation) (limit : ℕ) : Type 0 where
  pub below : (offset : ℕ) → offset < limit → nat_eq (offset % 4) 0 ≡ false → filter (relocation_is_at offset) relocations ≡ []

-- an operation without a target that is no auipc, or no operation
abbrev pub is_complete : Option RvOp → Bool
is_complete None = true
is_complete (Some (rv.Auipc rd value)) = false
is_complete (Some (rv.Jal rd offset)) = false
is_complete (Some (rv.Branch cond rs1 rs2 offset)) = false
is_complete (Some op) = true

-- at an offset is such an operation, and no relocation
abbrev pub is_bare : Given → ℕ → ℕ → ℕ → Bool
is_bare given o s offset = is_complete (raw_at given (Code o s offset)) && is_none_of (relocations_at given o s offset)

-- an operation that needs nothing else, and is no word of a pair
abbrev pub is_alone : Option RvOp → Bool
is_alone None = false
is_alone (Some (rv.Auipc rd value)) = false
is_alone (Some (rv.Jal rd offset)) = false
is_alone (Some (rv.Jalr rd rs1 imm)) = false
is_alone (Some (rv.Branch cond rs1 rs2 offset)) = false
is_alone (Some op) = true

-- at an offset is such an operation, and no relocation
abbrev pub is_plain : Given → ℕ → ℕ → ℕ → Bool
is_plain given o s offset = is_alone (raw_at given (Code o s offset)) && is_none_of (relocations_at given o s offset)

-- an operation that is no jalr, with which alone a pair ends
abbrev pub ends_no_pair : Option RvOp → Bool
ends_no_pair None = false
ends_no_pair (Some (rv.Jalr rd rs1 imm)) = false
ends_no_pair (Some op) = true

-- where the word of a branch or of a jal leads
abbrev pub word_target : ℕ → ℕ → ℕ → Option RvOp → Option CodePlace
word_target o s offset None = None
word_target o s offset (Some op) = own_target o s offset op

-- there is such an operation at a place
abbrev pub leads_on : Given → Option CodePlace → Bool
leads_on given None = false
leads_on given (Some p) = ends_no_pair (raw_at given p)

-- at an offset is a branch or a jal, and no relocation, and where it leads is such an operation
abbrev pub is_direct : Given → ℕ → ℕ → ℕ → Bool
is_direct given o s offset = leads_on given (word_target o s offset (raw_at given (Code o s offset))) && is_none_of (relocations_at given o s offset)

-- the objects of a link, with what their relocations mean and the places of their entries
pub record IsCodeOf (given : Given) (code : CodeFaults) : Type 0 where
  pub tables_are : AreTables given code.reader.objects.now code.reader.tables.now
  pub sources_are : IsSourcesOf given code.sources
  pub entries_are : AreEntries given code.entries.now
