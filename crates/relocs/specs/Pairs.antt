-- Pairs: an auipc and the jalr after it that a CALL makes one operation; and the places, which are the offsets of code that aren't
-- the second word of a pair, and those of the stubs.
use Rattle.std.specs.Prelude.{ℕ, ◌+◌, ◌-◌, List, [], ◌∷◌, ◌++◌, length, Option, Some, Bool, true, false, not, ◌&&◌, ◌==◌, nat_eq, nat_le, if◌then◌else◌}
use Rattle.std.specs.List.{filter, filter_map, list_any}
use Rattle.faults.specs.First.{where_true}
use Rattle.faults.specs.Present.{each_below}
use Rattle.elf_objects.specs.declared.parts.Relocation.{Relocation}
use Rattle.rv_decode.specs.declared.ops.Reg.{Reg}
use Rattle.rv_decode.specs.declared.ops.Reg.TheVariants.{Zero, R}
use Rattle.rv_decode.specs.declared.ops.RvOp.{RvOp}
use Rattle.rv_decode.specs.declared.ops.RvOp.TheVariants.{Auipc, Jalr}
use Rattle.symbols.specs.declared.place.Place.{Place}
use Rattle.symbols.specs.declared.place.Place.TheVariants as names
use Rattle.symbols.specs.Faults.{has_effect}
use Rattle.symbols.specs.Wanted.{Given}
use Rattle.symbols.specs.Resolution.{resolution}
use Rattle.layout.specs.Slots.{each_section, loaded_relocations}
use Rattle.relocs.specs.Kinds.{kind_of, is_call, names_target}
use Rattle.relocs.specs.Places.{CodePlace, Code, Stub, Nowhere, code_offsets, has}
use Rattle.relocs.specs.Words.{raw_at}

-- a relocation is at an offset, and changes something
abbrev pub relocation_is_at : ℕ → Relocation → Bool
relocation_is_at offset r = has_effect r.kind && nat_eq r.offset offset

-- those of a section that do, in table order
abbrev pub relocations_at : Given → ℕ → ℕ → ℕ → List Relocation
relocations_at given o s offset = filter (relocation_is_at offset) (loaded_relocations given o s)

abbrev pub same_register : Reg → Reg → Bool
same_register Zero Zero = true
same_register (R n) (R m) = nat_eq n m
same_register a b = false

abbrev pub jumps_by : Reg → Option RvOp → Bool
jumps_by temp (Some (Jalr rd rs1 imm)) = same_register temp rs1
jumps_by temp op = false

-- an auipc, and after it a jalr by its register
abbrev pub joins : Option RvOp → Option RvOp → Bool
joins (Some (Auipc temp value)) second = jumps_by temp second
joins first second = false

abbrev pub is_none_of : List Relocation → Bool
is_none_of [] = true
is_none_of (r ∷ rs) = false

-- A CALL may be at an offset: there is an auipc, and after it a jalr by its register that no relocation changes.
abbrev pub can_call : Given → ℕ → ℕ → ℕ → Bool
can_call given o s offset =
    joins (raw_at given (Code o s offset)) (raw_at given (Code o s (offset + 4)))
    && is_none_of (relocations_at given o s (offset + 4))

-- there is a CALL among these
abbrev pub has_call : List Relocation → Bool
has_call relocations = list_any (λ r. is_call (kind_of r.kind)) relocations

-- A pair begins at an offset: a CALL is where one may be. Other relocations there don't undo the pair.
unfoldable pub is_pair_at : Given → ℕ → ℕ → ℕ → Bool
is_pair_at given o s offset = can_call given o s offset && has_call (relocations_at given o s offset)

abbrev pub is_pair : Given → CodePlace → Bool
is_pair given (Code o s offset) = is_pair_at given o s offset
is_pair given p = false

-- it is the second word of a pair
abbrev pub is_second : Given → CodePlace → Bool
is_second given (Code o s offset) = nat_le 4 offset && is_pair_at given o s (offset - 4)
is_second given p = false

-- what the symbols of those relocations of a section stand for that pass a test
abbrev pub named_if : (Relocation → Bool) → Given → ℕ → Relocation → Option Place
named_if test given o r = where_true (test r) (resolution given o r.symbol)

abbrev pub named_in : (Relocation → Bool) → Given → ℕ → ℕ → List Place
named_in test given o s = filter_map (named_if test given o) (loaded_relocations given o s)

abbrev pub named_by : (Relocation → Bool) → Given → List Place
named_by test given = each_section given (named_in test given)

abbrev pub is_import : ℕ → Place → Bool
is_import i (names.Import j) = i == j
is_import i place = false

abbrev pub is_absent : Place → Bool
is_absent names.Absent = true
is_absent place = false

-- the two places of an import's stub, where a relocation names the import
abbrev pub import_stub : Given → ℕ → List CodePlace
import_stub given i = if list_any (is_import i) (named_by (λ r. has_effect r.kind) given) then Stub i 0 ∷ Stub i 1 ∷ [] else []

-- the place of the trap stub, where a branch, a jal or a pair leads to nothing
abbrev pub trap_stub : Given → CodePlace
trap_stub given = Stub (length given.wanted.imports) 0

abbrev pub trap_stubs : Given → List CodePlace
trap_stubs given = if list_any is_absent (named_by names_target given) then trap_stub given ∷ [] else []

-- the places of the stubs: those of imports in their order, and the trap
abbrev pub stub_places : Given → List CodePlace
stub_places given = each_below (length given.wanted.imports) (import_stub given) ++ trap_stubs given

-- all places, in code order: the one list that all other lists of places are taken from
unfoldable pub all_places : Given → List CodePlace
all_places given = filter (λ p. not (is_second given p)) (code_offsets given) ++ stub_places given

-- it is a place
abbrev pub is_place : Given → CodePlace → Bool
is_place given p = has (all_places given) p

-- the place after the operation at a place
abbrev pub word_after : Bool → ℕ → ℕ → ℕ → CodePlace
word_after pair o s offset = Code o s (offset + (if pair then 8 else 4))

abbrev pub next_place : Given → CodePlace → CodePlace
next_place given (Code o s offset) = word_after (is_pair_at given o s offset) o s offset
next_place given (Stub n at) = Stub n (at + 1)
next_place given Nowhere = Nowhere
