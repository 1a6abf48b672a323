-- What the relocations of code give to the operations at their places, and their faults (RISC-V ELF psABI, "Relocations").
use Rattle.std.specs.Prelude.{ℕ, zero, min, List, [], ◌∷◌, ◌++◌, length, Option, Some, None, Bool, true, false, not, ◌&&◌, nat_eq, nat_lt, if◌then◌else◌, ℤ, pos, ◌*ℤ◌}
use Rattle.std.specs.List.{filter_map, find}
use Rattle.std.specs.Option.{unwrap_or}
use Rattle.faults.specs.First.{◌or_else◌, where_true}
use Rattle.elf_objects.specs.declared.parts.Relocation.{Relocation}
use Rattle.rv_decode.specs.declared.ops.RvOp.{RvOp}
use Rattle.symbols.specs.declared.place.Place.{Place}
use Rattle.symbols.specs.declared.place.Place.TheVariants as names
use Rattle.symbols.specs.Faults.{has_effect}
use Rattle.symbols.specs.Wanted.{Given}
use Rattle.symbols.specs.Resolution.{resolution}
use Rattle.layout.specs.Addresses.{slot_of}
use Rattle.relocs.specs.declared.kinds.Kind.{Kind}
use Rattle.relocs.specs.declared.kinds.Kind.TheVariants.{Branch, Jal, Call, GotHigh, PcHigh, PcLow, PcLowStore, High, Low, LowStore}
use Rattle.relocs.specs.declared.operand.Operand.{Operand}
use Rattle.relocs.specs.declared.operand.Operand.TheVariants.{Nothing, Value, Target}
use Rattle.relocs.specs.declared.fault.TheConstants.{WRONG_RELOCATION, MISSING_HIGH, VALUE_OUT_OF_RANGE}
use Rattle.relocs.specs.Kinds.{kind_of, may_change, is_auipc, gives_target, is_pc_high, is_pc_low}
use Rattle.relocs.specs.Places.{CodePlace, Code}
use Rattle.relocs.specs.Words.{raw_at}
use Rattle.relocs.specs.Pairs.{relocations_at, can_call}
use Rattle.relocs.specs.AddressMap.{place_at}
use Rattle.relocs.specs.Values.{value_of, high, low, is_high_low, address_fault, target_fault}

-- ---- where a relocation may be

abbrev pub is_zero : ℤ → Bool
is_zero (pos zero) = true
is_zero z = false

-- what a kind needs besides its operation: CALL the jalr after the auipc, and GOT_HI20 the addend 0
abbrev pub meets : Kind → Given → ℕ → ℕ → Relocation → Bool
meets Call given o s r = can_call given o s r.offset
meets GotHigh given o s r = is_zero r.addend
meets kind given o s r = true

abbrev pub changes : Kind → Option RvOp → Bool
changes kind None = false
changes kind (Some op) = may_change kind op

-- a relocation of a code section may be where it is
abbrev pub is_allowed : Given → ℕ → ℕ → Relocation → Bool
is_allowed given o s r = changes (kind_of r.kind) (raw_at given (Code o s r.offset)) && meets (kind_of r.kind) given o s r

-- ---- values

-- the place that a relocation's symbol stands for
abbrev pub symbol_place : Given → ℕ → Relocation → Place
symbol_place given o r = resolution given o r.symbol

-- the value of a relocation: that of what its symbol stands for, and of GOT_HI20 the address of that place's slot
abbrev pub relocation_value : Given → ℕ → Relocation → ℤ
relocation_value given o r = value_of given (symbol_place given o r) r.addend

abbrev pub slot_or_zero : Given → Place → ℕ
slot_or_zero given place = unwrap_or (slot_of given place) 0

abbrev pub code_value : Kind → Given → ℕ → Relocation → ℤ
code_value GotHigh given o r = pos (slot_or_zero given (symbol_place given o r))
code_value kind given o r = relocation_value given o r

-- the values that fit: each has an upper part of 20 bits, but a slot's address is never out of range
abbrev pub fits : Kind → ℤ → Bool
fits GotHigh v = true
fits kind v = is_high_low v

-- ---- the auipc that a PCREL_LO12 names

-- the offset in a section that a place and an addend of 0 are
abbrev pub offset_in : ℕ → ℕ → Place → Option ℕ
offset_in o s (names.Code o' s' offset) = if nat_eq o o' && nat_eq s s' then Some offset else None
offset_in o s place = None

abbrev pub label_of : Given → ℕ → ℕ → Relocation → Option ℕ
label_of given o s r = if is_zero r.addend then offset_in o s (symbol_place given o r) else None

abbrev pub holds_auipc : Option RvOp → Bool
holds_auipc None = false
holds_auipc (Some op) = is_auipc op

-- the relocation that gives an auipc at an offset its value
abbrev pub high_at : Given → ℕ → ℕ → ℕ → Option Relocation
high_at given o s offset =
    if holds_auipc (raw_at given (Code o s offset)) then find (λ r. is_pc_high (kind_of r.kind)) (relocations_at given o s offset) else None

abbrev pub high_by : Given → ℕ → ℕ → Option ℕ → Option Relocation
high_by given o s None = None
high_by given o s (Some offset) = high_at given o s offset

-- the relocation of the auipc that a PCREL_LO12 names, where it names one
abbrev pub high_of : Given → ℕ → ℕ → Relocation → Option Relocation
high_of given o s r = high_by given o s (label_of given o s r)

-- ---- faults, by their codes

-- why a relocation has no value or target
abbrev pub value_fault : Kind → Given → ℕ → Relocation → Option ℕ
value_fault kind given o r =
    address_fault given (symbol_place given o r) r.addend
    or_else where_true (not (fits kind (code_value kind given o r))) VALUE_OUT_OF_RANGE

-- the fault of a relocation that may be where it is, but for those that name an auipc
abbrev pub meaning_fault : Kind → Given → ℕ → Relocation → Option ℕ
meaning_fault kind given o r =
    if gives_target kind then target_fault given (symbol_place given o r) r.addend else
    if is_pc_low kind then None else value_fault kind given o r

abbrev pub plain_fault : Given → ℕ → ℕ → Relocation → Option ℕ
plain_fault given o s r =
    if is_allowed given o s r then meaning_fault (kind_of r.kind) given o r else Some WRONG_RELOCATION

-- two relocations at one place
abbrev pub crowd_fault : List Relocation → Option ℕ
crowd_fault relocations = where_true (nat_lt 1 (length relocations)) WRONG_RELOCATION

abbrev pub listed : Option ℕ → List ℕ
listed None = []
listed (Some code) = code ∷ []

-- the codes of the faults of relocations at one offset: that of each, and that of several
abbrev pub codes_by : (Relocation → Option ℕ) → List Relocation → List ℕ
codes_by fault relocations = listed (crowd_fault relocations) ++ filter_map fault relocations

-- the lesser of two codes that may be missing, and the least of codes
abbrev pub lesser : Option ℕ → Option ℕ → Option ℕ
lesser None b = b
lesser (Some a) None = Some a
lesser (Some a) (Some b) = Some (min a b)

abbrev pub least : List ℕ → Option ℕ
least [] = None
least (code ∷ codes) = lesser (Some code) (least codes)

-- the least fault of an auipc's relocations
unfoldable pub auipc_fault : Given → ℕ → ℕ → ℕ → Option ℕ
auipc_fault given o s offset = least (codes_by (plain_fault given o s) (relocations_at given o s offset))

-- a PCREL_LO12 that names no relocated auipc is refused, and one whose auipc is refused is refused with the same code
abbrev pub fault_by_high : Given → ℕ → ℕ → Option Relocation → Option ℕ
fault_by_high given o s None = Some MISSING_HIGH
fault_by_high given o s (Some r) = auipc_fault given o s r.offset

abbrev pub label_fault : Kind → Given → ℕ → ℕ → Relocation → Option ℕ
label_fault kind given o s r = if is_pc_low kind then fault_by_high given o s (high_of given o s r) else None

-- the code of the fault of a relocation that changes something
unfoldable pub relocation_fault : Given → ℕ → ℕ → Relocation → Option ℕ
relocation_fault given o s r = plain_fault given o s r or_else label_fault (kind_of r.kind) given o s r

-- ---- operands

-- the place of code at an offset, as what a symbol stands for
abbrev pub shown : CodePlace → Place → Place
shown (Code o s offset) other = names.Code o s offset
shown p other = other

-- the target of a relocation: its symbol's place, and the addend
abbrev pub target_place : Place → ℤ → Place
target_place place addend = shown (place_at place addend) place

abbrev pub low_by_high : Given → ℕ → Option Relocation → Operand
low_by_high given o None = Nothing
low_by_high given o (Some r) = Value (low (code_value (kind_of r.kind) given o r))

abbrev pub operand_by : Kind → Given → ℕ → ℕ → Relocation → Operand
operand_by Branch given o s r = Target (target_place (symbol_place given o r) r.addend)
operand_by Jal given o s r = Target (target_place (symbol_place given o r) r.addend)
operand_by Call given o s r = Target (target_place (symbol_place given o r) r.addend)
operand_by GotHigh given o s r = Value (code_value GotHigh given o r)
operand_by PcHigh given o s r = Value (relocation_value given o r)
operand_by PcLow given o s r = low_by_high given o (high_of given o s r)
operand_by PcLowStore given o s r = low_by_high given o (high_of given o s r)
operand_by High given o s r = Value (pos 0x1000 *ℤ high (relocation_value given o r))
operand_by Low given o s r = Value (low (relocation_value given o r))
operand_by LowStore given o s r = Value (low (relocation_value given o r))
operand_by kind given o s r = Nothing

-- what a relocation without a fault gives: an auipc's whole value, of which it takes the upper part
unfoldable pub operand_of : Given → ℕ → ℕ → Relocation → Operand
operand_of given o s r = if has_effect r.kind then operand_by (kind_of r.kind) given o s r else Nothing
