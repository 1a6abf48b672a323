-- The faults of code, in the order in which the first is reported: by object, section, offset and code. Relocations and entries
-- may be at any offset, so that each offset of a section has its list of faults.
use Rattle.std.specs.Prelude.{ℕ, ◌+◌, List, [], ◌++◌, length, Option, Some, None, Bool, false, not, ◌&&◌, ◌||◌, nat_eq, if◌then◌else◌, Result, Ok, Err}
use Rattle.std.specs.List.{list_any}
use Rattle.std.specs.Option.{option_map}
use Rattle.faults.specs.First.{where_true, first_below}
use Rattle.faults.specs.Present.{broken, each_below}
use Rattle.elf_objects.specs.declared.fault.Fault.{Fault}
use Rattle.elf_objects.specs.declared.parts.Relocation.{Relocation}
use Rattle.rv_decode.specs.declared.ops.RvOp.{RvOp}
use Rattle.rv_decode.specs.declared.ops.RvOp.TheVariants as rv
use Rattle.rv_decode.specs.declared.ops.WordFault.{WordFault}
use Rattle.rv_decode.specs.declared.ops.WordFault.TheVariants.{BadWord, BadRegister, Ecall, LoadToZero}
use Rattle.symbols.specs.declared.place.Place.{Place}
use Rattle.symbols.specs.declared.place.Place.TheVariants as names
use Rattle.symbols.specs.Parts.{object_at}
use Rattle.symbols.specs.Wanted.{Given, kept_objects}
use Rattle.symbols.specs.Resolution.{entry_place}
use Rattle.layout.specs.Slots.{each_section}
use Rattle.relocs.specs.declared.fault.TheConstants.{BAD_WORD, BAD_REGISTER, ECALL, LOAD_TO_ZERO, AUIPC_UNRELOCATED, BAD_TARGET, INTO_PAIR}
use Rattle.relocs.specs.Kinds.{kind_of, is_auipc, is_call, is_pc_high}
use Rattle.relocs.specs.Places.{CodePlace, Code, code_at, code_place}
use Rattle.relocs.specs.Words.{word_of_place, raw_at}
use Rattle.relocs.specs.Pairs.{relocations_at, is_second, is_none_of}
use Rattle.relocs.specs.Values.{place_fault}
use Rattle.relocs.specs.Operands.{relocation_fault, codes_by, listed, least, operand_of}
use Rattle.relocs.specs.declared.operand.Operand.{Operand}

-- the codes of faulty words
abbrev pub code_of_word : WordFault → ℕ
code_of_word BadWord = BAD_WORD
code_of_word BadRegister = BAD_REGISTER
code_of_word Ecall = ECALL
code_of_word LoadToZero = LOAD_TO_ZERO

abbrev pub word_fault : Option (Result RvOp WordFault) → Option ℕ
word_fault None = None
word_fault (Some (Ok op)) = None
word_fault (Some (Err fault)) = Some (code_of_word fault)

-- it gives an auipc its value or its target
abbrev pub is_for_auipc : Relocation → Bool
is_for_auipc r = is_call (kind_of r.kind) || is_pc_high (kind_of r.kind)

-- where a branch or a jal leads that has no relocation
abbrev pub own_target : ℕ → ℕ → ℕ → RvOp → Option CodePlace
own_target o s offset (rv.Jal rd by) = Some (code_place o s offset by)
own_target o s offset (rv.Branch cond rs1 rs2 by) = Some (code_place o s offset by)
own_target o s offset op = None

abbrev pub fault_of_target : Given → Option CodePlace → Option ℕ
fault_of_target given None = None
fault_of_target given (Some p) = place_fault given BAD_TARGET p

-- the codes of the faults of an operation, but for those of its relocations
abbrev pub operation_codes : Given → ℕ → ℕ → ℕ → Option RvOp → List Relocation → List ℕ
operation_codes given o s offset None relocations = []
operation_codes given o s offset (Some op) relocations =
    listed (where_true (is_auipc op && not (list_any is_for_auipc relocations)) AUIPC_UNRELOCATED)
    ++ listed (if is_none_of relocations then fault_of_target given (own_target o s offset op) else None)

-- The codes of the faults of the operation at an offset and of the relocations there, in any order. The second word of a
-- pair has none of the former.
abbrev pub use_codes : Given → ℕ → ℕ → ℕ → List ℕ
use_codes given o s offset =
    (if is_second given (Code o s offset) then [] else operation_codes given o s offset (raw_at given (Code o s offset)) (relocations_at given o s offset))
    ++ codes_by (relocation_fault given o s) (relocations_at given o s offset)

-- all codes at an offset but for those of entries: those, and that of a word that is no operation
abbrev pub codes_at : Given → ℕ → ℕ → ℕ → List ℕ
codes_at given o s offset = listed (word_fault (word_of_place given (Code o s offset))) ++ use_codes given o s offset

-- an entry is at an offset
abbrev pub is_entry_at : ℕ → ℕ → ℕ → Place → Bool
is_entry_at o s offset (names.Code o' s' offset') = nat_eq o o' && nat_eq s s' && nat_eq offset offset'
is_entry_at o s offset place = false

abbrev pub entry_codes : Given → ℕ → ℕ → ℕ → List ℕ
entry_codes given o s offset =
    each_below (length given.wanted.entries) (λ e. broken (is_entry_at o s offset (entry_place given e) && is_second given (Code o s offset)) INTO_PAIR)

abbrev pub fault_at : ℕ → ℕ → ℕ → ℕ → Fault
fault_at o s offset code = record { code = code; object = o; section = s; offset = offset }

-- codes of faults are below this
abbrev pub code_limit : ℕ
code_limit = 32

-- the faults at an offset, by their codes
abbrev pub faults_with : List ℕ → ℕ → ℕ → ℕ → List Fault
faults_with codes o s offset = each_below code_limit (λ code. broken (list_any (nat_eq code) codes) (fault_at o s offset code))

abbrev pub faults_at : Given → ℕ → ℕ → ℕ → List Fault
faults_at given o s offset = faults_with (codes_at given o s offset ++ entry_codes given o s offset) o s offset

-- those of a section, where it is code: at each offset up to its size
abbrev pub section_faults : Given → ℕ → ℕ → Option (List ℕ) → List Fault
section_faults given o s None = []
section_faults given o s (Some bytes) = each_below (length bytes + 1) (faults_at given o s)

-- all faults of code
unfoldable pub code_faults : Given → List Fault
code_faults given = each_section given (λ o s. section_faults given o s (code_at given o s))

-- ---- the first fault

-- the least code at an offset
abbrev pub fault_at_offset : Given → ℕ → ℕ → ℕ → Option Fault
fault_at_offset given o s offset = option_map (fault_at o s offset) (least (codes_at given o s offset ++ entry_codes given o s offset))

-- the first offset of a section that has one, and the first section of an object
abbrev pub fault_in_section : Given → ℕ → ℕ → Option (List ℕ) → Option Fault
fault_in_section given o s None = None
fault_in_section given o s (Some bytes) = first_below (length bytes + 1) (fault_at_offset given o s)

abbrev pub fault_in_object : Given → ℕ → Option Fault
fault_in_object given o = first_below (length (object_at (kept_objects given) o).sections) (λ s. fault_in_section given o s (code_at given o s))

-- ---- one relocation

-- The code that a relocation of code is refused with: the least at its offset, those of words that are no operations and those
-- of entries left out.
unfoldable pub refusal_code : Given → ℕ → ℕ → ℕ → Option ℕ
refusal_code given o s offset = least (use_codes given o s offset)

abbrev pub refused_or : Option ℕ → Given → ℕ → ℕ → Relocation → Result Operand Fault
refused_or None given o s r = Ok (operand_of given o s r)
refused_or (Some code) given o s r = Err (fault_at o s r.offset code)

-- what a relocation of code means
abbrev pub meaning_of : Given → ℕ → ℕ → Relocation → Result Operand Fault
meaning_of given o s r = refused_or (refusal_code given o s r.offset) given o s r
