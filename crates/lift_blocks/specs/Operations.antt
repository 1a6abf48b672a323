-- The operation at a place of the objects.
use Rattle.std.specs.Prelude.{ℕ, zero, suc, ◌+◌, ℤ, pos, ◌*ℤ◌, List, [], ◌∷◌, length, Option, Some, None, ◌&&◌, nat_eq, if◌then◌else◌, slice_get}
use Rattle.std.specs.Option.{option_map}
use Rattle.elf_objects.specs.declared.parts.Relocation.{Relocation}
use Rattle.rv_decode.specs.declared.ops.Reg.{Reg}
use Rattle.rv_decode.specs.declared.ops.Reg.TheVariants.{Zero, R}
use Rattle.rv_decode.specs.declared.ops.Cond.{Cond}
use Rattle.rv_decode.specs.declared.ops.RvOp.{RvOp}
use Rattle.rv_decode.specs.declared.ops.RvOp.TheVariants as rv
use Rattle.symbols.specs.declared.wanted.ImportKind.{ImportKind}
use Rattle.symbols.specs.declared.wanted.ImportKind.TheVariants.{Host, Sbrk as ImportSbrk}
use Rattle.symbols.specs.Wanted.{Given, Import}
use Rattle.symbols.specs.declared.place.Place.{Place}
use Rattle.symbols.specs.declared.place.Place.TheVariants as names
use Rattle.relocs.specs.declared.operand.Operand.{Operand}
use Rattle.relocs.specs.declared.operand.Operand.TheVariants.{Nothing, Value, Target}
use Rattle.relocs.specs.Places.{CodePlace, Code, Stub, Nowhere, code_place}
use Rattle.relocs.specs.Words.{raw_at}
use Rattle.relocs.specs.Pairs.{relocations_at, is_pair_at, trap_stub, next_place}
use Rattle.relocs.specs.AddressMap.{needed_places, map_number}
use Rattle.relocs.specs.Values.{high}
use Rattle.relocs.specs.Operands.{operand_of}

-- An operation with its targets and the number that its link register takes, 0 without one. A plain one is no jump and
-- no branch. A pair is an auipc and the jalr after it, as compilers write a call.
pub data Operation (Target : Type 0) : Type 0 where
  Plain : (op : RvOp) → Operation Target
  Branch : (cond : Cond) (rs1 rs2 : Reg) (target : Target) → Operation Target
  Jal : (rd : Reg) (link : ℕ) (target : Target) → Operation Target
  Jalr : (rd rs1 : Reg) (imm : ℤ) (link : ℕ) → Operation Target
  Pair : (temp rd : Reg) (link : ℕ) (target : Target) → Operation Target
  HostCall : (number : ℕ) → Operation Target
  Sbrk : Operation Target

-- the same, with other names for its targets
abbrev pub rename : {Target Other : Type 0} → (Target → Other) → Operation Target → Operation Other
rename name (Plain op) = Plain op
rename name (Branch cond rs1 rs2 target) = Branch cond rs1 rs2 (name target)
rename name (Jal rd link target) = Jal rd link (name target)
rename name (Jalr rd rs1 imm link) = Jalr rd rs1 imm link
rename name (Pair temp rd link target) = Pair temp rd link (name target)
rename name (HostCall number) = HostCall number
rename name Sbrk = Sbrk

-- the operand that the relocation at an offset gives: without faults there is at most one
abbrev pub first_operand : Given → ℕ → ℕ → List Relocation → Operand
first_operand given o s [] = Nothing
first_operand given o s (r ∷ rs) = operand_of given o s r

abbrev pub operand_at : Given → ℕ → ℕ → ℕ → Operand
operand_at given o s offset = first_operand given o s (relocations_at given o s offset)

-- the place of a target: an import's is its stub, and an absent name's is the trap stub
abbrev pub target_place : Given → Place → CodePlace
target_place given (names.Code o s offset) = Code o s offset
target_place given (names.Import i) = Stub i 0
target_place given names.Absent = trap_stub given
target_place given place = Nowhere

-- the target of a relocation, or where there is none the operation's own
abbrev pub target_or : Given → Operand → CodePlace → CodePlace
target_or given (Target place) own = target_place given place
target_or given operand own = own

-- the value of a relocation in place of the operation's own
abbrev pub value_or : Operand → ℤ → ℤ
value_or (Value v) own = v
value_or operand own = own

-- an auipc takes the upper part of the value
abbrev pub upper_or : Operand → ℤ → ℤ
upper_or (Value v) own = pos 0x1000 *ℤ high v
upper_or operand own = own

abbrev pub if_link : List CodePlace → Reg → CodePlace → ℕ
if_link needed Zero next = 0
if_link needed (R n) next = map_number needed next

-- the operation of a word, by the place after it, where an offset leads, and the relocation's operand
abbrev pub placed_op : List CodePlace → CodePlace → (ℤ → CodePlace) → Operand → RvOp → Operation CodePlace
placed_op needed next aim operand (rv.Lui rd value) = Plain (rv.Lui rd (value_or operand value))
placed_op needed next aim operand (rv.Auipc rd value) = Plain (rv.Auipc rd (upper_or operand value))
placed_op needed next aim operand (rv.Jal rd offset) = Jal rd (if_link needed rd next) (aim offset)
placed_op needed next aim operand (rv.Jalr rd rs1 imm) = Jalr rd rs1 (value_or operand imm) (if_link needed rd next)
placed_op needed next aim operand (rv.Branch cond rs1 rs2 offset) = Branch cond rs1 rs2 (aim offset)
placed_op needed next aim operand (rv.Load width rd rs1 imm) = Plain (rv.Load width rd rs1 (value_or operand imm))
placed_op needed next aim operand (rv.Store width rs1 rs2 imm) = Plain (rv.Store width rs1 rs2 (value_or operand imm))
placed_op needed next aim operand (rv.OpImm op rd rs1 imm) = Plain (rv.OpImm op rd rs1 (value_or operand imm))
placed_op needed next aim operand (rv.Op op rd rs1 rs2) = Plain (rv.Op op rd rs1 rs2)
placed_op needed next aim operand rv.Fence = Plain rv.Fence
placed_op needed next aim operand rv.Trap = Plain rv.Trap

-- where a branch or a jal leads: by its relocation, or by its own offset
abbrev pub target_from : Given → ℕ → ℕ → ℕ → Operand → ℤ → CodePlace
target_from given o s offset operand by = target_or given operand (code_place o s offset by)

-- the operation of a pair, from its two words
abbrev pub pair_op : List CodePlace → CodePlace → CodePlace → Option RvOp → Option RvOp → Option (Operation CodePlace)
pair_op needed next target (Some (rv.Auipc temp value)) (Some (rv.Jalr rd rs1 imm)) = Some (Pair temp rd (if_link needed rd next) target)
pair_op needed next target first second = None

-- the operation at an offset of code: of a pair, or of its word
abbrev pub code_op : List CodePlace → Given → ℕ → ℕ → ℕ → Option (Operation CodePlace)
code_op needed given o s offset =
    let operand = operand_at given o s offset in
    let next = next_place given (Code o s offset) in
    if is_pair_at given o s offset
    then pair_op needed next (target_or given operand Nowhere) (raw_at given (Code o s offset)) (raw_at given (Code o s (offset + 4)))
    else option_map (placed_op needed next (target_from given o s offset operand) operand) (raw_at given (Code o s offset))

-- the call that an import stands for
abbrev pub import_op : ImportKind → Operation CodePlace
import_op (Host number) = HostCall number
import_op ImportSbrk = Sbrk

-- the operations of an import's stub: its call, and `jalr x0, 0(ra)` back to the caller
abbrev pub stub_op : Option Import → ℕ → Option (Operation CodePlace)
stub_op None at = None
stub_op (Some one) zero = Some (import_op one.kind)
stub_op (Some one) (suc zero) = Some (Jalr Zero (R 0) (pos 0) 0)
stub_op (Some one) (suc (suc at)) = None

-- the stub after those of the imports is one trap, for what is absent
abbrev pub stub_operation : Given → ℕ → ℕ → Option (Operation CodePlace)
stub_operation given n at =
    if nat_eq n (length given.wanted.imports) && nat_eq at 0 then Some (Plain rv.Trap) else stub_op (slice_get given.wanted.imports n) at

-- the operation at a place, with the numbers of these needed places for links
unfoldable pub operation_in : List CodePlace → Given → CodePlace → Option (Operation CodePlace)
operation_in needed given (Code o s offset) = code_op needed given o s offset
operation_in needed given (Stub n at) = stub_operation given n at
operation_in needed given Nowhere = None

-- the operation at a place
abbrev pub operation_at : Given → CodePlace → Option (Operation CodePlace)
operation_at given p = operation_in (needed_places given) given p
