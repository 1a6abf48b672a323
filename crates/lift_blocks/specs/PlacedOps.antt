-- Operations with places as targets, and what they take from relocations.
use Rattle.std.specs.Prelude.{◌≡◌, ◌≤◌, ◌^◌, ℕ, List, [], length, slice_get, Some, None, IsSome, Bool, true, false}
use Rattle.rv_decode.specs.declared.ops.AluImm.{AluImm}
use Rattle.rv_decode.specs.declared.ops.RvOp.{RvOp}
use Rattle.rv_decode.specs.declared.ops.RvOp.TheVariants as rv
use Rattle.rv_decode.specs.Operations.{IsSigned}
use Rattle.symbols.specs.declared.place.Place.{Place}
use Rattle.symbols.specs.declared.place.Place.TheVariants as names
use Rattle.symbols.specs.Wanted.{Given, Import, IsHostNumber}
use Rattle.relocs.specs.declared.operand.Operand.{Operand}
use Rattle.relocs.specs.declared.operand.Operand.TheVariants.{Value, Target}
use Rattle.relocs.specs.Kinds.{is_addition}
use Rattle.relocs.specs.Places.{CodePlace, Code, code_at}
use Rattle.relocs.specs.Pairs.{is_second}
use Rattle.relocs.specs.Sites.{IsCodeSection}
use Rattle.relocs.specs.Sources.{IsSourcesOf}
use Rattle.relocs.specs.Words.{is_code_offset, word_of_place}
use Rattle.relocs.specs.Values.{is_high_low}
use Rattle.relocs.specs.AddressMap.{needed_places}
use Rattle.relocs.specs.CodeFaults.{word_fault, use_codes, code_faults}
use Rattle.lift_blocks.specs.declared.operations.SourceMachine.{SourceMachine}
use Rattle.lift_blocks.specs.declared.placed_op.PlacedOp.{PlacedOp}
use Rattle.lift_blocks.specs.declared.placed_op.PlacedOp.TheVariants as placed
use Rattle.lift_blocks.specs.Operations.{Operation, Plain, Branch, Jal, Jalr, Pair, HostCall, Sbrk, value_or, upper_or}
use Rattle.lift_blocks.specs.Kept.{site_of}

-- the operation that is kept
abbrev pub placed_operation_of : PlacedOp → Operation CodePlace
placed_operation_of (placed.Plain op) = Plain op
placed_operation_of (placed.Branch cond rs1 rs2 target) = Branch cond rs1 rs2 (site_of target)
placed_operation_of (placed.Jal rd link target) = Jal rd link (site_of target)
placed_operation_of (placed.Jalr rd rs1 imm link) = Jalr rd rs1 imm link
placed_operation_of (placed.Pair temp rd link target) = Pair temp rd link (site_of target)
placed_operation_of (placed.Host number) = HostCall number
placed_operation_of placed.Sbrk = Sbrk

-- no jump and no branch
abbrev pub is_plain : RvOp → Bool
is_plain (rv.Jal rd offset) = false
is_plain (rv.Jalr rd rs1 imm) = false
is_plain (rv.Branch cond rs1 rs2 offset) = false
is_plain op = true

-- an operation with the value of its relocation, if it is plain
abbrev pub with_operand : Operand → RvOp → RvOp
with_operand operand (rv.Lui rd value) = rv.Lui rd (value_or operand value)
with_operand operand (rv.Auipc rd value) = rv.Auipc rd (upper_or operand value)
with_operand operand (rv.Load width rd rs1 imm) = rv.Load width rd rs1 (value_or operand imm)
with_operand operand (rv.Store width rs1 rs2 imm) = rv.Store width rs1 rs2 (value_or operand imm)
with_operand operand (rv.OpImm op rd rs1 imm) = rv.OpImm op rd rs1 (value_or operand imm)
with_operand operand op = op

-- a target is code, an import, or absent
abbrev pub can_be_target : Place → Bool
can_be_target (names.Code o s offset) = true
can_be_target (names.Import i) = true
can_be_target names.Absent = true
can_be_target place = false

-- a target, if it is one, is such a place
abbrev pub HasTarget : Operand → Type 0
HasTarget (Target place) = can_be_target place ≡ true
HasTarget operand = Unit {0}

-- the operand is a target
abbrev pub IsTarget : Operand → Type 0
IsTarget (Target place) = can_be_target place ≡ true
IsTarget operand = ⊥

-- a value, if it is one, has the given number of bits
abbrev pub HasBits : ℕ → Operand → Type 0
HasBits bits (Value v) = IsSigned bits v
HasBits bits operand = Unit {0}

-- a value, if it is one, has an upper part of 20 bits
abbrev pub HasUpper : Operand → Type 0
HasUpper (Value v) = is_high_low v ≡ true
HasUpper operand = Unit {0}

-- a value, if it is one, has 12 bits, and the operation adds it
abbrev pub HasAddend : AluImm → Operand → Type 0
HasAddend op (Value v) = (is_addition op ≡ true) × IsSigned 12 v
HasAddend op operand = Unit {0}

-- an operation can hold what its relocation gives
abbrev pub CanTake : RvOp → Operand → Type 0
CanTake (rv.Lui rd value) operand = HasBits 32 operand
CanTake (rv.Auipc rd value) operand = HasUpper operand
CanTake (rv.Jal rd offset) operand = HasTarget operand
CanTake (rv.Jalr rd rs1 imm) operand = HasBits 12 operand
CanTake (rv.Branch cond rs1 rs2 offset) operand = HasTarget operand
CanTake (rv.Load width rd rs1 imm) operand = HasBits 12 operand
CanTake (rv.Store width rs1 rs2 imm) operand = HasBits 12 operand
CanTake (rv.OpImm op rd rs1 imm) operand = HasAddend op operand
CanTake op operand = Unit {0}

-- a place of a code section, where nothing has a fault
pub record IsFaultless (given : Given) (o s f : ℕ) : Type 0 where
  pub section : IsCodeSection given o s
  pub first : is_second given (Code o s f) ≡ false
  pub bytes : List ℕ
  pub code : code_at given o s ≡ Some bytes
  pub offset : is_code_offset (length bytes) f ≡ true
  pub word : word_fault (word_of_place given (Code o s f)) ≡ None
  pub uses : use_codes given o s f ≡ []

-- the parts belong to a link's input, whose code has no fault
pub record IsMachineOf (given : Given) (machine : SourceMachine) : Type 0 where
  pub sources_are : IsSourcesOf given machine.sources
  pub by_offset : IsSome machine.sources.tables
  pub map_is : machine.map.now ≡ needed_places given
  pub wanted_is : machine.wanted.now ≡ given.wanted
  pub hosts_are : (i : ℕ) (one : Import) → slice_get given.wanted.imports i ≡ Some one → IsHostNumber one.kind
  pub few : length (needed_places given) ≤ 2 ^ 28
  pub no_fault : code_faults given ≡ []
