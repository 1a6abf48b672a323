-- What is at offsets of code, as it is looked up.
use Rattle.std.specs.Prelude.{◌≡◌, ◌<◌, ℕ, ◌+◌, List, length, Option, Some, None, Bool, true, ◌||◌, ℤ, pos, ◌*ℤ◌}
use Rattle.std.specs.List.{find}
use Rattle.faults.specs.First.{◌or_else◌, where_true}
use Rattle.elf_objects.specs.declared.parts.Relocation.{Relocation}
use Rattle.elf_objects.specs.declared.parts.SectionKind.TheVariants as kinds
use Rattle.symbols.specs.Laws.{HasSection}
use Rattle.symbols.specs.Parts.{object_at, kind_at}
use Rattle.symbols.specs.Wanted.{Given, kept_objects}
use Rattle.relocs.specs.declared.found.Found.{Found}
use Rattle.relocs.specs.declared.kinds.Kind.{Kind}
use Rattle.relocs.specs.declared.kinds.Kind.TheVariants.{GotHigh, PcHigh, PcLow, PcLowStore, High, Low, LowStore}
use Rattle.relocs.specs.Kinds.{kind_of, is_call, is_pc_high}
use Rattle.relocs.specs.declared.operand.Operand.{Operand}
use Rattle.relocs.specs.declared.operand.Operand.TheVariants.{Nothing, Value, Target}
use Rattle.rv_decode.specs.Operations.{IsSigned}
use Rattle.relocs.specs.Values.{high, is_high_low}
use Rattle.relocs.specs.Operands.{relocation_value}
use Rattle.relocs.specs.Pairs.{has_call}

-- a section is code
abbrev pub IsCodeSection : Given → ℕ → ℕ → Type 0
IsCodeSection given o s = HasSection (kept_objects given) o s × (kind_at (kept_objects given) o s ≡ kinds.Code)

-- a number is the size of code
abbrev pub HasSize : Option (List ℕ) → ℕ → Type 0
HasSize None size = Unit {0}
HasSize (Some bytes) size = size ≡ length bytes

-- the symbol of a relocation of an object is there
abbrev pub IsNamed : Given → ℕ → Relocation → Type 0
IsNamed given o r = r.symbol < length (object_at (kept_objects given) o).symbols

abbrev pub gives_high : Relocation → Bool
gives_high r = is_pc_high (kind_of r.kind)

-- a summary of the relocations at one offset: their number, whether a CALL is among them, and the first that gives an auipc its
-- value
abbrev pub found_of : List Relocation → Found
found_of relocations = record { count = length relocations; call = has_call relocations; high = find gives_high relocations }

-- the same with one more
abbrev pub found_more : Found → Relocation → Found
found_more found r = record { count = found.count + 1; call = found.call || is_call (kind_of r.kind); high = found.high or_else where_true (gives_high r) r }

-- The numbers that the operations of a kind can hold: a lower part has 12 bits, and an upper part 32.
abbrev pub ValueFits : Kind → ℤ → Type 0
ValueFits GotHigh v = IsSigned 32 (pos 0x1000 *ℤ high v)
ValueFits PcHigh v = IsSigned 32 (pos 0x1000 *ℤ high v)
ValueFits PcLow v = IsSigned 12 v
ValueFits PcLowStore v = IsSigned 12 v
ValueFits High v = IsSigned 32 v
ValueFits Low v = IsSigned 12 v
ValueFits LowStore v = IsSigned 12 v
ValueFits kind v = Unit {0}

abbrev pub OperandFits : Kind → Operand → Type 0
OperandFits kind Nothing = Unit {0}
OperandFits kind (Value v) = ValueFits kind v
OperandFits kind (Target place) = Unit {0}

-- the value that a relocation gives fits its operand
abbrev pub FitsOperand : Kind → Given → ℕ → Relocation → Type 0
FitsOperand PcHigh given o r = is_high_low (relocation_value given o r) ≡ true
FitsOperand High given o r = is_high_low (relocation_value given o r) ≡ true
FitsOperand kind given o r = Unit {0}
