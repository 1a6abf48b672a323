-- The operations in code order as they are kept.
use Rattle.std.specs.Prelude.{◌≡◌, ℕ, ◌<◌, ◌≤◌, ◌^◌, length, Some, slice_get}
use Rattle.faults.specs.Present.{first_in}
use Rattle.symbols.specs.Wanted.{Given}
use Rattle.relocs.specs.Places.{CodePlace, Code, Stub}
use Rattle.relocs.specs.CodeFaults.{code_faults}
use Rattle.lift_blocks.specs.declared.fault.LiftFault.{LiftFault}
use Rattle.lift_blocks.specs.declared.fault.LiftFault.TheVariants.{Bad, Memory}
use Rattle.lift_blocks.specs.declared.site.Site.{Site}
use Rattle.lift_blocks.specs.declared.site.Site.TheVariants as site
use Rattle.lift_blocks.specs.declared.source_op.SourceOp.{SourceOp}
use Rattle.lift_blocks.specs.declared.source_op.SourceOp.TheVariants as kept
use Rattle.lift_blocks.specs.Operations.{Operation, Plain, Branch, Jal, Jalr, Pair, HostCall, Sbrk}
use Rattle.lift_blocks.specs.Listed.{Lifted, target_of}
use Rattle.lift_blocks.specs.Fits.{FitsInstructions}

abbrev pub site_of : Site → CodePlace
site_of (site.Code o s offset) = Code o s offset
site_of (site.Stub number at) = Stub number at

abbrev pub operation_of : SourceOp → Operation ℕ
operation_of (kept.Plain op) = Plain op
operation_of (kept.Branch cond rs1 rs2 target) = Branch cond rs1 rs2 target
operation_of (kept.Jal rd link target) = Jal rd link target
operation_of (kept.Jalr rd rs1 imm link) = Jalr rd rs1 imm link
operation_of (kept.Pair temp rd link target) = Pair temp rd link target
operation_of (kept.Host number) = HostCall number
operation_of kept.Sbrk = Sbrk

-- Operations that instructions can hold, whose targets are operations of the list, as those of the entries and of the
-- address map are.
pub record IsInRange (lifted : Lifted) : Type 0 where
  pub count : length lifted.ops ≡ length lifted.places
  pub marks : length lifted.begins ≡ length lifted.places
  pub few : length lifted.places ≤ 2 ^ 28
  pub few_entries : length lifted.entries ≤ 1000
  pub few_needed : length lifted.map ≤ 2 ^ 28
  pub needed_count : length lifted.needed ≡ length lifted.map
  pub fits : (q : ℕ) (op : Operation ℕ) → slice_get lifted.ops q ≡ Some op → FitsInstructions op
  pub targets : (q : ℕ) (op : Operation ℕ) (t : ℕ) → slice_get lifted.ops q ≡ Some op → target_of op ≡ Some t → t < length lifted.ops
  pub entries_are : (entry t : ℕ) → slice_get lifted.entries entry ≡ Some t → t < length lifted.ops
  pub needed_are : (i t : ℕ) → slice_get lifted.needed i ≡ Some t → t < length lifted.ops

-- the first fault of code is reported; an allocation may fail at any time
abbrev pub Refuses : Given → LiftFault → Type 0
Refuses given (Bad fault) = first_in (code_faults given) ≡ Some fault
Refuses given Memory = Unit {0}
