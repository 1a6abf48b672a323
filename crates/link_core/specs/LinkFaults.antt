-- The faults of a phase as those of the link.
use Rattle.elf_objects.specs.declared.fault.ObjectFault.{ObjectFault}
use Rattle.elf_objects.specs.declared.fault.ObjectFault.TheVariants as object
use Rattle.symbols.specs.declared.fault.SymbolFault.{SymbolFault}
use Rattle.symbols.specs.declared.fault.SymbolFault.TheVariants as symbol
use Rattle.layout.specs.declared.fault.LayoutFault.{LayoutFault}
use Rattle.layout.specs.declared.fault.LayoutFault.TheVariants as layout
use Rattle.relocs.specs.declared.fault.RelocFault.{RelocFault}
use Rattle.relocs.specs.declared.fault.RelocFault.TheVariants as relocated
use Rattle.lift_blocks.specs.declared.fault.LiftFault.{LiftFault}
use Rattle.lift_blocks.specs.declared.fault.LiftFault.TheVariants as lifted
use Rattle.link_core.specs.declared.link_fault.LinkFault.{LinkFault}
use Rattle.link_core.specs.declared.link_fault.LinkFault.TheVariants.{Bad, Memory}

-- an object's fault
abbrev pub of_object : ObjectFault → LinkFault
of_object (object.Bad fault) = Bad fault
of_object object.Memory = Memory

-- a fault of symbols and entries
abbrev pub of_symbols : SymbolFault → LinkFault
of_symbols (symbol.Bad fault) = Bad fault
of_symbols symbol.Memory = Memory

-- a fault of the layout
abbrev pub of_layout : LayoutFault → LinkFault
of_layout (layout.Bad fault) = Bad fault
of_layout layout.Memory = Memory

-- a fault of code
abbrev pub of_code : LiftFault → LinkFault
of_code (lifted.Bad fault) = Bad fault
of_code lifted.Memory = Memory

-- a fault of data
abbrev pub of_data : RelocFault → LinkFault
of_data (relocated.Bad fault) = Bad fault
of_data relocated.Memory = Memory
