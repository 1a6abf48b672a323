-- The parts of memory that objects have data for.
use Rattle.std.specs.Prelude.{ℕ, Bool}
use Rattle.elf_objects.specs.declared.parts.SectionKind.{SectionKind}
use Rattle.machine_state.specs.Start.{read_only_start}
use Rattle.symbols.specs.Wanted.{Given}
use Rattle.layout.specs.Sections.{is_read_only, is_writable, is_zero}
use Rattle.layout.specs.Addresses.{writable_start, writable_end}
use Rattle.link_core.specs.declared.data_part.DataPart.{DataPart}
use Rattle.link_core.specs.declared.data_part.DataPart.TheVariants.{ReadOnly, Writable, Zero}

-- which sections belong to a part
abbrev pub holds : DataPart → (SectionKind → Bool)
holds ReadOnly = is_read_only
holds Writable = is_writable
holds Zero = is_zero

-- where a part begins
abbrev pub start_of : Given → DataPart → ℕ
start_of given ReadOnly = read_only_start
start_of given Writable = writable_start given
start_of given Zero = writable_end given
