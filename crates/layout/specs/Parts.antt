-- The parts of a program's data, as they are measured.
use Rattle.std.specs.Prelude.{◌≡◌, [], Some}
use Rattle.faults.specs.Present.{first_in}
use Rattle.elf_objects.specs.declared.fault.Fault.{Fault}
use Rattle.symbols.specs.Wanted.{Given, kept_objects}
use Rattle.machine_state.specs.Start.{read_only_start}
use Rattle.layout.specs.Addresses.{slots_start, read_only_len, writable_start, writable_end, writable_len, zero_pages}
use Rattle.layout.specs.Faults.{layout_faults}
use Rattle.layout.specs.Steps.{after_objects, AreAddresses}
use Rattle.layout.specs.declared.next.Next.{Next}
use Rattle.layout.specs.declared.parts.Parts.{Parts}

-- where the sections of each kind begin
abbrev pub starts_of : Given → Next
starts_of given = record { read_only = read_only_start; writable = writable_start given; zero = writable_end given }

-- the parts are those of the objects, which have no fault of the layout, so that no section ends after the last address
pub record IsMeasured (given : Given) (parts : Parts) : Type 0 where
  pub slots_start_is : parts.slots_start ≡ slots_start given
  pub read_only_is : parts.read_only_len ≡ read_only_len given
  pub writable_is : parts.writable_len ≡ writable_len given
  pub zero_pages_are : parts.zero_pages ≡ zero_pages given
  pub starts_are : parts.starts ≡ starts_of given
  pub ends_fit : AreAddresses (after_objects (starts_of given) (kept_objects given))
  pub no_fault : layout_faults given ≡ []

abbrev pub ReportsFault : Given → Fault → Type 0
ReportsFault given fault = first_in (layout_faults given) ≡ Some fault
