-- The faults of a link in their order: those of the objects, of symbols and entries, too much data or code, those of code
-- and of data, and a program that is too large.
use Rattle.std.specs.Prelude.{◌≡◌, ◌⊎◌, ℕ, ◌<◌, ◌^◌, List, [], length, map, Option, Some, None, slice_get}
use Rattle.std.specs.List.{filter_map}
use Rattle.faults.specs.Present.{◌followed_by◌, each_below, first_in}
use Rattle.elf_objects.specs.declared.fault.Fault.{Fault}
use Rattle.elf_objects.specs.Faults.{faults_of}
use Rattle.elf_objects.specs.Reading.{in_object, object_of}
use Rattle.symbols.specs.Wanted.{Wanted, Given}
use Rattle.symbols.specs.Faults.{symbol_faults}
use Rattle.layout.specs.Faults.{whole, layout_faults}
use Rattle.lift_blocks.specs.Listed.{Lifted, IsLifted}
use Rattle.lower.specs.Lowering.{lowered_blocks}
use Rattle.jump_table.specs.Assembling.{IsTooLarge as BlocksAreTooLarge}
use Rattle.relocs.specs.CodeFaults.{code_faults}
use Rattle.relocs.specs.Data.{data_faults}
use Rattle.link_core.specs.declared.linker.TheConstants.{CODE_BYTES_TOO_LARGE}
use Rattle.link_core.specs.declared.link_fault.LinkFault.{LinkFault}
use Rattle.link_core.specs.declared.link_fault.LinkFault.TheVariants.{Bad, Memory}

-- the faults of a file, as those of the object with a number
abbrev pub faults_in_file : ℕ → Option (List ℕ) → List Fault
faults_in_file number None = []
faults_in_file number (Some file) = map (in_object number) (faults_of file)

-- the faults of the objects, one file after another
abbrev pub object_faults : List (List ℕ) → List Fault
object_faults files = each_below (length files) (λ at. faults_in_file at (slice_get files at))

-- The link's input: the objects that the files are, and the wanted names.
abbrev pub input_of : List (List ℕ) → Wanted → Given
input_of files wanted = record { objects = filter_map object_of files; wanted = wanted }

-- the faults of code and of data
abbrev pub content_faults : Given → List Fault
content_faults given = code_faults given followed_by data_faults given

-- the faults of objects whose files have none
abbrev pub given_faults : Given → List Fault
given_faults given = symbol_faults given followed_by layout_faults given followed_by content_faults given

-- all faults of a link but the size of the program
abbrev pub listed_faults : List (List ℕ) → Wanted → List Fault
listed_faults files wanted = object_faults files followed_by given_faults (input_of files wanted)

-- The program of the operations in code order has more than 2^25 bytes of code, whatever wide enough lengths its offsets
-- have.
pub record IsTooLarge (given : Given) : Type 0 where
  pub lifted : Lifted
  pub is_lifted : IsLifted given lifted
  pub large : BlocksAreTooLarge (lowered_blocks lifted)

-- no fault is listed, and the program isn't too large
pub record HasNone (listed : List Fault) (given : Given) : Type 0 where
  pub none_listed : listed ≡ []
  pub small : ¬ IsTooLarge given

-- no fault is listed, and this is that of a program that is too large
pub record HasSizeFault (listed : List Fault) (given : Given) (fault : Fault) : Type 0 where
  pub none_listed : listed ≡ []
  pub large : IsTooLarge given
  pub is : fault ≡ whole CODE_BYTES_TOO_LARGE

-- the first of the listed faults, else the size
abbrev pub IsFirst : List Fault → Given → Fault → Type 0
IsFirst listed given fault = (first_in listed ≡ Some fault) ⊎ HasSizeFault listed given fault

-- files can be linked with wanted names
unfoldable pub HasNoFault : List (List ℕ) → Wanted → Type 0
HasNoFault files wanted = HasNone (listed_faults files wanted) (input_of files wanted)

-- the first fault of a link of files with wanted names
unfoldable pub HasFirstFault : List (List ℕ) → Wanted → Fault → Type 0
HasFirstFault files wanted fault = IsFirst (listed_faults files wanted) (input_of files wanted) fault

-- the first fault is reported; an allocation may fail at any time
abbrev pub Refuses : (Fault → Type 0) → LinkFault → Type 0
Refuses is_first (Bad fault) = is_first fault
Refuses is_first Memory = Unit {0}

-- A link has at most one first fault, and none where it has no fault.
pub record FirstFaultIsOne : Type 0 where
  pub one : (files : List (List ℕ)) (wanted : Wanted) (fault other : Fault) → HasFirstFault files wanted fault → HasFirstFault files wanted other → fault ≡ other
  pub none : (files : List (List ℕ)) (wanted : Wanted) (fault : Fault) → HasNoFault files wanted → HasFirstFault files wanted fault → ⊥
