-- Which object a file is, and how reading one is refused.
use Rattle.std.specs.Prelude.{◌≡◌, ℕ, List, Option, Some, None, is_none, if◌then◌else◌, IsSomeAnd}
use Rattle.faults.specs.Present.{first_in}
use Rattle.elf_objects.specs.Objects.{Object}
use Rattle.elf_objects.specs.FileObject.{object_in}
use Rattle.elf_objects.specs.Faults.{faults_of}
use Rattle.elf_objects.specs.declared.fault.Fault.{Fault}
use Rattle.elf_objects.specs.declared.fault.Refusal.{Refusal}
use Rattle.elf_objects.specs.declared.fault.ObjectFault.{ObjectFault}
use Rattle.elf_objects.specs.declared.fault.ObjectFault.TheVariants.{Bad, Memory}

-- the object that the bytes of a file are, where no fault is present in them
unfoldable pub object_of : List ℕ → Option Object
object_of file = if is_none (first_in (faults_of file)) then Some (object_in file) else None

-- a fault in the object with a number
abbrev pub in_object : ℕ → Refusal → Fault
in_object object r = record { code = r.code; object = object; section = r.section; offset = r.offset }

-- the first fault that is present is reported, and then the file is no object; an allocation may fail at any time
abbrev pub Refuses : ObjectFault → List ℕ → ℕ → Type 0
Refuses (Bad fault) file object =
    (object_of file ≡ None) × IsSomeAnd (first_in (faults_of file)) (λ first. fault ≡ in_object object first)
Refuses Memory file object = Unit {0}
