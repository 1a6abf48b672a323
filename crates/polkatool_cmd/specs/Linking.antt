-- The results of the parts of a link.
use Rattle.std.specs.Prelude.{◌≡◌, ◌≤◌, ◌<◌, ◌⊎◌, ℕ, List, length, Option, Some, None, slice_get}
use Rattle.outside.specs.Outside.{Files, Rose, Missing}
use Rattle.elf_objects.specs.declared.fault.Fault.{Fault}
use Rattle.polkatool_cmd.specs.LinkWords.{LinkInput}
use Rattle.polkatool_cmd.specs.Faults.{limit_of, file_too_large, first_too_large}
use Rattle.polkatool_cmd.specs.Snapshot.{Holds}
use Rattle.polkatool_cmd.specs.LinkAnswers.{HoldFiles, HasLargeFile, HasObjectFault}
use Rattle.polkatool_cmd.specs.declared.answer.Answer.{Answer}
use Rattle.polkatool_cmd.specs.declared.answer.Answer.TheVariants as answers

-- a read of the name failed, which moved the count of failed reads, or it is missing
pub record FailsToRead (seen : Option Files) (name : List ℕ) (before now : ℕ) : Type 0 where
  pub later : before ≤ now
  pub cause : Rose before now ⊎ Missing seen name

-- the file of the name is larger than the number of bytes that are left
pub record IsTooLarge (seen : Option Files) (name : List ℕ) (left : ℕ) : Type 0 where
  pub file : List ℕ
  pub held : Holds seen name file
  pub large : limit_of left < length file

-- why the file with a number isn't read; only a failed read moves the count
abbrev pub FailsToReadOne : Option Files → List ℕ → ℕ → ℕ → ℕ → ℕ → Answer → Type 0
FailsToReadOne seen name number left before now (answers.Refused fault) =
    IsTooLarge seen name left × (fault ≡ file_too_large number) × (now ≡ before)
FailsToReadOne seen name number left before now answers.FileFault = FailsToRead seen name before now
FailsToReadOne seen name number left before now answers.Memory = now ≡ before
FailsToReadOne seen name number left before now answer = ⊥

-- the names hold these files, of which none is too large
pub record HasRead (seen : Option Files) (names files : List (List ℕ)) : Type 0 where
  pub all : length files ≡ length names
  pub held : HoldFiles seen names files
  pub fit : first_too_large files ≡ None

-- a file of these is too large, and those before it aren't
pub record HasLarge (seen : Option Files) (names : List (List ℕ)) (fault : Fault) : Type 0 where
  pub files : List (List ℕ)
  pub held : HoldFiles seen names files
  pub first : first_too_large files ≡ Some fault

-- a file of these isn't read, and those before it were
pub record HasFailed (seen : Option Files) (names : List (List ℕ)) (before now : ℕ) : Type 0 where
  pub files : List (List ℕ)
  pub held : HoldFiles seen names files
  pub fit : first_too_large files ≡ None
  pub name : List ℕ
  pub next : slice_get names (length files) ≡ Some name
  pub failed : FailsToRead seen name before now

-- why files aren't read
abbrev pub FailsToReadAll : Option Files → List (List ℕ) → ℕ → ℕ → Answer → Type 0
FailsToReadAll seen names before now (answers.Refused fault) = HasLarge seen names fault × (now ≡ before)
FailsToReadAll seen names before now answers.FileFault = HasFailed seen names before now
FailsToReadAll seen names before now answers.Memory = now ≡ before
FailsToReadAll seen names before now answer = ⊥

-- why objects aren't linked: by their files, or by a fault of theirs
abbrev pub LinksOrFails : Option Files → LinkInput → ℕ → ℕ → Answer → Type 0
LinksOrFails seen input before now (answers.Refused fault) =
    (HasLargeFile seen input fault ⊎ HasObjectFault seen input fault) × (now ≡ before)
LinksOrFails seen input before now answers.FileFault = HasFailed seen input.objects before now
LinksOrFails seen input before now answers.Memory = now ≡ before
LinksOrFails seen input before now answer = ⊥
