-- What is outside the program, as contracts see it, and how a file is read from it.
use Rattle.std.specs.Prelude.{◌≡◌, ◌≤◌, ◌⊎◌, ℕ, List, Option}
use Rattle.outside.specs.Outside.{Files, Rose, Missing, AnswersWrite}
pub use Rattle.transcript.specs.WritingRuns.{Stream}
use Rattle.elf_objects.specs.declared.fault.Fault.{Fault}

-- The contents of the folder and of standard output, and how many reads and writes have failed.
pub record Snapshot : Type 0 where
  pub files : Option Files
  pub reads : ℕ
  pub writes : ℕ
  pub out : Option (List ℕ)
  pub puts : ℕ

-- the name holds these bytes, if the contents of files are known: as after a write that succeeded
abbrev pub Holds : Option Files → List ℕ → List ℕ → Type 0
Holds = AnswersWrite

-- the name holds a file, if the contents of files are known, and its first fault is this one, or it has none
pub record HasFault (first_of : List ℕ → Option Fault) (files : Option Files) (name : List ℕ) (fault : Option Fault)
    : Type 0 where
  pub file : List ℕ
  pub held : Holds files name file
  pub first : first_of file ≡ fault

-- The name of the file to read is missing or its read failed; all else is as before.
pub record FailedRead (name : List ℕ) (old new : Snapshot) : Type 0 where
  pub later : old.reads ≤ new.reads
  pub cause : Rose old.reads new.reads ⊎ Missing old.files name
  pub others : new ≡ record old { reads = new.reads }
