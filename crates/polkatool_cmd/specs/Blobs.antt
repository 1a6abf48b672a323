-- The results of the parts of a command that reads a container.
use Rattle.std.specs.Prelude.{◌≡◌, ◌⊎◌, ℕ, ◌^◌, ◌<◌, ◌≤◌, List, length, Option, Some, None}
use Rattle.std.specs.Io.KnownBytes.{Appends}
use Rattle.outside.specs.Outside.{Files, Rose, Missing, AppendsPrefix}
use Rattle.elf_objects.specs.declared.fault.Fault.{Fault}
use Rattle.blob_codec.specs.Grammar.{Container, IsContainer, container_bytes}
use Rattle.polkatool_cmd.specs.Faults.{too_large}
use Rattle.polkatool_cmd.specs.Snapshot.{Holds, Stream}
use Rattle.polkatool_cmd.specs.declared.answer.Answer.{Answer}
use Rattle.polkatool_cmd.specs.declared.answer.Answer.TheVariants as answers

-- the name holds this file, which isn't too large for a blob
pub record HoldsBlob (files : Option Files) (name file : List ℕ) : Type 0 where
  pub held : Holds files name file
  pub len : length file ≤ 2 ^ 27

-- the name holds a file that is too large for a blob
pub record HoldsTooLarge (files : Option Files) (name : List ℕ) : Type 0 where
  pub file : List ℕ
  pub held : Holds files name file
  pub len : 2 ^ 27 < length file

-- the bytes are those of a container
abbrev pub SpellsContainer : List ℕ → Type 0
SpellsContainer bytes = (c : Container) × (bytes ≡ container_bytes c) × IsContainer c

-- how a read of a blob that gave no bytes is answered, with the counts of failed reads before and after it
abbrev pub FailsToReadBlob : Option Files → List ℕ → ℕ → ℕ → Answer → Type 0
FailsToReadBlob files name before now answers.FileFault = (before ≤ now) × (Rose before now ⊎ Missing files name)
FailsToReadBlob files name before now (answers.Refused fault) =
    (fault ≡ too_large) × HoldsTooLarge files name × (now ≡ before)
FailsToReadBlob files name before now answers.Memory = now ≡ before
FailsToReadBlob files name before now answer = ⊥

-- how the text of a container is written to a sink: the whole text, or a write failed after a prefix of it; if there is
-- a fault, the answer is that one, and nothing is written
abbrev pub WritesText : Option Fault → List ℕ → Answer → Stream → Stream → Type 0
WritesText fault text answers.Done old new =
    (fault ≡ None) × Appends old.text new.text text × (new.puts ≡ old.puts)
WritesText fault text answers.FileFault old new =
    (fault ≡ None) × AppendsPrefix old.text new.text text × Rose old.puts new.puts
WritesText fault text (answers.Refused seen) old new = (fault ≡ Some seen) × (new ≡ old)
WritesText fault text answer old new = ⊥
