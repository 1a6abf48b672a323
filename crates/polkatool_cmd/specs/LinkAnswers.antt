-- The result of a link.
use Rattle.std.specs.Prelude.{◌≡◌, ◌⊎◌, ℕ, List, [], ◌∷◌, length, Option, Some, None, slice_get}
use Rattle.std.specs.Io.KnownBytes.{Appends}
use Rattle.outside.specs.Outside.{Files, Rose, AppendsPrefix}
use Rattle.elf_objects.specs.declared.fault.Fault.{Fault}
use Rattle.link_core.specs.Linked.{Linked, HoldsLinked}
use Rattle.link_core.specs.Faults.{input_of, HasNoFault, HasFirstFault}
use Rattle.polkatool_cmd.specs.LinkWords.{LinkCommand, LinkInput}
use Rattle.polkatool_cmd.specs.Faults.{first_too_large}
use Rattle.polkatool_cmd.specs.Snapshot.{Snapshot, Holds, FailedRead}
use Rattle.polkatool_cmd.specs.declared.answer.Answer.{Answer}
use Rattle.polkatool_cmd.specs.declared.answer.Answer.TheVariants as answers

-- the first of these names hold these files, one each, if the contents of files are known
abbrev pub HoldFiles : Option Files → List (List ℕ) → List (List ℕ) → Type 0
HoldFiles seen names [] = Unit {0}
HoldFiles seen [] (file ∷ files) = ⊥
HoldFiles seen (name ∷ names) (file ∷ files) = Holds seen name file × HoldFiles seen names files

-- the files of a link's objects are these, and none of them is too large
pub record HasObjects (seen : Option Files) (input : LinkInput) (files : List (List ℕ)) : Type 0 where
  pub all : length files ≡ length input.objects
  pub held : HoldFiles seen input.objects files
  pub fit : first_too_large files ≡ None

-- The objects of which the names held the files have no fault, and this is their linked program.
pub record LinksFiles (seen : Option Files) (input : LinkInput) (linked : Linked) : Type 0 where
  pub files : List (List ℕ)
  pub objects : HasObjects seen input files
  pub no_fault : HasNoFault files input.wanted
  pub holds : HoldsLinked (input_of files input.wanted) linked

-- The linked program's container was written and its map put; all else is as before.
pub record HasLinked (link : LinkCommand) (old new : Snapshot) : Type 0 where
  pub linked : Linked
  pub links : LinksFiles old.files link.input linked
  pub written : Holds new.files link.output linked.container
  pub map : Appends old.out new.out linked.text
  pub others : new ≡ record old { files = new.files; out = new.out }

-- A file is too large, and those before it aren't: this is its fault.
pub record HasLargeFile (seen : Option Files) (input : LinkInput) (fault : Fault) : Type 0 where
  pub files : List (List ℕ)
  pub held : HoldFiles seen input.objects files
  pub first : first_too_large files ≡ Some fault

-- No file is too large, and this is the first fault of the objects.
pub record HasObjectFault (seen : Option Files) (input : LinkInput) (fault : Fault) : Type 0 where
  pub files : List (List ℕ)
  pub objects : HasObjects seen input files
  pub first : HasFirstFault files input.wanted fault

-- A file is missing or its read failed, and those before it were read and aren't too large; all else is as before.
pub record FailedObject (input : LinkInput) (old new : Snapshot) : Type 0 where
  pub files : List (List ℕ)
  pub held : HoldFiles old.files input.objects files
  pub fit : first_too_large files ≡ None
  pub name : List ℕ
  pub next : slice_get input.objects (length files) ≡ Some name
  pub failed : FailedRead name old new

-- The objects were linked, and the write of the output failed; all else is as before.
pub record FailedWrite (link : LinkCommand) (old new : Snapshot) : Type 0 where
  pub linked : Linked
  pub links : LinksFiles old.files link.input linked
  pub cause : Rose old.writes new.writes
  pub others : new ≡ record old { files = new.files; writes = new.writes }

-- The output was written, and a write of the map failed after a prefix of it; all else is as before.
pub record FailedPut (link : LinkCommand) (old new : Snapshot) : Type 0 where
  pub linked : Linked
  pub links : LinksFiles old.files link.input linked
  pub written : Holds new.files link.output linked.container
  pub map : AppendsPrefix old.out new.out linked.text
  pub cause : Rose old.puts new.puts
  pub others : new ≡ record old { files = new.files; out = new.out; puts = new.puts }

-- The result of a link: it is done; or it is refused, with the first file that is too large, or else with the first fault
-- of the objects; or a read or a write failed; or an allocation failed. After a refusal and after a failed allocation all
-- is as before.
abbrev pub LinkResultsIn : LinkCommand → Answer → Snapshot → Snapshot → Type 0
LinkResultsIn link answers.Done old new = HasLinked link old new
LinkResultsIn link (answers.Refused fault) old new =
    (HasLargeFile old.files link.input fault ⊎ HasObjectFault old.files link.input fault) × (new ≡ old)
LinkResultsIn link answers.Panicked old new = ⊥
LinkResultsIn link answers.Faulted old new = ⊥
LinkResultsIn link answers.OutOfGas old new = ⊥
LinkResultsIn link answers.Unanswered old new = ⊥
LinkResultsIn link answers.BadReply old new = ⊥
LinkResultsIn link answers.Usage old new = ⊥
LinkResultsIn link answers.FileFault old new =
    FailedObject link.input old new ⊎ (FailedWrite link old new ⊎ FailedPut link old new)
LinkResultsIn link answers.Memory old new = new ≡ old
