-- What calls of folders and sinks answer, and when.
use Rattle.std.specs.Prelude.{◌≡◌, ◌≢◌, ◌⊎◌, ℕ, ◌+◌, ◌-◌, ◌^◌, ◌<◌, ◌≤◌, min, List, take, length, Result, Ok, Err, Option, Some, None, OnOk, OnErr, IsErrOf}
use Rattle.std.specs.Io.KnownBytes.{Appends}
use Rattle.outside.specs.declared.folder.ReadFault.{ReadFault}
use Rattle.outside.specs.declared.folder.ReadFault.TheVariants.{Failed, TooLarge, Memory}

-- what each name holds, and `None` where there is no file of that name
abbrev pub Files : Type 0
Files = List ℕ → Option (List ℕ)

-- the count that follows this one; a count stays at the last value of 64 bits
abbrev pub next_count : ℕ → ℕ
next_count n = min (n + 1) (2 ^ 64 - 1)

-- a count of faults rose in the call, or has its last value after it
abbrev pub Rose : ℕ → ℕ → Type 0
Rose before now = next_count before ≤ now

-- a call fails only where its count of faults rose, and moves the count only where it fails
pub record HasCause {T E : Type 0} (before now : ℕ) (result : Result T E) : Type 0 where
  pub later : before ≤ now
  pub failed : OnErr result (Rose before now)
  pub kept : OnOk result (now ≡ before)

-- what a read may answer of this content: all of its bytes where they are within the limit
abbrev pub ReadsContent : Option (List ℕ) → ℕ → Result (List ℕ) ReadFault → Type 0
ReadsContent content limit (Ok bytes) = (content ≡ Some bytes) × (length bytes ≤ limit)
ReadsContent content limit (Err Failed) = Unit {0}
ReadsContent content limit (Err TooLarge) = (bytes : List ℕ) × (content ≡ Some bytes) × (limit < length bytes)
ReadsContent content limit (Err Memory) = Unit {0}

-- what a read of this name may answer, if the contents of files are known and if they aren't
abbrev pub AnswersRead : Option Files → List ℕ → ℕ → Result (List ℕ) ReadFault → Type 0
AnswersRead None name limit (Ok bytes) = length bytes ≤ limit
AnswersRead None name limit (Err fault) = Unit {0}
AnswersRead (Some files) name limit result = ReadsContent (files name) limit result

-- the contents of files are known, and no file has this name
abbrev pub Missing : Option Files → List ℕ → Type 0
Missing None name = ⊥
Missing (Some files) name = files name ≡ None

-- a read fails only where its count of faults rose or the name is missing, and moves the count only where it fails
pub record ReadCause {T : Type 0} (files : Option Files) (name : List ℕ) (before now : ℕ) (result : Result T ReadFault) : Type 0 where
  pub later : before ≤ now
  pub failed : IsErrOf result Failed → Rose before now ⊎ Missing files name
  pub kept : (IsErrOf result Failed → ⊥) → now ≡ before

-- the name holds these bytes, if the contents of files are known
abbrev pub AnswersWrite : Option Files → List ℕ → List ℕ → Type 0
AnswersWrite None name bytes = Unit {0}
AnswersWrite (Some files) name bytes = files name ≡ Some bytes

-- every other name holds what it held, if the contents of files are known
abbrev pub KeepsOthers : List ℕ → Option Files → Option Files → Type 0
KeepsOthers name None new = Unit {0}
KeepsOthers name (Some old) None = ⊥
KeepsOthers name (Some old) (Some new) = (other : List ℕ) → other ≢ name → new other ≡ old other

-- a prefix of the piece was appended, if the bytes of the sink are known
abbrev pub AppendsPrefix : Option (List ℕ) → Option (List ℕ) → List ℕ → Type 0
AppendsPrefix old new piece = (n : ℕ) × Appends old new (take n piece)
