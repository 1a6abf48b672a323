-- Commands without a fault and without a failed call.
use Rattle.std.proofs.Common.{◌≡◌, ◌⊎◌, ℕ, zero, suc, ◌+◌, ◌-◌, ◌^◌, Bool, true, false, List, [], ◌∷◌, length, Option, Some, None, refl, sym, ap, ◌∙◌, subst, inl, inr, arith}
use Rattle.std.specs.Prelude.{nat_lt, slice_get}
use Rattle.outside.specs.Outside.{Files, Rose, Missing}
use Rattle.elf_objects.specs.declared.fault.Fault.{Fault}
use Rattle.blob_codec.specs.Grammar.{Container}
use Rattle.link_core.specs.Faults.{HasFirstFault, FirstFaultIsOne}
use Rattle.polkatool_cmd.specs.Answers.{HoldsContainer, TextResultsIn, Reports}
use Rattle.polkatool_cmd.specs.Complete.{AreFilesKnown, NoneFailed, CanLink}
use Rattle.polkatool_cmd.specs.Faults.{limit_of, too_large_from, first_too_large}
use Rattle.polkatool_cmd.specs.LinkAnswers.{HoldFiles, HasLargeFile, HasObjectFault, FailedObject, FailedWrite, FailedPut, LinkResultsIn}
use Rattle.polkatool_cmd.specs.LinkWords.{LinkCommand}
use Rattle.polkatool_cmd.specs.Snapshot.{Snapshot, Stream, Holds, FailedRead}
use Rattle.polkatool_cmd.specs.declared.answer.Answer.{Answer}
use Rattle.polkatool_cmd.specs.declared.answer.Answer.TheVariants as answers
use Rattle.polkatool_cmd.specs.declared.status.Status.{Status}
use Rattle.polkatool_cmd.specs.declared.status.Status.TheVariants as statuses

-- a name holds one file
pub holds_one : (seen : Option Files) (name f g : List ℕ) → AreFilesKnown seen → Holds seen name f → Holds seen name g → f ≡ g
holds_one None name f g known a b = absurd known
holds_one (Some files) name f g known a b = let same : ◌≡◌ {A = Option (List ℕ)} (Some f) (Some g) = sym a ∙ b in cc

-- a name that holds a file isn't missing
pub not_missing : (seen : Option Files) (name f : List ℕ) → Holds seen name f → Missing seen name → ⊥
not_missing None name f a missing = missing
not_missing (Some files) name f a missing = let none : ◌≡◌ {A = Option (List ℕ)} (Some f) None = sym a ∙ missing in cc

-- the read of a name that holds a file didn't fail, where no count rose
pub not_unread : (name f : List ℕ) (old new : Snapshot) → Holds old.files name f → ¬ Rose old.reads new.reads → FailedRead name old new → ⊥
not_unread name f old new held none failed = by_cause failed.cause
  where
    by_cause : Rose old.reads new.reads ⊎ Missing old.files name → ⊥
    by_cause (inl rose) = none rose
    by_cause (inr missing) = not_missing old.files name f held missing

-- files of the same names are the same
pub same_files : (seen : Option Files) (names fs gs : List (List ℕ)) → AreFilesKnown seen → HoldFiles seen names fs → HoldFiles seen names gs → length fs ≡ length names → length gs ≡ length names → fs ≡ gs
same_files seen [] [] [] known a b e f = refl
same_files seen [] (x ∷ fs) gs known a b e f = absurd a
same_files seen [] [] (y ∷ gs) known a b e f = absurd b
same_files seen (name ∷ names) [] gs known a b e f = absurd (omega (arith, e))
same_files seen (name ∷ names) (x ∷ fs) [] known a b e f = absurd (omega (arith, f))
same_files seen (name ∷ names) (x ∷ fs) (y ∷ gs) known a b e f =
    let one : x ≡ y = holds_one seen name x y known a.0 b.0 in
    let rest : fs ≡ gs = same_files seen names fs gs known a.1 b.1 (omega (arith, e)) (omega (arith, f)) in
    ap (λ z. z ∷ fs) one ∙ ap (λ l. y ∷ l) rest

-- where no file of all is too large, none of the first is
pub none_large : (seen : Option Files) (number left : ℕ) (names fs gs : List (List ℕ)) → AreFilesKnown seen → HoldFiles seen names fs → HoldFiles seen names gs → length gs ≡ length names → too_large_from number left gs ≡ None → too_large_from number left fs ≡ None
none_large seen number left names [] gs known a b e none = refl
none_large seen number left [] (x ∷ fs) gs known a b e none = absurd a
none_large seen number left (name ∷ names) (x ∷ fs) [] known a b e none = absurd (omega (arith, e))
none_large seen number left (name ∷ names) (x ∷ fs) (y ∷ gs) known a b e none =
    let one : x ≡ y = holds_one seen name x y known a.0 b.0 in
    subst (λ z. too_large_from number left (z ∷ fs) ≡ None) (sym one)
    (by_test (λ rest. none_large seen (number + 1) (left - length y) names fs gs known a.1 b.1 (omega (arith, e)) rest) (nat_lt (limit_of left) (length y)) refl)
  where
    by_test : (too_large_from (number + 1) (left - length y) gs ≡ None → too_large_from (number + 1) (left - length y) fs ≡ None) → (large : Bool) → nat_lt (limit_of left) (length y) ≡ large → too_large_from number left (y ∷ fs) ≡ None
    by_test further true is = let no = rw is at none in absurd cc
    by_test further false is = rw is (further (rw is at none))

-- a name of those that hold files holds one
pub next_held : (seen : Option Files) (names gs : List (List ℕ)) (at : ℕ) (name : List ℕ) → HoldFiles seen names gs → length gs ≡ length names → slice_get names at ≡ Some name → (f : List ℕ) × Holds seen name f
next_held seen [] gs at name held e there = absurd cc
next_held seen (n ∷ names) [] at name held e there = absurd (omega (arith, e))
next_held seen (n ∷ names) (g ∷ gs) zero name held e there =
    let same : n ≡ name = cc in (g, subst (λ m. Holds seen m g) same held.0)
next_held seen (n ∷ names) (g ∷ gs) (suc at) name held e there = next_held seen names gs at name held.1 (omega (arith, e)) there

-- the status of what was out of memory
pub memory_status : (status wanted : Status) (err err' : Stream) → ¬ Rose err.puts err'.puts → Reports answers.Memory status err err' → (status ≡ wanted) ⊎ (status ≡ statuses.Memory)
memory_status status wanted err err' none (inl put) = inr put.status_is
memory_status status wanted err err' none (inr cut) = absurd (none cut.cause)

pub link_complete :
    FirstFaultIsOne → (link : LinkCommand) (wanted status : Status) (answer : Answer) (old new : Snapshot) (err err' : Stream) → AreFilesKnown old.files
    → CanLink old.files link wanted → NoneFailed old new err err' → LinkResultsIn link answer old new → Reports answer status err err'
    → (status ≡ wanted) ⊎ (status ≡ statuses.Memory)
link_complete law link wanted status answer old new err err' known can none results reports = by_answer answer results reports
  where
    large : (fault : Fault) → HasLargeFile old.files link.input fault → ⊥
    large fault l =
        let small : first_too_large l.files ≡ None = none_large old.files 0 (2 ^ 26) link.input.objects l.files can.files known l.held can.objects.held can.objects.all can.objects.fit in
        let no : ◌≡◌ {A = Option Fault} (Some fault) None = sym l.first ∙ small in
        absurd cc

    faulty : (fault : Fault) → HasObjectFault old.files link.input fault → ⊥
    faulty fault o =
        let same : o.files ≡ can.files = same_files old.files link.input.objects o.files can.files known o.objects.held can.objects.held o.objects.all can.objects.all in
        law.none can.files link.input.wanted fault can.no_fault (subst (λ files. HasFirstFault files link.input.wanted fault) same o.first)

    refused : (fault : Fault) → HasLargeFile old.files link.input fault ⊎ HasObjectFault old.files link.input fault → ⊥
    refused fault (inl l) = large fault l
    refused fault (inr o) = faulty fault o

    unread : FailedObject link.input old new → ⊥
    unread f =
        let there = next_held old.files link.input.objects can.files (length f.files) f.name can.objects.held can.objects.all f.next in
        not_unread f.name there.0 old new there.1 none.reads f.failed

    failed : FailedObject link.input old new ⊎ (FailedWrite link old new ⊎ FailedPut link old new) → ⊥
    failed (inl f) = unread f
    failed (inr (inl w)) = none.writes w.cause
    failed (inr (inr p)) = none.puts p.cause

    by_answer : (answer : Answer) → LinkResultsIn link answer old new → Reports answer status err err' → (status ≡ wanted) ⊎ (status ≡ statuses.Memory)
    by_answer answers.Done results reports = inl (reports.0 ∙ sym can.status_is)
    by_answer answers.Panicked results reports = absurd results
    by_answer answers.Faulted results reports = absurd results
    by_answer answers.OutOfGas results reports = absurd results
    by_answer answers.Unanswered results reports = absurd results
    by_answer answers.BadReply results reports = absurd results
    by_answer (answers.Refused fault) results reports = absurd (refused fault results.0)
    by_answer answers.Usage results reports = absurd results
    by_answer answers.FileFault results reports = absurd (failed results)
    by_answer answers.Memory results reports = memory_status status wanted err err' none.err_puts reports

-- a command that puts a text of a container
pub text_complete :
    (first_of : List ℕ → Option Fault) (text_of : Container → List ℕ) (blob : List ℕ) (container : Container) (wanted status : Status) (answer : Answer) (old new : Snapshot) (err err' : Stream) → AreFilesKnown old.files
    → HoldsContainer first_of old.files blob container → wanted ≡ statuses.Done → NoneFailed old new err err' → TextResultsIn first_of text_of blob answer old new → Reports answer status err err'
    → (status ≡ wanted) ⊎ (status ≡ statuses.Memory)
text_complete first_of text_of blob container wanted status answer old new err err' known holds done none results reports = by_answer answer results reports
  where
    refused : (fault : Fault) (file : List ℕ) → Holds old.files blob file → first_of file ≡ Some fault → ⊥
    refused fault file held first =
        let same : file ≡ holds.file = holds_one old.files blob file holds.file known held holds.held in
        let no : ◌≡◌ {A = Option Fault} (Some fault) None = sym first ∙ ap first_of same ∙ holds.no_fault in
        absurd cc

    by_answer : (answer : Answer) → TextResultsIn first_of text_of blob answer old new → Reports answer status err err' → (status ≡ wanted) ⊎ (status ≡ statuses.Memory)
    by_answer answers.Done results reports = inl (reports.0 ∙ sym done)
    by_answer answers.Panicked results reports = absurd results
    by_answer answers.Faulted results reports = absurd results
    by_answer answers.OutOfGas results reports = absurd results
    by_answer answers.Unanswered results reports = absurd results
    by_answer answers.BadReply results reports = absurd results
    by_answer (answers.Refused fault) results reports = absurd (refused fault results.0.file results.0.held results.0.first)
    by_answer answers.Usage results reports = absurd results
    by_answer answers.FileFault (inl unread) reports = absurd (not_unread blob holds.file old new holds.held none.reads unread)
    by_answer answers.FileFault (inr cut) reports = absurd (none.puts cut.cause)
    by_answer answers.Memory results reports = memory_status status wanted err err' none.err_puts reports
