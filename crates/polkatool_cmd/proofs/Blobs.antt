-- What reading a blob and its container makes of a command.
use Rattle.std.proofs.Common.{◌≡◌, ℕ, ◌^◌, ◌<◌, List, [], length, Option, Some, None, Err, refl, sym, ap, ◌∙◌, inl, inr, arith}
use Rattle.std.proofs.lemmas.Bool.{lt-ltb}
use Rattle.outside.specs.Outside.{Files, AnswersRead}
use Rattle.outside.specs.declared.folder.ReadFault.{ReadFault}
use Rattle.outside.specs.declared.folder.ReadFault.TheVariants.{TooLarge}
use Rattle.elf_objects.specs.declared.fault.Fault.{Fault}
use Rattle.blob_codec.specs.Grammar.{Container}
use Rattle.polkatool_cmd.specs.declared.answer.Answer.{Answer}
use Rattle.polkatool_cmd.specs.declared.answer.Answer.TheVariants as answers
use Rattle.polkatool_cmd.specs.Faults.{too_large, file_too_large}
use Rattle.polkatool_cmd.specs.BlobFaults.{first_blob_fault}
use Rattle.polkatool_cmd.specs.RunWords.{RunCommand}
use Rattle.polkatool_cmd.specs.Linking.{IsTooLarge, FailsToReadOne}
use Rattle.polkatool_cmd.specs.Running.{FailsToReadReplies}
use Rattle.polkatool_cmd.specs.Answers.{HasRunFault, TextResultsIn, RunResultsIn}
use Rattle.polkatool_cmd.specs.Snapshot.{Snapshot, HasFault}
use Rattle.polkatool_cmd.specs.Blobs.{HoldsBlob, HoldsTooLarge, FailsToReadBlob}
use Rattle.polkatool_cmd.proofs.Answering.{long-read}
use Rattle.polkatool_cmd.proofs.RunFaults.{run_fault-blob, run_fault-replies}

-- a file that is too large has that fault
first_blob_fault-long :
    (fault_in : Container → Option Fault) (file : List ℕ) → 2 ^ 27 < length file
    → first_blob_fault fault_in file ≡ Some too_large
first_blob_fault-long fault_in file long = rw (lt-ltb (2 ^ 27) (length file) long) refl

-- a read that finds too many bytes
pub HoldsTooLarge-read :
    (files : Option Files) (name : List ℕ) (fault : ReadFault) → fault ≡ TooLarge
    → AnswersRead files name (2 ^ 27) (Err fault) → HoldsTooLarge files name
HoldsTooLarge-read files name fault is answer =
    let long = long-read files name (2 ^ 27) fault is answer in
    record { file = long.0; held = long.1; len = long.2 }

HasFault-long :
    (fault_in : Container → Option Fault) (files : Option Files) (name : List ℕ) (fault : Fault) → fault ≡ too_large
    → HoldsTooLarge files name → HasFault (first_blob_fault fault_in) files name (Some fault)
HasFault-long fault_in files name fault is long =
    record { file = long.file; held = long.held; first = first_blob_fault-long fault_in long.file long.len ∙ ap (λ f. Some f) (sym is) }

pub unchanged : (old new : Snapshot) → new ≡ record old { reads = new.reads } → new.reads ≡ old.reads → new ≡ old
unchanged old new others kept = others ∙ ap (λ reads. record old { reads = reads }) kept

-- a run whose blob wasn't read
pub RunResultsIn-unread :
    (asked : RunCommand) (answer : Answer) (old new : Snapshot)
    → FailsToReadBlob old.files asked.blob old.reads new.reads answer → new ≡ record old { reads = new.reads }
    → RunResultsIn asked answer old new
RunResultsIn-unread asked answers.Done old new fails others = absurd fails
RunResultsIn-unread asked answers.Panicked old new fails others = absurd fails
RunResultsIn-unread asked answers.Faulted old new fails others = absurd fails
RunResultsIn-unread asked answers.OutOfGas old new fails others = absurd fails
RunResultsIn-unread asked answers.Unanswered old new fails others = absurd fails
RunResultsIn-unread asked answers.BadReply old new fails others = absurd fails
RunResultsIn-unread asked (answers.Refused fault) old new fails others =
    let long = fails.1 in (
      record {
        blob = long.file;
        blob_held = long.held;
        file = [];
        file_held = λ fits. absurd (omega (arith, fits, long.len));
        first = run_fault-blob asked.settings.entry asked.settings.argument long.file [] long.len ∙ ap (λ f. Some f) (sym fails.0);
      },
      unchanged old new others fails.2,
    )
RunResultsIn-unread asked answers.Usage old new fails others = absurd fails
RunResultsIn-unread asked answers.FileFault old new fails others =
    inl (record { later = fails.0; cause = fails.1; others = others })
RunResultsIn-unread asked answers.Memory old new fails others = inl (unchanged old new others fails)

-- a run whose file of replies wasn't read
pub RunResultsIn-no_replies :
    (asked : RunCommand) (answer : Answer) (old new : Snapshot) (blob : List ℕ) → HoldsBlob old.files asked.blob blob
    → FailsToReadReplies old.files asked.settings.replies 1 old.reads new.reads answer → new ≡ record old { reads = new.reads }
    → RunResultsIn asked answer old new
RunResultsIn-no_replies asked answer old new blob holds fails others = by_name asked.settings.replies refl fails
  where
    large : (name : List ℕ) (fault : Fault) → asked.settings.replies ≡ Some name → IsTooLarge old.files name (2 ^ 20) → fault ≡ file_too_large 1 → HasRunFault old.files asked fault
    large name fault is long fault_is = record {
      blob = blob;
      blob_held = holds.held;
      file = long.file;
      file_held = λ fits. (rw is long.held);
      first = run_fault-replies asked.settings.entry asked.settings.argument blob long.file holds.len long.large ∙ ap (λ f. Some f) (sym fault_is);
    }

    by_answer : (name : List ℕ) → asked.settings.replies ≡ Some name → (answer : Answer) → FailsToReadOne old.files name 1 (2 ^ 20) old.reads new.reads answer → RunResultsIn asked answer old new
    by_answer name is answers.Done fails = absurd fails
    by_answer name is answers.Panicked fails = absurd fails
    by_answer name is answers.Faulted fails = absurd fails
    by_answer name is answers.OutOfGas fails = absurd fails
    by_answer name is answers.Unanswered fails = absurd fails
    by_answer name is answers.BadReply fails = absurd fails
    by_answer name is (answers.Refused fault) fails = (large name fault is fails.0 fails.1, unchanged old new others fails.2)
    by_answer name is answers.Usage fails = absurd fails
    by_answer name is answers.FileFault fails =
        inr (inl (record { blob = blob; blob_held = holds.held; fits = holds.len; name = name; is_name = is; failed = record { later = fails.later; cause = fails.cause; others = others } }))
    by_answer name is answers.Memory fails = inl (unchanged old new others fails)

    by_name : (o : Option (List ℕ)) → asked.settings.replies ≡ o → FailsToReadReplies old.files o 1 old.reads new.reads answer → RunResultsIn asked answer old new
    by_name None is fails = absurd fails
    by_name (Some name) is fails = by_answer name is answer fails

-- a command that puts a text, whose blob wasn't read
pub TextResultsIn-unread :
    (fault_in : Container → Option Fault) (text_of : Container → List ℕ) (blob : List ℕ) (answer : Answer)
    (old new : Snapshot)
    → FailsToReadBlob old.files blob old.reads new.reads answer → new ≡ record old { reads = new.reads }
    → TextResultsIn (first_blob_fault fault_in) text_of blob answer old new
TextResultsIn-unread fault_in text_of blob answers.Done old new fails others = absurd fails
TextResultsIn-unread fault_in text_of blob answers.Panicked old new fails others = absurd fails
TextResultsIn-unread fault_in text_of blob answers.Faulted old new fails others = absurd fails
TextResultsIn-unread fault_in text_of blob answers.OutOfGas old new fails others = absurd fails
TextResultsIn-unread fault_in text_of blob answers.Unanswered old new fails others = absurd fails
TextResultsIn-unread fault_in text_of blob answers.BadReply old new fails others = absurd fails
TextResultsIn-unread fault_in text_of blob (answers.Refused fault) old new fails others =
    (HasFault-long fault_in old.files blob fault fails.0 fails.1, unchanged old new others fails.2)
TextResultsIn-unread fault_in text_of blob answers.Usage old new fails others = absurd fails
TextResultsIn-unread fault_in text_of blob answers.FileFault old new fails others =
    inl (record { later = fails.0; cause = fails.1; others = others })
TextResultsIn-unread fault_in text_of blob answers.Memory old new fails others = unchanged old new others fails
