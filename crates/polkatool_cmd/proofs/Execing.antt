-- What the parts of an exec make of it.
use Rattle.std.proofs.Common.{◌≡◌, ℕ, ◌^◌, ◌≤◌, Bool, true, false, List, length, Option, Some, None, Result, Ok, refl, sym, ap, ◌∙◌, inl, inr}
use Rattle.std.specs.Prelude.{nat_lt}
use Rattle.std.proofs.lemmas.Bool.{le-ltb, lt-ltb, ltb-false}
use Rattle.faults.specs.First.{◌or_else◌, where_true}
use Rattle.elf_objects.specs.declared.fault.Fault.{Fault}
use Rattle.blob_codec.specs.Grammar.{Container, IsContainer, container_bytes}
use Rattle.blob_codec.specs.declared.fault.BlobFault.{BlobFault}
use Rattle.blob_codec.specs.Reading.{container_of}
use Rattle.blob_codec.proofs.Containers.{container_again}
use Rattle.transcript.specs.Hosts.{Reply}
use Rattle.transcript.specs.Grammar.{replies_of}
use Rattle.polkatool_cmd.specs.declared.answer.Answer.{Answer}
use Rattle.polkatool_cmd.specs.declared.answer.Answer.TheVariants as answers
use Rattle.polkatool_cmd.specs.Answers.{HasRepliesFault, ExecResultsIn}
use Rattle.polkatool_cmd.specs.ExecWords.{ExecCommand}
use Rattle.polkatool_cmd.specs.Faults.{file_too_large}
use Rattle.polkatool_cmd.specs.LinkAnswers.{HasObjects}
use Rattle.polkatool_cmd.specs.Linking.{IsTooLarge, FailsToReadOne}
use Rattle.polkatool_cmd.specs.BlobFaults.{blob_fault, container_fault}
use Rattle.polkatool_cmd.specs.RunFaults.{bad_entry_fault, run_fault_in, first_start_fault, replies_fault}
use Rattle.polkatool_cmd.specs.declared.fault_codes.TheConstants.{ARGUMENT_TOO_LARGE}
use Rattle.polkatool_cmd.specs.Running.{FailsToReadReplies}
use Rattle.polkatool_cmd.specs.Snapshot.{Snapshot}
use Rattle.polkatool_cmd.proofs.Blobs.{unchanged}

-- a file of replies without a fault
pub replies_fault-none : (number : ℕ) (file : List ℕ) (replies : List Reply) → length file ≤ 2 ^ 20 → replies_of file ≡ Ok replies → replies_fault number file ≡ None
replies_fault-none number file replies short is = rw (le-ltb (2 ^ 20) (length file) short, is) refl

-- an exec whose file of replies wasn't read
pub ExecResultsIn-no_replies :
    (asked : ExecCommand) (answer : Answer) (old new : Snapshot) (files : List (List ℕ)) (number : ℕ) → HasObjects old.files asked.input files
    → number ≡ length files → FailsToReadReplies old.files asked.settings.replies number old.reads new.reads answer → new ≡ record old { reads = new.reads }
    → ExecResultsIn asked answer old new
ExecResultsIn-no_replies asked answer old new files number objects count fails others = by_name asked.settings.replies refl fails
  where
    large : (name : List ℕ) (fault : Fault) → asked.settings.replies ≡ Some name → IsTooLarge old.files name (2 ^ 20) → fault ≡ file_too_large number → HasRepliesFault old.files asked fault
    large name fault is long fault_is = record {
      files = files;
      objects = objects;
      file = long.file;
      file_held = rw is long.held;
      first =
          rw (lt-ltb (2 ^ 20) (length long.file) long.large)
          (ap (λ n. Some (file_too_large n)) (sym (count ∙ objects.all)) ∙ ap (λ f. Some f) (sym fault_is));
    }

    by_answer : (name : List ℕ) → asked.settings.replies ≡ Some name → (answer : Answer) → FailsToReadOne old.files name number (2 ^ 20) old.reads new.reads answer → ExecResultsIn asked answer old new
    by_answer name is answers.Done fails = absurd fails
    by_answer name is answers.Panicked fails = absurd fails
    by_answer name is answers.Faulted fails = absurd fails
    by_answer name is answers.OutOfGas fails = absurd fails
    by_answer name is answers.Unanswered fails = absurd fails
    by_answer name is answers.BadReply fails = absurd fails
    by_answer name is (answers.Refused fault) fails = (inr (inl (large name fault is fails.0 fails.1)), unchanged old new others fails.2)
    by_answer name is answers.Usage fails = absurd fails
    by_answer name is answers.FileFault fails =
        inr (inl (record { files = files; objects = objects; name = name; is_name = is; failed = record { later = fails.later; cause = fails.cause; others = others } }))
    by_answer name is answers.Memory fails = inl (unchanged old new others fails)

    by_name : (o : Option (List ℕ)) → asked.settings.replies ≡ o → FailsToReadReplies old.files o number old.reads new.reads answer → ExecResultsIn asked answer old new
    by_name None is fails = absurd fails
    by_name (Some name) is fails = by_answer name is answer fails

-- the container that is read is the one that was written
pub one_container : (file bytes : List ℕ) (c d : Container) → file ≡ bytes → bytes ≡ container_bytes d → IsContainer d → container_of file ≡ Ok c → c ≡ d
one_container file bytes c d same spelled is read =
    let again : ◌≡◌ {A = Result Container BlobFault} (Ok c) (Ok d) = sym read ∙ ap container_of (same ∙ spelled) ∙ container_again d is in
    cc

-- where a start has no fault, its argument isn't too long
pub argument_fits : (entry : ℕ) (argument file : List ℕ) (c : Container) → first_start_fault entry argument file ≡ None → container_of file ≡ Ok c → length argument ≤ 2 ^ 24
argument_fits entry argument file c none is = by_test (nat_lt (2 ^ 24) (length argument)) refl (sym (ap (container_fault (run_fault_in entry argument)) is) ∙ none)
  where
    by_test : (b : Bool) → nat_lt (2 ^ 24) (length argument) ≡ b → (where_true b (blob_fault ARGUMENT_TOO_LARGE) or_else bad_entry_fault entry c) ≡ None → length argument ≤ 2 ^ 24
    by_test false short e = ltb-false (2 ^ 24) (length argument) short
    by_test true long e = absurd cc
