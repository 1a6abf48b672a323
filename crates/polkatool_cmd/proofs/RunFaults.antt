-- The first fault of the files of a run.
use Rattle.std.proofs.Common.{◌≡◌, ℕ, ◌*◌, ◌^◌, ◌<◌, ◌≤◌, List, length, false, Option, Some, None, Ok, Err, refl, inl, inr}
use Rattle.std.proofs.lemmas.Bool.{cases_lt, le-ltb, lt-ltb, true_from_ne_false}
use Rattle.elf_objects.specs.declared.fault.Fault.{Fault}
use Rattle.blob_check.specs.Starts.{is_start}
use Rattle.blob_codec.specs.Grammar.{Container}
use Rattle.blob_codec.specs.Reading.{container_of}
use Rattle.transcript.specs.Hosts.{Reply}
use Rattle.transcript.specs.Grammar.{replies_of}
use Rattle.polkatool_cmd.specs.Faults.{too_large, file_too_large}
use Rattle.polkatool_cmd.specs.RunFaults.{first_start_fault, first_run_fault, bad_reply_line}

-- a container that can be started
pub first_start_fault-none :
    (entry : ℕ) (argument file : List ℕ) (c : Container) → container_of file ≡ Ok c
    → (2 ^ 24 < length argument → ⊥)
    → ((length argument ≤ 2 ^ 24) × (is_start c.program.code (5 * entry) ≡ false) → ⊥)
    → first_start_fault entry argument file ≡ None
first_start_fault-none entry argument file c is fits starts = elim (cases_lt (2 ^ 24) (length argument)) [
  | inl more ↦ absurd (fits more)
  | inr within ↦
      rw (
        is,
        le-ltb (2 ^ 24) (length argument) within,
        true_from_ne_false (is_start c.program.code (5 * entry)) (λ none. starts (within, none)),
      ) refl
]

module _ (entry : ℕ) (argument blob file : List ℕ) where
  -- the blob's file is too large
  pub run_fault-blob : 2 ^ 27 < length blob → first_run_fault entry argument blob file ≡ Some too_large
  run_fault-blob large = rw (lt-ltb (2 ^ 27) (length blob) large) refl

  module _ (fits : length blob ≤ 2 ^ 27) where
    -- the file of replies is
    pub run_fault-replies : 2 ^ 20 < length file → first_run_fault entry argument blob file ≡ Some (file_too_large 1)
    run_fault-replies large = rw (le-ltb (2 ^ 27) (length blob) fits, lt-ltb (2 ^ 20) (length file) large) refl

    module _ (short : length file ≤ 2 ^ 20) where
      -- a line is no reply
      pub run_fault-line : (line : ℕ) → replies_of file ≡ Err line → first_run_fault entry argument blob file ≡ Some (bad_reply_line line)
      run_fault-line line is = rw (le-ltb (2 ^ 27) (length blob) fits, le-ltb (2 ^ 20) (length file) short, is) refl

      -- what the container is decides
      pub run_fault-start : (replies : List Reply) (fault : Option Fault) → replies_of file ≡ Ok replies → first_start_fault entry argument blob ≡ fault → first_run_fault entry argument blob file ≡ fault
      run_fault-start replies fault is start = rw (le-ltb (2 ^ 27) (length blob) fits, le-ltb (2 ^ 20) (length file) short, is) start
