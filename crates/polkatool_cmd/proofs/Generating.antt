-- What the parts of a generation make of it.
use Rattle.std.proofs.Common.{◌≡◌, ◌⊎◌, ℕ, ◌-◌, ◌≤◌, List, [], ◌∷◌, ◌++◌, length, Option, Some, true, None, sym, ap, ◌∙◌, subst, append_assoc, inl, inr, arith}
use Rattle.std.specs.Prelude.{not, Result, Ok, Err}
use Rattle.std.proofs.lemmas.Bool.{not-false}
use Rattle.faults.proofs.Absent.{none-left, none-broken}
use Rattle.runs.specs.Runs.{MeteredRun}
use Rattle.machine_state.specs.Ends.{Event, End, Halt, Panic, Fault, Unanswered, halt, event, no_host}
use Rattle.blob_check.specs.Faults.{IsChecked}
use Rattle.blob_check.specs.Starts.{is_start}
use Rattle.blob_check.specs.declared.checking.CheckFault.TheVariants.{NoFirst}
use Rattle.blob_codec.specs.Grammar.{Program, Container}
use Rattle.blob_codec.specs.Reading.{container_of}
use Rattle.blob_codec.specs.declared.fault.BlobFault.{BlobFault}
use Rattle.blob_codec.proofs.Containers.{container_again}
use Rattle.pvm_machine.specs.Machine.{Machine}
use Rattle.pvm_machine.specs.Ran.{last_answer, run_of, RunsTo, IsRun}
use Rattle.pvm_machine.specs.Started.{started}
use Rattle.pvm_machine.specs.declared.answers.Exit.{Exit}
use Rattle.pvm_machine.specs.declared.answers.Exit.TheVariants as exits
use Rattle.link_core.specs.Faults.{input_of}
use Rattle.link_core.specs.Linked.{IsLinked}
use Rattle.link_core.specs.Parts.{total}
use Rattle.link_core.specs.Runs.{machine_run}
use Rattle.generated_runs.specs.Runs.{SpendsAll}
use Rattle.generated_runs.specs.Laws.{GeneratedHasNoFault, GeneratedHalts}
use Rattle.polkatool_cmd.specs.Blobs.{SpellsContainer, WritesText}
use Rattle.polkatool_cmd.specs.GenerateAnswers.{generated_files, generated_wanted, generated_gas, HasHalted, line_of, GenerateResultsIn}
use Rattle.polkatool_cmd.specs.GenerateWords.{GenerateCommand}
use Rattle.polkatool_cmd.specs.Lines.{generated_line}
use Rattle.polkatool_cmd.specs.LinkWords.{default_stack}
use Rattle.polkatool_cmd.specs.Snapshot.{Stream}
use Rattle.polkatool_cmd.specs.declared.answer.Answer.{Answer}
use Rattle.polkatool_cmd.specs.declared.answer.Answer.TheVariants as answers

-- a line that is put together part by part
pub parts-joined :
    (a b c d e f g h i j l0 l1 l2 l3 l4 l5 l6 l7 l8 l9 l10 : List ℕ)
    → l0 ≡ [] → l1 ≡ l0 ++ a → l2 ≡ l1 ++ b → l3 ≡ l2 ++ c → l4 ≡ l3 ++ d → l5 ≡ l4 ++ e → l6 ≡ l5 ++ f → l7 ≡ l6 ++ g → l8 ≡ l7 ++ h → l9 ≡ l8 ++ i → l10 ≡ l9 ++ j
    → l10 ≡ a ++ b ++ c ++ d ++ e ++ f ++ g ++ h ++ i ++ j
parts-joined a b c d e f g h i j l0 l1 l2 l3 l4 l5 l6 l7 l8 l9 l10 e0 e1 e2 e3 e4 e5 e6 e7 e8 e9 e10 =
    rw (e10, e9, e8, e7, e6, e5, e4, e3, e2, e1, e0) (simp append_assoc)

-- no files have no bytes
pub total-none : (files : List (List ℕ)) → files ≡ [] → total files ≡ 0
unfolding total
total-none files none = ap total none

-- the bytes of a container are read as one
pub container-is_read : (bytes : List ℕ) (read : Result Container BlobFault) (fault : BlobFault) → SpellsContainer bytes → read ≡ container_of bytes → read ≡ Err fault → ⊥
container-is_read bytes read fault spells exact is =
    let no : ◌≡◌ {A = Result Container BlobFault} (Err fault) (Ok spells.0) = sym is ∙ exact ∙ ap container_of spells.1 ∙ container_again spells.0 spells.2 in
    cc

-- a block starts at position 0 of a checked program
pub checked-start : (p : Program) → IsChecked p → is_start p.code 0 ≡ true
checked-start p none = not-false (is_start p.code 0) (none-broken (not (is_start p.code 0)) NoFirst (none-left _ _ none))

module _ (asked : GenerateCommand) (container : Container) (few : asked.count ≤ 1000000) (halts : GeneratedHalts)
    (is_linked : IsLinked (input_of (generated_files asked) generated_wanted) container)
    (old new : Machine) (started_is : old ≡ started container 0 [] (generated_gas asked)) where
  run-is : SpendsAll (generated_gas asked) (machine_run no_host tt container 0 [] (generated_gas asked))
  run-is = halts asked.seed asked.count default_stack container few is_linked

  came : (events : List Event) (end : Option End) → RunsTo old new events end → machine_run no_host tt container 0 [] (generated_gas asked) ≡ record { events = events; end = end; left = new.gas; begun = old.gas - new.gas }
  came events end results = ap run_of (sym started_is) ∙ results

  end-is : (events : List Event) (end : Option End) → RunsTo old new events end → end ≡ Some (Halt run-is.registers run-is.memory)
  end-is events end results = ap (λ (r : MeteredRun Event End). r.end) (sym (came events end results) ∙ run-is.is)

  -- it has no other end than a halt
  pub no-other_end :
      (exit : Exit) → (exit ≡ exits.Panic) ⊎ (((address : ℕ) × (exit ≡ exits.Fault address)) ⊎ ((exit ≡ exits.OutOfGas) ⊎ ((number : ℕ) × (exit ≡ exits.Host number)))) → IsRun old new (last_answer exit) → ⊥
  no-other_end exit (inl is) run =
      let halts : ◌≡◌ {A = Option End} (Some (Panic new.state.memory)) (Some (Halt run-is.registers run-is.memory)) = end-is [] _ (subst (λ exit. IsRun old new (last_answer exit)) is run) in
      cc
  no-other_end exit (inr (inl is)) run =
      let halts : ◌≡◌ {A = Option End} (Some (Fault is.0 new.state.memory)) (Some (Halt run-is.registers run-is.memory)) = end-is [] _ (subst (λ exit. IsRun old new (last_answer exit)) is.1 run) in
      cc
  no-other_end exit (inr (inr (inl is))) run =
      let halts : ◌≡◌ {A = Option End} None (Some (Halt run-is.registers run-is.memory)) = end-is [] _ (subst (λ exit. IsRun old new (last_answer exit)) is run) in
      cc
  no-other_end exit (inr (inr (inr is))) run =
      let halts : ◌≡◌ {A = Option End} (Some (Unanswered is.0 new.state.memory)) (Some (Halt run-is.registers run-is.memory)) =
      end-is (event is.0 new.state ∷ []) _ (subst (λ exit. IsRun old new (last_answer exit)) is.1 run) in
      cc

  -- it halted
  pub has-halted : GeneratedHasNoFault → RunsTo old new [] (Some (halt new.state)) → HasHalted asked container new.state.registers
  has-halted no_fault results = record {
    no_fault = no_fault asked.seed asked.count default_stack few;
    is_linked = is_linked;
    memory = new.state.memory;
    halts =
        run-is.is
        ∙ ap (λ (end : Option End). record { events = []; end = end; left = 0; begun = generated_gas asked }) (sym (end-is [] _ results));
  }

  -- its line
  pub line-is :
      (text : List ℕ) → RunsTo old new [] (Some (halt new.state))
      → text ≡ generated_line asked.seed asked.count (length container.program.code.bytes) (generated_gas asked - new.gas) new.state.registers
      → text ≡ line_of asked container new.state.registers
  line-is text results is =
      let none_left : new.gas ≡ 0 = ap (λ (r : MeteredRun Event End). r.left) (sym (came [] _ results) ∙ run-is.is) in
      let spent : generated_gas asked - new.gas ≡ generated_gas asked = omega (arith, none_left) in
      is ∙ ap (λ (gas : ℕ). generated_line asked.seed asked.count (length container.program.code.bytes) gas new.state.registers) spent

-- a run that halted, and whose line was put
pub GenerateResultsIn-seen :
    (asked : GenerateCommand) (container : Container) (registers : List ℕ) (answer : Answer) (old new : Stream)
    → HasHalted asked container registers
    → WritesText None (line_of asked container registers) answer old new
    → GenerateResultsIn asked answer old new
GenerateResultsIn-seen asked container registers answers.Done old new halted seen =
    record { container = container; registers = registers; has_halted = halted; seen = seen.1; puts = seen.2 }
GenerateResultsIn-seen asked container registers answers.Panicked old new halted seen = absurd seen
GenerateResultsIn-seen asked container registers answers.Faulted old new halted seen = absurd seen
GenerateResultsIn-seen asked container registers answers.OutOfGas old new halted seen = absurd seen
GenerateResultsIn-seen asked container registers answers.Unanswered old new halted seen = absurd seen
GenerateResultsIn-seen asked container registers answers.BadReply old new halted seen = absurd seen
GenerateResultsIn-seen asked container registers (answers.Refused fault) old new halted seen = let no = seen.0 in absurd cc
GenerateResultsIn-seen asked container registers answers.Usage old new halted seen = absurd seen
GenerateResultsIn-seen asked container registers answers.FileFault old new halted seen =
    record { container = container; registers = registers; has_halted = halted; seen = seen.1; cause = seen.2 }
GenerateResultsIn-seen asked container registers answers.Memory old new halted seen = absurd seen
