-- A generation without a failed call.
use Rattle.std.proofs.Common.{◌≡◌, ◌⊎◌, sym, ◌∙◌, inl}
use Rattle.outside.specs.Outside.{Rose}
use Rattle.polkatool_cmd.specs.Answers.{Reports}
use Rattle.polkatool_cmd.specs.GenerateAnswers.{GenerateResultsIn}
use Rattle.polkatool_cmd.specs.GenerateWords.{GenerateCommand}
use Rattle.polkatool_cmd.specs.Snapshot.{Stream}
use Rattle.polkatool_cmd.specs.declared.answer.Answer.{Answer}
use Rattle.polkatool_cmd.specs.declared.answer.Answer.TheVariants as answers
use Rattle.polkatool_cmd.specs.declared.status.Status.{Status}
use Rattle.polkatool_cmd.specs.declared.status.Status.TheVariants as statuses
use Rattle.polkatool_cmd.proofs.Completing.{memory_status}

pub generate_complete :
    (asked : GenerateCommand) (wanted status : Status) (answer : Answer) (old new err err' : Stream)
    → wanted ≡ statuses.Done → ¬ Rose old.puts new.puts → ¬ Rose err.puts err'.puts → GenerateResultsIn asked answer old new → Reports answer status err err'
    → (status ≡ wanted) ⊎ (status ≡ statuses.Memory)
generate_complete asked wanted status answers.Done old new err err' done none err_none results reports = inl (reports.0 ∙ sym done)
generate_complete asked wanted status answers.Panicked old new err err' done none err_none results reports = absurd results
generate_complete asked wanted status answers.Faulted old new err err' done none err_none results reports = absurd results
generate_complete asked wanted status answers.OutOfGas old new err err' done none err_none results reports = absurd results
generate_complete asked wanted status answers.Unanswered old new err err' done none err_none results reports = absurd results
generate_complete asked wanted status answers.BadReply old new err err' done none err_none results reports = absurd results
generate_complete asked wanted status (answers.Refused fault) old new err err' done none err_none results reports = absurd results
generate_complete asked wanted status answers.Usage old new err err' done none err_none results reports = absurd results
generate_complete asked wanted status answers.FileFault old new err err' done none err_none results reports = absurd (none results.cause)
generate_complete asked wanted status answers.Memory old new err err' done none err_none results reports = memory_status status wanted err err' err_none reports
