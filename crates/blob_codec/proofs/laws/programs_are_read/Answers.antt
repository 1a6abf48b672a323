use Rattle.blob_codec.proofs.Programs.{program_takes, program_again, programs_have_one_spelling, programs_differ, programs_or_faults}
use Rattle.blob_codec.proofs.laws.programs_are_read.Goals as goal

pub returns : goal.returns
returns c = record { spelled = program_takes; read = program_again; one_spelling = programs_have_one_spelling; one_program = programs_differ; faults = programs_or_faults }
