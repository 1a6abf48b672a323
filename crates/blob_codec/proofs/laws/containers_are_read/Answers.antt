use Rattle.blob_codec.proofs.Containers.{container_takes, container_again, containers_have_one_spelling, containers_differ, containers_or_faults}
use Rattle.blob_codec.proofs.laws.containers_are_read.Goals as goal

pub returns : goal.returns
returns c = record { spelled = container_takes; read = container_again; one_spelling = containers_have_one_spelling; one_container = containers_differ; faults = containers_or_faults }
