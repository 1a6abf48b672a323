-- What folders and sinks of the system keep.
use Rattle.std.specs.Prelude.{ℕ}
use Rattle.outside.specs.declared.real_folder.RealFolder.{RealFolder}
use Rattle.outside.specs.declared.real_sink.RealSink.{RealSink}

-- how many reads have failed
abbrev pub read_faults_of : {R F D : Type 0} → RealFolder R F D → ℕ
read_faults_of folder = folder.read_faults

-- how many writes have failed
abbrev pub write_faults_of : {R F D : Type 0} → RealFolder R F D → ℕ
write_faults_of folder = folder.write_faults

-- the writer that the sink puts its bytes to
abbrev pub writer_of : {W : Type 0} → RealSink W → W
writer_of sink = sink.writer

-- how many calls have failed
abbrev pub faults_of : {W : Type 0} → RealSink W → ℕ
faults_of sink = sink.faults
