use Rattle.std.proofs.Common.{◌≡◌}
use Rattle.pvm_machine.specs.Machine.{machine_on}
use Rattle.pvm_machine.specs.Stepped.{all_steps, Reached, Keeps}
use Rattle.pvm_machine.proofs.cores.Core.run.Given as goal

abbrev pub invariant-loop-exit : goal.invariant-loop-exit
invariant-loop-exit l = record {
  steps : all_steps (machine_on l.program.table l.code l.self) ≡ all_steps (machine_on l.program.table l.code l.fn.self);
  reached : Reached (machine_on l.program.table l.code l.fn.self) (machine_on l.program.table l.code l.self);
  keeps : Keeps (machine_on l.program.table l.code l.fn.self) (machine_on l.program.table l.code l.self);
}

abbrev pub decreases-loop-exit : goal.decreases-loop-exit
decreases-loop-exit l = l.self.gas
