use Rattle.std.proofs.Common.{◌≡◌, ◌-◌, ◌+◌, ◌<◌, ◌≤◌}
use Rattle.std.specs.Prelude.{slice_range}
use Rattle.lower.specs.Constants.{value_of}
use Rattle.lower.proofs.Cuts.{AllGoOn}
use Rattle.lower.proofs.constants.run_on.Given as goal

abbrev pub invariant-loop-end : goal.invariant-loop-end
invariant-loop-end l = record {
  after : l.from < l.end;
  within : l.end ≤ l.to;
  value : l.value ≡ value_of 0 (slice_range l.lifted.ops l.from l.end);
  run : AllGoOn l.register (slice_range l.lifted.ops (l.from + 1) l.end);
}

abbrev pub decreases-loop-end : goal.decreases-loop-end
decreases-loop-end l = l.to - l.end
