use Rattle.std.proofs.Common.{◌≡◌, ◌++◌, ◌-◌}
use Rattle.generated.specs.Objects.{text}
use Rattle.generated.proofs.object.put_text.Given as goal

abbrev pub invariant-loop-at : goal.invariant-loop-at
invariant-loop-at l = l.initial.out ++ text l.seed l.count ≡ l.out ++ text l.x (l.count - l.at)
