use Rattle.std.proofs.Common.{◌≡◌, ℕ, ◌<◌, Some}
use Rattle.std.specs.Prelude.{slice_get}
use Rattle.symbols.specs.Wanted.{Import, IsHostNumber}
use Rattle.lift_blocks.proofs.lifting.numbers_are_small.Given as goal

abbrev pub invariant-loop-import : goal.invariant-loop-import
invariant-loop-import l = (i : ℕ) (one : Import) → i < l.import → slice_get l.wanted.imports i ≡ Some one → IsHostNumber one.kind
