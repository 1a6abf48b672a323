use Rattle.std.proofs.Common.{◌≡◌, ◌≤◌, ℕ, length, false}
use Rattle.elf_objects.specs.Contents.{has_name}
use Rattle.elf_objects.proofs.string_table.StringTable.new.Given as goal

abbrev pub invariant-loop-end : goal.invariant-loop-end
invariant-loop-end l = (l.end ≤ length l.bytes) × ((at : ℕ) → l.end ≤ at → has_name l.bytes at ≡ false)

abbrev pub decreases-loop-end : goal.decreases-loop-end
decreases-loop-end l = l.end
