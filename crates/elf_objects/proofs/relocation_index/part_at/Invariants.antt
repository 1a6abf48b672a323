use Rattle.std.proofs.Common.{◌≤◌, ◌<◌, ◌-◌, length, get_or}
use Rattle.elf_objects.specs.Index.{no_part}
use Rattle.elf_objects.proofs.relocation_index.part_at.Given as goal

abbrev pub invariant-loop-high : goal.invariant-loop-high
invariant-loop-high l = (l.low < l.high) × (l.high ≤ length l.parts) × ((get_or l.parts l.low no_part).before ≤ l.at) × (l.high < length l.parts → l.at < (get_or l.parts l.high no_part).before)

abbrev pub decreases-loop-high : goal.decreases-loop-high
decreases-loop-high l = l.high - l.low
