use Rattle.std.proofs.Common.{◌≡◌, ◌+◌, ◌/◌, length, arith, rules}
use Rattle.std.proofs.lemmas.Grind.{common_steps}
use Rattle.elf_objects.proofs.NameEnds.{name_end-last}
use Rattle.elf_objects.proofs.name_index.ends_of_blocks.Goals as goal

pub loop-block-init : goal.loop-block-init
loop-block-init c =
    let long : length c.in_ok-ends.ends.items ≡ length c.args.table.now / 64 + 2 = search rules in
    record {
      within = omega arith;
      long = long;
      ends_are = λ k le lt. rw (name_end-last c.args.table.now k (omega arith)) (grind (arith, common_steps));
    }
