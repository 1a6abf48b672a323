use Rattle.std.proofs.Common.{◌≡◌, ◌-◌, arith, sym, ◌∙◌}
use Rattle.elf_objects.specs.NameEnds.{name_end}
use Rattle.elf_objects.proofs.NameEnds.{name_end-found, name_end-past, name_end-after, name_end-within}
use Rattle.elf_objects.proofs.name_index.end_before.Goals as goal

pub returns-in-Some : goal.returns-in-Some
returns-in-Some c =
    let e = name_end-found c.args.table.now c.args.at (c.args.to - c.args.at) c.in-Some.len (sym c.first_zero.ensures.position ∙ c.in-Some.is) in
    record {
      end = e;
      after = omega arith;
      within = rw e (name_end-within c.args.table.now c.args.at (omega arith));
    }

pub returns-in-None : goal.returns-in-None
returns-in-None c =
    let e : c.args.next ≡ name_end c.args.table.now c.args.at =
    c.requires.next
    ∙ name_end-past c.args.table.now c.args.at c.args.to (c.args.to - c.args.at) (omega arith) c.requires.within (sym c.first_zero.ensures.position ∙ c.in-None.is) in
    record {
      end = e;
      after = rw e (name_end-after c.args.table.now c.args.at);
      within = rw e (name_end-within c.args.table.now c.args.at (omega arith));
    }
