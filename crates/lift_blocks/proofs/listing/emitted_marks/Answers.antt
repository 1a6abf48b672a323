use Rattle.std.proofs.Common.{◌++◌, ◌∙◌, ap, length, arith}
use Rattle.lift_blocks.proofs.ListedOps.{reached_are}
use Rattle.lift_blocks.proofs.Marking.{written}
use Rattle.lift_blocks.proofs.listing.emitted_marks.Goals as goal

pub kept_marks-requires : goal.kept_marks-requires
kept_marks-requires g c =
    let copied = c.deref_mut.ensures.value ∙ c.in_ok-extend_from_slice.ensures.items ∙ ap (λ l. l ++ c.args.targeted.now) c.new-reached.ensures.items in (
      c.requires.0,
      (
        c.requires.1.0,
        c.deref.ensures.value
            ∙ written c.mark_successor.new.marks c.extend_from_slice.new.self.items c.extend_from_slice.new.self.len (omega (arith, ap length c.deref_mut.ensures.value)) (omega arith)
            ∙ reached_are g.given c.deref_mut.result.now c.mark_successor.new.marks (copied ∙ c.requires.1.1.1) c.mark_successor.ensures,
      ),
    )
