use Rattle.std.proofs.Common.{◌≡◌, replicate, refl, sym, ◌∙◌}
use Rattle.jump_table.proofs.Marking.{zeros_are}
use Rattle.jump_table.proofs.writer.Writer.new.Goals as goal

pub returns : goal.returns
returns c =
    let zeros : c.in_ok-vec.field-0.items ≡ replicate c.div_ceil.result 0 = c.in_ok-vec.ensures.items_if_clones_equal (λ y e. e) in
    let mask = zeros ∙ sym (zeros_are c.args.size c.div_ceil.result c.div_ceil.ensures) in
    rw (c.new.ensures, mask) refl
