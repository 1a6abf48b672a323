-- A link's input has one linked program.
use Rattle.std.proofs.Common.{◌≡◌, sym, ap, ◌∙◌, subst}
use Rattle.lift_blocks.specs.Laws.{LiftedIsOne}
use Rattle.lower.specs.Lowering.{lowered_blocks}
use Rattle.jump_table.specs.Lengths.{AreLengths}
use Rattle.jump_table.specs.Laws.{LengthsAreOne}
use Rattle.link_core.specs.Linked.{container_of}
use Rattle.link_core.specs.Laws.{LinkedIsOne}

pub linked_is_one : LiftedIsOne → LengthsAreOne → LinkedIsOne
linked_is_one lifted_is_one lengths_are_one given c d f g =
    let same : f.lifted ≡ g.lifted = lifted_is_one given f.lifted g.lifted f.is_lifted g.is_lifted in
    let lengths : f.lengths ≡ g.lengths = lengths_are_one (lowered_blocks g.lifted) f.lengths g.lengths (subst (λ l. AreLengths (lowered_blocks l) f.lengths) same f.lengths_are) g.lengths_are in
    f.container_is ∙ ap (λ l. container_of given f.lengths l) same ∙ ap (λ l. container_of given l g.lifted) lengths ∙ sym g.container_is
