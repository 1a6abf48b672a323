use Rattle.std.proofs.Common.{length, ap, arith}
use Rattle.link_core.proofs.PartsLaws.{length_parts}
use Rattle.link_core.proofs.bundle.Bundle.part.Goals as goal

pub part_in-requires-clause-at : goal.part_in-requires-clause-at
part_in-requires-clause-at c =
    let h = rw (← c.self.view_is) at c.requires in
    omega (arith, h, length_parts 0 c.self.inside.ends.items c.self.inside.bytes.items, ap length c.deref-2.ensures.value)
