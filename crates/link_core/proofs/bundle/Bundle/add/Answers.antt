use Rattle.std.proofs.Common.{◌+◌, length, ap, ◌∙◌}
use Rattle.link_core.proofs.PartsLaws.{bundle_more, parts_more}
use Rattle.link_core.proofs.bundle.Bundle.add.Goals as goal

pub invariant_of-self-in-Ok : goal.invariant_of-self-in-Ok
invariant_of-self-in-Ok c =
    bundle_more c.self.inside.ends.items c.self.inside.bytes.items c.args.bytes.now _ _ _ c.self.invariant c.in-Ok.ensures.items c.in_ok-extend_from_slice.ensures.items
    (ap (λ n. n + length c.args.bytes.now) (c.len_of-start.ensures ∙ ap length c.deref.ensures.value)) (rw (← c.self.view_is) at c.requires.count) c.requires.one (rw (← c.self.view_is) at c.requires.all)

pub returns-in-Ok-clause-ok : goal.returns-in-Ok-clause-ok
returns-in-Ok-clause-ok c =
    rw (c.in-Ok.ensures.items, c.in_ok-extend_from_slice.ensures.items, ← c.self.view_is, (c.len_of-start.ensures ∙ ap length c.deref.ensures.value))
    (parts_more 0 c.self.inside.ends.items c.self.inside.bytes.items c.args.bytes.now c.self.invariant.rise)
