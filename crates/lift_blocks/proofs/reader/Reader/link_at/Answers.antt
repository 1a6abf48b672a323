use Rattle.std.proofs.Common.{◌∙◌, sym, ap}
use Rattle.relocs.specs.AddressMap.{link_at}
use Rattle.lift_blocks.specs.CodeList.{may_link}
use Rattle.lift_blocks.proofs.Linking.{no_link}
use Rattle.lift_blocks.proofs.reader.Reader.link_at.Goals as goal

pub returns-else-may_link : goal.returns-else-may_link
returns-else-may_link g c =
    sym (ap (link_at g.given) c.requires.1.0 ∙ no_link g.given c.args.object c.args.section c.args.offset (ap may_link (sym c.op_at.ensures) ∙ sym c.may_link.ensures ∙ c.if-may_link.false))
