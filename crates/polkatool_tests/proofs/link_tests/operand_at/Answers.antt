use Rattle.std.proofs.Common.{sym}
use Rattle.polkatool_tests.proofs.link_tests.operand_at.Goals as goal

pub operand-requires : goal.operand-requires
operand-requires g c =
    let is_there = c.relocations.ensures.each.each 0 c.in_ok-relocation.relocation.now (sym c.in_ok-relocation.ensures.value) in
    (c.requires.0, (c.requires.1.0, (is_there.0, (is_there.1, sym c.in-None.ensures))))
