use Rattle.std.proofs.Common.{ap, sym, ◌∙◌}
use Rattle.blob_check.specs.Starts.{is_terminator}
use Rattle.blob_check.proofs.LooksBack.{found, missed}
use Rattle.blob_check.proofs.starts.follows.Goals as goal

pub returns-in-None : goal.returns-in-None
returns-in-None c = sym (missed _ _ c.in-None.ensures)

pub returns-in-Some : goal.returns-in-Some
returns-in-Some c =
    let near = c.in-Some.ensures in
    c.is_terminator.ensures ∙ ap is_terminator c.opcode.ensures ∙ sym (found _ _ _ c.requires near.2 near.0 near.1 near.3)
