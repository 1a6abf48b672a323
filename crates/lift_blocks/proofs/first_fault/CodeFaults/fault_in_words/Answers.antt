use Rattle.std.proofs.Common.{◌+◌, ◌*◌, arith, length, ap, sym, ◌∙◌}
use Rattle.faults.proofs.Firsts.{found_first}
use Rattle.relocs.specs.CodeFaults.{fault_at_offset, fault_in_section}
use Rattle.lift_blocks.proofs.PlainWords.{words_more, none_below}
use Rattle.lift_blocks.proofs.first_fault.CodeFaults.fault_in_words.Goals as goal

pub returns-in-Some : goal.returns-in-Some
returns-in-Some g c =
    let o = c.args.object in
    let s = c.args.section in
    found_first (fault_at_offset g.given o s) (length c.args.content.now + 1) (4 * c.loop-word.word) _ (omega (arith, c.loop-word-test.true)) c.loop-word.invariant c.in-Some.ensures
    ∙ sym (ap (fault_in_section g.given o s) c.requires.1.1.0)

pub loop-word-preserved : goal.loop-word-preserved
loop-word-preserved g c =
    words_more g.given c.args.object c.args.section c.loop-word.word c.args.aligned c.requires.1.0 c.requires.1.1.1.0 (omega (arith, c.loop-word-test.true, c.requires.1.1.1.1)) c.loop-word.invariant (sym c.fault_at_word.ensures ∙ c.in_default.is)

pub returns : goal.returns
returns g c =
    sym (none_below (fault_at_offset g.given c.args.object c.args.section) (4 * c.loop-word.word) (length c.args.content.now + 1) (omega arith) c.loop-word.invariant)
    ∙ sym (ap (fault_in_section g.given c.args.object c.args.section) c.requires.1.1.0)
