use Rattle.std.proofs.Common.{arith, ◌++◌}
use Rattle.generated.specs.Objects.{text}
use Rattle.generated.proofs.Texts.{word_more, text_end}
use Rattle.generated.proofs.object.put_text.Goals as goal

pub loop-at-preserved : goal.loop-at-preserved
loop-at-preserved c =
    word_more c.loop-at.x c.next-x.result c.word_of.result c.loop-at.at c.args.count c.loop-at.out c.put_32.new.out (c.args.out.now ++ text c.args.seed c.args.count)
    c.loop-at-test.true c.loop-at.invariant c.next-x.ensures c.word_of.ensures c.in_ok-put_32.ensures

pub returns : goal.returns
returns c =
    text_end c.loop-at.x c.loop-at.at c.args.count c.loop-at.out c.put_32-2.new.out (c.args.out.now ++ text c.args.seed c.args.count)
    (omega (arith, c.loop-at-test.false)) c.loop-at.invariant c.in_ok-put_32-2.ensures
