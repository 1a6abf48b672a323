use Rattle.std.proofs.Common.{◌≡◌, ◌*◌, rules}
use Rattle.relocs.specs.Words.{word_or_trap}
use Rattle.relocs.proofs.ByOffset.{each_more}
use Rattle.relocs.proofs.code_words.code_words.Goals as goal

pub loop-at-preserved : goal.loop-at-preserved
loop-at-preserved c = record {
  count = search (rules, c.loop-at.invariant.count);
  each = each_more (λ i word. word ≡ word_or_trap c.args.bytes.now (4 * i)) _ _ _ c.loop-at.at c.loop-at.invariant.count c.loop-at.invariant.each c.word_or_trap.ensures c.in_ok-push.ensures.items;
}
