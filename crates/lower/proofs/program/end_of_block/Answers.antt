use Rattle.std.proofs.Common.{◌≡◌, ◌<◌, true, false, get_or, sym, ◌∙◌, arith, below_more}
use Rattle.std.proofs.lemmas.Option.{get_or_from_slice_get}
use Rattle.std.proofs.lemmas.List.{get_or_past}
use Rattle.lower.proofs.FirstBlock.{block_at}
use Rattle.lower.proofs.program.end_of_block.Goals as goal

pub loop-to-preserved : goal.loop-to-preserved
loop-to-preserved c = record {
  after = omega arith;
  within = omega arith;
  unmarked = λ k a b.
      below_more (λ k. c.args.from < k → get_or c.args.lifted.now.begins k true ≡ false) c.loop-to.to (λ k h g. c.loop-to.invariant.unmarked k g h)
      (λ g. get_or_from_slice_get c.args.lifted.now.begins c.loop-to.to false true c.if-not-begins.ensures) k b a;
}

pub returns-else-not-begins-clause-first : goal.returns-else-not-begins-clause-first
returns-else-not-begins-clause-first c =
    block_at c.args.lifted.now.begins c.args.lifted.now.ops c.args.from c.loop-to.to (sym c.len-len.ensures.begins ∙ c.len-len.ensures.ops) c.loop-to.invariant.after c.loop-to.invariant.within c.loop-to.invariant.unmarked
    (get_or_from_slice_get c.args.lifted.now.begins c.loop-to.to true true c.if-not-begins.ensures)

pub returns-after-loop-to-clause-first : goal.returns-after-loop-to-clause-first
returns-after-loop-to-clause-first c =
    block_at c.args.lifted.now.begins c.args.lifted.now.ops c.args.from c.loop-to.to (sym c.len-len.ensures.begins ∙ c.len-len.ensures.ops) c.loop-to.invariant.after c.loop-to.invariant.within c.loop-to.invariant.unmarked
    (get_or_past c.args.lifted.now.begins c.loop-to.to true (omega arith))
