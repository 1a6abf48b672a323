use Rattle.std.specs.Prelude.{IsTrue}
use Rattle.runs.proofs.Straight.{implements_block}
use Rattle.runs.proofs.block_is_implemented.Goals as goal

pub returns : goal.returns
returns c = λ op_does instr_does good lower ops tail all some_ops some one next. implements_block op_does instr_does (λ d. IsTrue (good d)) lower ops tail all some_ops some one next
