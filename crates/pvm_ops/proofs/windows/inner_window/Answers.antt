use Rattle.std.proofs.Common.{arith}
use Rattle.pvm_ops.proofs.MaskWindow.{four_bytes, low-bytes_from, bit_at-bytes_from}
use Rattle.pvm_ops.proofs.windows.inner_window.Goals as goal

pub returns-clause-low : goal.returns-clause-low
returns-clause-low c =
    let is = four_bytes c.args.bytes.now c.args.at c.from_le_bytes.result (grind arith) in
    λ n l. rw is (low-bytes_from c.args.bytes.now (λ i. (c.type_inv.bytes i).fits) c.args.at 4 n l)

pub returns-clause-bits : goal.returns-clause-bits
returns-clause-bits c =
    let is = four_bytes c.args.bytes.now c.args.at c.from_le_bytes.result (grind arith) in
    λ j l. rw is (bit_at-bytes_from c.args.bytes.now (λ i. (c.type_inv.bytes i).fits) c.args.at 4 j l)
