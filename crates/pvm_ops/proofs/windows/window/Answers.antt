use Rattle.std.proofs.Common.{arith}
use Rattle.pvm_ops.proofs.MaskWindow.{four_bytes, low-bytes_from, bit_at-bytes_from}
use Rattle.pvm_ops.proofs.windows.window.Goals as goal

pub returns-else-at-bytes-clause-low : goal.returns-else-at-bytes-clause-low
returns-else-at-bytes-clause-low c =
    let is = four_bytes c.args.bytes.now c.args.at c.from_le_bytes.result (omega arith) in
    λ n l. rw is (low-bytes_from c.args.bytes.now (λ i. (c.type_inv.bytes i).fits) c.args.at 4 n l)

pub returns-else-at-bytes-clause-bits : goal.returns-else-at-bytes-clause-bits
returns-else-at-bytes-clause-bits c =
    let is = four_bytes c.args.bytes.now c.args.at c.from_le_bytes.result (omega arith) in
    λ j l. rw is (bit_at-bytes_from c.args.bytes.now (λ i. (c.type_inv.bytes i).fits) c.args.at 4 j l)
