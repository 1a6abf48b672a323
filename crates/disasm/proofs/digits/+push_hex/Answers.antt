use Rattle.std.proofs.Common.{◌-◌, arith}
use Rattle.disasm.proofs.Hex.{bytes_more}
use Rattle.disasm.proofs.digits.+push_hex.Goals as goal

pub returns-then-bytes-gt0-clause-text : goal.returns-then-bytes-gt0-clause-text
returns-then-bytes-gt0-clause-text g t c = bytes_more (c.args.bytes - 1) c.args.bytes c.args.number _ _ _ (omega arith) c.push_hex.ensures.text c.push_byte.ensures.text
