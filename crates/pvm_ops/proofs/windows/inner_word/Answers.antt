use Rattle.std.proofs.Common.{◌≡◌, ◌+◌, ◌*◌, ◌^◌, arith}
use Rattle.numbers.specs.Bytes.{number_of}
use Rattle.pvm_ops.specs.Fetch.{bytes_from}
use Rattle.pvm_ops.proofs.SignParts.{two_words}
use Rattle.pvm_ops.proofs.windows.inner_word.Goals as goal

pub returns : goal.returns
returns c =
    let bytes = c.args.bytes.now in
    let at = c.args.at in
    let low : c.from.result ≡ number_of (bytes_from bytes at 4) = omega (arith, c.inner_window.ensures.low 4 (omega arith)) in
    let high : c.from-2.result ≡ number_of (bytes_from bytes (at + 4) 4) = omega (arith, c.inner_window-2.ensures.low 4 (omega arith)) in
    two_words bytes at c.from.result c.from-2.result low high
