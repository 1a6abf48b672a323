use Rattle.std.proofs.Common.{◌≡◌, ◌<◌, ◌+◌, length, drop, get_or, None, Some, sym, ap, ◌∙◌, arith}
use Rattle.hex.specs.Hex.{hex_digit_value}
use Rattle.transcript.specs.Grammar.{digit_after, digits_after}
use Rattle.transcript.proofs.Reading.{digits_after-at, digits_after-end, number_fits, hex_number-of}
use Rattle.transcript.proofs.number_parts.hex_number.Goals as goal

pub overflow_mul-number : goal.overflow_mul-number
overflow_mul-number c = omega (arith, (number_fits c.loop-byte.byte-index c.loop-byte.number 0 (omega arith) c.loop-byte.invariant.small (omega arith)).0)

pub returns-in_err-digit : goal.returns-in_err-digit
returns-in_err-digit c =
    let word = c.args.digits.now in
    let i = c.loop-byte.byte-index in
    let n = c.loop-byte.number in
    let none : hex_digit_value (get_or word i 0) ≡ None = sym c.digit.ensures.value ∙ c.in_err-digit.was in
    let some : 0 < length word = omega arith in
    c.from_residual.ensures
    ∙ sym (hex_number-of c.args.most word some (omega arith)
    ∙ sym c.loop-byte.invariant.read
    ∙ digits_after-at word i n c.loop-byte-test.true
    ∙ ap (digit_after (digits_after (drop (i + 1) word)) n) none)

pub overflow_add-number : goal.overflow_add-number
overflow_add-number c =
    omega (arith, (number_fits c.loop-byte.byte-index c.loop-byte.number c.from.result (omega arith) c.loop-byte.invariant.small (omega (arith, c.from.ensures, c.in_ok-digit.ensures.small))).1)

pub loop-byte-preserved : goal.loop-byte-preserved
loop-byte-preserved c =
    let word = c.args.digits.now in
    let i = c.loop-byte.byte-index in
    let n = c.loop-byte.number in
    let value : hex_digit_value (get_or word i 0) ≡ Some c.from.result = sym c.digit.ensures.value ∙ c.in_ok-digit.was ∙ ap (λ d. Some d) (sym c.from.ensures) in
    record {
      small = (number_fits i n c.from.result (omega arith) c.loop-byte.invariant.small (omega (arith, c.from.ensures, c.in_ok-digit.ensures.small))).2;
      read = sym (digits_after-at word i n c.loop-byte-test.true ∙ ap (digit_after (digits_after (drop (i + 1) word)) n) value) ∙ c.loop-byte.invariant.read;
    }

pub returns : goal.returns
returns c =
    let word = c.args.digits.now in
    let some : 0 < length word = grind arith in
    sym (hex_number-of c.args.most word some (omega arith) ∙ sym c.loop-byte.invariant.read ∙ digits_after-end word c.loop-byte.byte-index c.loop-byte.number (omega arith))
