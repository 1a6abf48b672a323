use Rattle.std.proofs.Common.{◌≤◌, ◌+◌, ◌*◌, ◌-◌, ◌^◌, drop, get_or, sym, ap, ◌∙◌, arith}
use Rattle.polkatool_cmd.specs.Values.{below, digits_after}
use Rattle.polkatool_cmd.proofs.Digits.{digits_after-at, digits_after-other_at, digits_after-end, digits_after-large}
use Rattle.polkatool_cmd.proofs.values.digits.Goals as goal

pub returns-then-not-is_ascii_digit : goal.returns-then-not-is_ascii_digit
returns-then-not-is_ascii_digit c =
    sym (ap (below (2 ^ 64)) (digits_after-other_at c.loop-byte.number c.loop-byte.byte-index c.args.word.now c.loop-byte-test.true (sym c.is_ascii_digit.ensures.value ∙ c.if-not-is_ascii_digit.true)))
    ∙ c.loop-byte.invariant.read

pub returns-in_default : goal.returns-in_default
returns-in_default c =
    let n = c.loop-byte.number in
    let i = c.loop-byte.byte-index in
    let word = c.args.word.now in
    let large : 2 ^ 64 ≤ 10 * n + (get_or word i 0 - 48) = omega (arith, c.in_default.ensures) in
    sym (ap (below (2 ^ 64)) (digits_after-at n i word c.loop-byte-test.true (sym c.is_ascii_digit.ensures.value ∙ c.if-not-is_ascii_digit.false)) ∙ digits_after-large _ (drop (i + 1) word) large)
    ∙ c.loop-byte.invariant.read

pub loop-byte-preserved : goal.loop-byte-preserved
loop-byte-preserved c =
    let n = c.loop-byte.number in
    let i = c.loop-byte.byte-index in
    let word = c.args.word.now in
    record {
      small = omega (arith, c.in-Some.ensures.0, c.in-Some.ensures.1);
      read =
          ap (λ m. below (2 ^ 64) (digits_after m (drop (i + 1) word))) c.in-Some.ensures.1
          ∙ sym (ap (below (2 ^ 64)) (digits_after-at n i word c.loop-byte-test.true (sym c.is_ascii_digit.ensures.value ∙ c.if-not-is_ascii_digit.false)))
          ∙ c.loop-byte.invariant.read;
    }

pub returns : goal.returns
returns c =
    sym (digits_after-end c.loop-byte.number c.loop-byte.byte-index c.args.word.now (omega arith) (omega arith))
    ∙ c.loop-byte.invariant.read
