use Rattle.std.proofs.Common.{◌≡◌, true, false, eqb, length, refl, sym, ap, ◌∙◌, length-append, arith}
use Rattle.std.proofs.lemmas.Bool.{eq-eqb}
use Rattle.std.proofs.lemmas.Bool.Decides.{nat_tests}
use Rattle.blob_codec.proofs.FromEnds.{with_counts, no_counts}
use Rattle.blob_codec.proofs.Programs.{counts_before, counts_bytes}
use Rattle.blob_codec.proofs.ends.spells_program.Goals as goal

pub overflow_sub-front : goal.overflow_sub-front
overflow_sub-front c =
    let before = counts_before c.args.first.now (c.in-Ok.counts, c.in-Ok.rest.now) (λ at. omega (arith, c.type_inv.first at)) c.in-Ok.ensures.value in
    omega (arith, ap length before, length-append (counts_bytes c.in-Ok.counts) c.in-Ok.rest.now)

pub returns-then-program_len-from : goal.returns-then-program_len-from
returns-then-program_len-from c bytes ends =
    let before = counts_before c.args.first.now (c.in-Ok.counts, c.in-Ok.rest.now) (λ at. omega (arith, c.type_inv.first at)) c.in-Ok.ensures.value in
    let front = ap length before ∙ length-append (counts_bytes c.in-Ok.counts) c.in-Ok.rest.now in
    let whole = with_counts c.args.first.now bytes (counts_bytes c.in-Ok.counts) c.in-Ok.rest.now c.args.len c.args.last c.program_len.result c.in-Ok.counts ends c.in-Ok.ensures.value before (omega (arith, c.program_len.ensures, front)) in
    let fits : eqb c.program_len.result c.args.len ≡ true = eq-eqb _ _ (omega (arith, c.if-program_len-from.true, c.from.ensures)) in
    c.is_padded.ensures ∙ sym (whole ∙ rw fits refl)

pub returns-else-program_len-from : goal.returns-else-program_len-from
returns-else-program_len-from c bytes ends =
    let before = counts_before c.args.first.now (c.in-Ok.counts, c.in-Ok.rest.now) (λ at. omega (arith, c.type_inv.first at)) c.in-Ok.ensures.value in
    let front = ap length before ∙ length-append (counts_bytes c.in-Ok.counts) c.in-Ok.rest.now in
    let whole = with_counts c.args.first.now bytes (counts_bytes c.in-Ok.counts) c.in-Ok.rest.now c.args.len c.args.last c.program_len.result c.in-Ok.counts ends c.in-Ok.ensures.value before (omega (arith, c.program_len.ensures, front)) in
    let no : eqb c.program_len.result c.from.result ≡ false = grind (arith, nat_tests, c.if-program_len-from.false) in
    no ∙ sym (whole ∙ rw (← c.from.ensures, no) refl)

pub returns-in-Err : goal.returns-in-Err
returns-in-Err c bytes ends = no_counts c.args.first.now bytes c.args.len c.args.last _ ends c.in-Err.ensures.value
