use Rattle.std.proofs.Common.{◌≡◌, ◌<◌, ◌+◌, ◌∙◌, ap, sym, false, Some, length, take, drop, arith}
use Rattle.std.proofs.Math.ListN.{set, length-set}
use Rattle.std.proofs.lemmas.Option.{slice_get-get_or}
use Rattle.lift_blocks.proofs.Relisted.{front_marked, front_stays, front_unmarked, rest_written, rest_more, some_at}
use Rattle.lift_blocks.specs.Marks.{chosen}
use Rattle.lift_blocks.proofs.marks.marked.Goals as goal
use Rattle.lift_blocks.proofs.marks.marked.Goals.{then-marks-at, then-to-at, else-to-at, else-marks-at}

pub loop-at-preserved : goal.loop-at-preserved
loop-at-preserved g c =
    let at = c.loop-at.at in
    let was = c.loop-at.invariant in
    let marks = c.args.marks.now in
    let first = c.args.items.items in
    let now = c.loop-at.items.items in
    let new = c.if-marks-at.items.items in
    let mark = slice_get-get_or marks at false c.loop-at-test.true in
    elim c.if-marks-at.branch [
      | then-marks-at w ↦
          let within : at < length now = omega (arith, was.count, c.loop-at-test.true) in
          elim w.if-to-at.branch [
            | then-to-at v ↦
                let x = v.index.result.now in
                let here = slice_get-get_or now at x within ∙ ap Some (sym v.index.ensures) in
                let written : new ≡ set now c.loop-at.to x = ap (λ u. u.items) (w.items-is ∙ v.items-is) in
                record {
                  count = ap length written ∙ length-set now c.loop-at.to x ∙ was.count;
                  few = omega (arith, w.to-is, was.few);
                  front = ap (λ n. take n new) w.to-is ∙ front_marked marks first now new at c.loop-at.to x (mark ∙ ap Some w.if-marks-at.true) was.rest here was.front (omega (arith, within, was.few)) written;
                  rest = rest_written first now new at c.loop-at.to x was.rest was.few written;
                }
            | else-to-at v ↦
                let same : new ≡ now = ap (λ u. u.items) (w.items-is ∙ v.items-is) in
                let stays : c.loop-at.to ≡ at = omega (arith, was.few, v.if-to-at.false) in
                let there = some_at now at within in
                let before : take at now ≡ chosen (take at marks) (take at first) = ap (λ n. take n now) (sym stays) ∙ was.front in
                record {
                  count = ap length same ∙ was.count;
                  few = omega (arith, w.to-is, was.few);
                  front =
                      ap (λ n. take n new) (w.to-is ∙ ap (λ n. n + 1) stays) ∙ ap (take (at + 1)) same
                      ∙ front_stays marks first now at there.0 (mark ∙ ap Some w.if-marks-at.true) was.rest there.1 before;
                  rest = ap (drop (at + 1)) same ∙ rest_more first now at was.rest;
                }
          ]
      | else-marks-at w ↦
          let same : new ≡ now = ap (λ v. v.items) w.items-is in
          record {
            count = ap length same ∙ was.count;
            few = omega (arith, w.to-is, was.few);
            front = ap (λ n. take n new) w.to-is ∙ ap (take c.loop-at.to) same ∙ front_unmarked marks first now at c.loop-at.to (mark ∙ ap Some w.if-marks-at.false) was.front;
            rest = ap (drop (at + 1)) same ∙ rest_more first now at was.rest;
          }
    ]
