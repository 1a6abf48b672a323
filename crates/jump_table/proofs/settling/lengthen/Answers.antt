use Rattle.std.proofs.Common.{◌≡◌, ℕ, ◌+◌, ◌-◌, ◌<◌, ◌≤◌, length, arith}
use Rattle.std.specs.Prelude.{slice_index}
use Rattle.std.proofs.lemmas.List.{get_or_read}
use Rattle.jump_table.proofs.Lengthening.{place_small, grown_one, placed_one}
use Rattle.jump_table.proofs.settling.lengthen.Goals as goal

pub insert-requires-clause-small : goal.insert-requires-clause-small
insert-requires-clause-small c t lt = place_small _ _ _ c.requires.placed t (omega (arith, lt, c.requires.placed.starts_count))

pub returns-clause-placed : goal.returns-clause-placed
returns-clause-placed c =
    let lens = c.args.lengths.now.items in
    let within : c.args.block < length lens = omega (arith, c.requires.block, c.requires.placed.count) in
    let read : c.index-before.result.now ≡ slice_index lens c.args.block = get_or_read lens c.args.block c.index-before.result.now within c.index-before.ensures 0 in
    let more : slice_index lens c.args.block < c.least_len-len.result = omega (arith, read, c.if-len-before.false) in
    let few = c.least_len-len.ensures.most in
    placed_one _ lens _ c.requires.placed c.args.block c.least_len-len.result c.in-Some.span c.requires.block c.in-Some.ensures c.least_len-len.ensures more
    c.insert.new.self (c.least_len-len.result - c.index-before.result.now) (omega (arith, read, c.if-len-before.false))
    c.insert.ensures.starts_count c.insert.ensures.shifts_count
    (λ t lt le. c.insert.ensures.before t lt le) (λ t lt less. omega (arith, c.insert.ensures.after t lt less, c.from.ensures))
    (omega (arith, c.insert.ensures.end, c.from.ensures)) (omega (arith, c.insert.ensures.end, c.from.ensures, c.if-places-lt4.false, few))

pub returns-clause-grown : goal.returns-clause-grown
returns-clause-grown c =
    let lens = c.args.lengths.now.items in
    let within : c.args.block < length lens = omega (arith, c.requires.block, c.requires.placed.count) in
    let read : c.index-before.result.now ≡ slice_index lens c.args.block = get_or_read lens c.args.block c.index-before.result.now within c.index-before.ensures 0 in
    let more : slice_index lens c.args.block < c.least_len-len.result = omega (arith, read, c.if-len-before.false) in
    grown_one _ lens _ c.requires.placed c.args.block c.least_len-len.result c.in-Some.span c.requires.block c.in-Some.ensures c.least_len-len.ensures more
