use Rattle.std.proofs.Common.{arith, refl}
use Rattle.std.proofs.lemmas.Option.{slice_get-get_or}
use Rattle.pvm_ops.specs.Fetch.{trap}
use Rattle.jump_table.specs.Assembly.{offset_len}
use Rattle.jump_table.proofs.Sizes.{size_more, size_none}
use Rattle.jump_table.proofs.shapes.size_of.Goals as goal

pub length-size-requires : goal.length-size-requires
length-size-requires c =
    let ok = c.requires _ _ (slice_get-get_or c.args.instrs.now c.loop-instr.instr-index trap c.loop-instr-test.true) in
    record { known = ok.known; encodable = ok.encodable }

pub returns-then-size-gt-MOST_BYTES : goal.returns-then-size-gt-MOST_BYTES
returns-then-size-gt-MOST_BYTES c =
    let more = size_more offset_len c.args.instrs.now c.loop-instr.instr-index trap c.loop-instr-test.true in
    (refl, omega arith)

pub loop-instr-preserved : goal.loop-instr-preserved
loop-instr-preserved c =
    let more = size_more offset_len c.args.instrs.now c.loop-instr.instr-index trap c.loop-instr-test.true in
    record { size = omega arith; small = omega arith }

pub returns : goal.returns
returns c =
    let none = size_none offset_len c.args.instrs.now c.loop-instr.instr-index c.loop-instr-test.false in
    (omega arith, omega arith)
