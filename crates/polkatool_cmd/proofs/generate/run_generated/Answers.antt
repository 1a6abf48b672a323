use Rattle.std.proofs.Common.{◌≡◌, ◌-◌, length, None, subst, arith}
use Rattle.polkatool_cmd.specs.Blobs.{WritesText}
use Rattle.polkatool_cmd.specs.GenerateAnswers.{generated_gas}
use Rattle.polkatool_cmd.specs.GenerateRead.{generate_in}
use Rattle.polkatool_cmd.specs.Lines.{generated_line}
use Rattle.polkatool_cmd.specs.Snapshot.{Stream}
use Rattle.polkatool_cmd.proofs.Generating.{checked-start, no-other_end, has-halted, line-is, GenerateResultsIn-seen}
use Rattle.polkatool_cmd.proofs.generate.run_generated.Goals as goal

pub start-requires : goal.start-requires
start-requires g c = checked-start c.args.container.now.program (c.linked_is_checked.ensures _ _ c.requires (omega arith))

pub returns-in-Halt : goal.returns-in-Halt
returns-in-Halt g c =
    let asked = generate_in c.args.command.now in
    let m = c.run.new.self in
    let old : Stream = record { text = g.O.Sink.bytes c.args.out.now; puts = g.O.Sink.faults c.args.out.now } in
    let new : Stream = record { text = g.O.Sink.bytes c.put_line.new.out; puts = g.O.Sink.faults c.put_line.new.out } in
    let start = rw c.from-gas.ensures at c.in-Ok.ensures in
    let line : c.as_bytes.result.now ≡ generated_line asked.seed asked.count (length c.args.container.now.program.code.bytes) (generated_gas asked - m.gas) m.state.registers = cc in
    let seen = line-is asked c.args.container.now (omega arith) c.generated_halts.ensures c.requires c.in-Ok.machine m start c.as_bytes.result.now c.in-Halt.ensures.run line in
    GenerateResultsIn-seen asked c.args.container.now m.state.registers c.put_line.result old new
    (has-halted asked c.args.container.now (omega arith) c.generated_halts.ensures c.requires c.in-Ok.machine m start c.generated_has_no_fault.ensures c.in-Halt.ensures.run)
    (subst (λ text. WritesText None text c.put_line.result old new) seen c.put_line.ensures)

pub unreachable-requires : goal.unreachable-requires
unreachable-requires g c =
    no-other_end (generate_in c.args.command.now) c.args.container.now (omega arith) c.generated_halts.ensures c.requires c.in-Ok.machine c.run.new.self (rw c.from-gas.ensures at c.in-Ok.ensures)
    c.run.result c.in-Panic.is c.run.ensures.run
