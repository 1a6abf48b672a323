use Rattle.std.proofs.Common.{length, sym, ◌∙◌, arith, subst, refl}
use Rattle.std.proofs.lemmas.Result.{err_from_is_err_and}
use Rattle.faults.proofs.Steps.{each_below-zero}
use Rattle.faults.specs.Present.{each_below}
use Rattle.disasm.specs.Disassembly.{entry_line}
use Rattle.disasm.specs.Putting.{Adds}
use Rattle.disasm.proofs.Adding.{Adds-nil, Adds-more, Adds-stopped}
use Rattle.disasm.proofs.Texts.{each_below-next, each_below-rest}
use Rattle.disasm.proofs.lines.put_table.Goals as goal

pub loop-entry-init : goal.loop-entry-init
loop-entry-init g c = record {
  put = subst (Adds _ _ _ _) (sym (each_below-zero (entry_line c.args.program.now))) (Adds-nil _ c.args.text.now.bytes);
  faults = refl;
}

pub returns-in_err-make_room-clause-err : goal.returns-in_err-make_room-clause-err
returns-in_err-make_room-clause-err g c =
    let p = err_from_is_err_and c.from_residual.result c.from_residual.ensures.1 in
    let program = c.args.program.now in
    let rest = each_below-rest (entry_line program) (length program.table) c.loop-entry.entry (omega arith) in
    rw p.1 (Adds-stopped _ _ _ c.args.text.now.bytes c.loop-entry.text.bytes (each_below c.loop-entry.entry (entry_line program)) rest.0 _ c.loop-entry.invariant.put c.in_err-make_room.ensures.err rest.1)

pub loop-entry-preserved : goal.loop-entry-preserved
loop-entry-preserved g c =
    let program = c.args.program.now in
    record {
      put = Adds-more _ _ _ c.args.text.now.bytes c.loop-entry.text.bytes c.make_room.new.text.bytes c.push_entry.new.text.bytes (each_below c.loop-entry.entry (entry_line program)) (entry_line program c.loop-entry.entry) _ c.loop-entry.invariant.put c.in_ok-make_room.ensures.ok c.push_entry.ensures (each_below-next (entry_line program) c.loop-entry.entry);
      faults = c.in_ok-make_room.ensures.cause.kept ∙ c.loop-entry.invariant.faults;
    }
