use Rattle.std.proofs.Common.{◌+◌, ◌++◌, length, ap, sym, ◌∙◌, arith, subst, refl}
use Rattle.std.proofs.lemmas.Result.{err_from_is_err_and}
use Rattle.faults.proofs.Steps.{each_below-zero}
use Rattle.faults.specs.Present.{each_below}
use Rattle.disasm.specs.Disassembly.{line_at}
use Rattle.disasm.specs.Putting.{Adds}
use Rattle.disasm.proofs.Adding.{Adds-nil, Adds-trans, Adds-failed}
use Rattle.disasm.proofs.Texts.{each_below-next, each_below-rest}
use Rattle.disasm.proofs.lines.put_lines.Goals as goal

pub loop-at-init : goal.loop-at-init
loop-at-init g c = record {
  put = subst (Adds _ _ _ _) (sym (each_below-zero (line_at c.args.code.now))) (Adds-nil _ c.args.text.now.bytes);
  faults = refl;
}

pub returns-in_err-put_line_at-clause-err : goal.returns-in_err-put_line_at-clause-err
returns-in_err-put_line_at-clause-err g c =
    let p = err_from_is_err_and c.from_residual.result c.from_residual.ensures.1 in
    let text = line_at c.args.code.now in
    let at = c.loop-at.at in
    let rest = each_below-rest text (length c.args.code.now.bytes) (at + 1) (omega arith) in
    rw p.1 (Adds-failed _ _ _ c.args.text.now.bytes c.loop-at.text.bytes (each_below at text) (text at) rest.0 _ c.loop-at.invariant.put c.in_err-put_line_at.ensures.err (rest.1 ∙ ap (λ t. t ++ rest.0) (each_below-next text at)))

pub loop-at-preserved : goal.loop-at-preserved
loop-at-preserved g c =
    let text = line_at c.args.code.now in
    let at = c.loop-at.at in
    record {
      put = subst (Adds _ _ _ _) (sym (each_below-next text at)) (Adds-trans _ _ _ c.args.text.now.bytes c.loop-at.text.bytes c.put_line_at.new.text.bytes (each_below at text) (text at) c.loop-at.invariant.put c.in_ok-put_line_at.ensures.ok);
      faults = c.in_ok-put_line_at.ensures.cause.kept ∙ c.loop-at.invariant.faults;
    }
