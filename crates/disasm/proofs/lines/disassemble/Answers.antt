use Rattle.std.proofs.Common.{◌++◌, [], length, ap, ◌∙◌, refl}
use Rattle.std.proofs.lemmas.Result.{err_from_is_err_and}
use Rattle.faults.specs.Present.{each_below}
use Rattle.disasm.specs.Disassembly.{entry_line, line_at, size_line}
use Rattle.disasm.proofs.Adding.{Adds-first, Adds-trans, Adds-failed, Adds-front, Adds-last}
use Rattle.disasm.proofs.lines.disassemble.Goals as goal

pub returns-in_err-put_lines-clause-err : goal.returns-in_err-put_lines-clause-err
returns-in_err-put_lines-clause-err g c =
    let q = err_from_is_err_and c.from_residual.result c.from_residual.ensures.1 in
    let p = c.args.program.now in
    let sizes = Adds-first _ c.push_sizes.new.text.bytes (size_line p) (c.push_sizes.ensures ∙ ap (λ t. t ++ size_line p) c.new-text.ensures) in
    rw q.1 (Adds-failed _ _ _ [] c.push_sizes.new.text.bytes (size_line p) (each_below (length p.code.bytes) (line_at p.code)) (each_below (length p.table) (entry_line p)) _ sizes (rw c.code.ensures at c.in_err-put_lines.ensures.err) refl)

pub returns-in_err-put_table-clause-err : goal.returns-in_err-put_table-clause-err
returns-in_err-put_table-clause-err g c =
    let q = err_from_is_err_and c.from_residual-in_err-put_table.result c.from_residual-in_err-put_table.ensures.1 in
    let p = c.args.program.now in
    let lines = each_below (length p.code.bytes) (line_at p.code) in
    let sizes = Adds-first _ c.push_sizes.new.text.bytes (size_line p) (c.push_sizes.ensures ∙ ap (λ t. t ++ size_line p) c.new-text.ensures) in
    let both = Adds-trans _ _ _ [] c.push_sizes.new.text.bytes c.put_lines.new.text.bytes (size_line p) lines sizes (rw c.code.ensures at c.in_ok-put_lines.ensures.ok) in
    rw q.1 (Adds-front _ _ _ [] c.put_lines.new.text.bytes (size_line p ++ lines) (each_below (length p.table) (entry_line p)) both c.in_err-put_table.ensures.err)

pub returns-in_err-put-clause-err : goal.returns-in_err-put-clause-err
returns-in_err-put-clause-err g c =
    let q = err_from_is_err_and c.from_residual-in_err-put.result c.from_residual-in_err-put.ensures.1 in
    let p = c.args.program.now in
    let lines = each_below (length p.code.bytes) (line_at p.code) in
    let entries = each_below (length p.table) (entry_line p) in
    let sizes = Adds-first _ c.push_sizes.new.text.bytes (size_line p) (c.push_sizes.ensures ∙ ap (λ t. t ++ size_line p) c.new-text.ensures) in
    let both = Adds-trans _ _ _ [] c.push_sizes.new.text.bytes c.put_lines.new.text.bytes (size_line p) lines sizes (rw c.code.ensures at c.in_ok-put_lines.ensures.ok) in
    let all = Adds-trans _ _ _ [] c.put_lines.new.text.bytes c.put_table.new.text.bytes (size_line p ++ lines) entries both c.in_ok-put_table.ensures.ok in
    rw q.1 (Adds-last _ _ _ c.put_table.new.text.bytes _ all (rw (c.as_bytes.ensures.value, c.as_str.ensures.value) at c.in_err-put.ensures.err))
