use Rattle.std.proofs.Common.{◌≡◌, ap, ◌∙◌, arith, length}
use Rattle.pvm_ops.specs.Listing.{Listing}
use Rattle.jump_table.specs.Assembly.{code_of, table_of, width_of}
use Rattle.jump_table.proofs.Steps.{starts_same}
use Rattle.jump_table.proofs.assembled.assemble.Goals as goal

pub returns : goal.returns
returns c =
    let list = c.args.blocks.now in
    let found = c.in_ok-positions.ensures in
    let code : record { bytes = c.into_parts-code.result.0; mask = c.into_parts-code.result.1.items } ≡ code_of c.in_ok-positions.positions.lengths.items list = rw (c.into_parts-code.ensures.bytes, c.into_parts-code.ensures.mask) c.in_ok-write.ensures in
    let table : c.in_ok-table.table.items ≡ table_of c.in_ok-positions.positions.lengths.items list =
    c.in_ok-table.ensures ∙ rw (c.deref.ensures.value, c.needed.ensures) (starts_same c.in_ok-positions.positions.lengths.items list c.in_ok-positions.positions.starts.items list.needed found.are_starts c.requires.needed) in
    record {
      lengths = c.in_ok-positions.positions.lengths.items;
      are_lengths = found.are_lengths;
      code = code;
      table = table;
      width = c.width-width.ensures ∙ ap width_of (c.deref-2.ensures.value ∙ table);
      starts = found.are_starts;
      size = omega (arith, ap (λ (code : Listing). length code.bytes) code);
    }
