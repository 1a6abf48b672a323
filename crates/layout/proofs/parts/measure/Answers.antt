use Rattle.std.proofs.Common.{arith}
use Rattle.layout.specs.Sections.{is_read_only, is_writable, is_zero}
use Rattle.layout.proofs.SectionEnds.{end_of_objects-after, end_of_slots-after}
use Rattle.layout.proofs.parts.measure.Goals as goal

pub overflow_sub-read_only_end : goal.overflow_sub-read_only_end
overflow_sub-read_only_end g c = omega (arith, end_of_objects-after is_read_only 65536 c.args.objects.now, end_of_slots-after c.end_of_kind-sections_end.result c.args.slots)

pub overflow_sub-writable_end : goal.overflow_sub-writable_end
overflow_sub-writable_end g c = omega (arith, end_of_objects-after is_writable c.writable_start_after-writable_start.result c.args.objects.now)

pub overflow_sub-zero_end : goal.overflow_sub-zero_end
overflow_sub-zero_end g c =
    omega (arith, end_of_objects-after is_writable c.writable_start_after-writable_start.result c.args.objects.now, end_of_objects-after is_zero c.end_of_kind-writable_end.result c.args.objects.now)

pub overflow_sub-pages_for : goal.overflow_sub-pages_for
overflow_sub-pages_for g c = omega (arith, end_of_objects-after is_zero c.end_of_kind-writable_end.result c.args.objects.now)
