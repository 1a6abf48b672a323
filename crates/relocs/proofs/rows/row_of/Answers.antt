use Rattle.std.proofs.Common.{◌∙◌, ap, rules}
use Rattle.std.specs.List.{filter}
use Rattle.std.specs.List.Sorted.{ties}
use Rattle.std.proofs.lemmas.List.Sorted.{IsNonDecreasingBy-from_sort_by_key, answers_always}
use Rattle.elf_objects.specs.Objects.{relocations_of}
use Rattle.relocs.specs.ByOffset.{offset_of}
use Rattle.relocs.proofs.ByOffset.{by_offset, is_row}
use Rattle.relocs.proofs.rows.row_of.Goals as goal

pub returns : goal.returns
returns c = record {
  row_is = is_row (relocations_of c.args.object.now c.args.section) c.sort_by_key.new.self.items
      (IsNonDecreasingBy-from_sort_by_key offset_of _ c.in_ok-sort_by_key.ensures.sorted (λ a r q k. search rules))
      (λ y. c.in_ok-sort_by_key.ensures.stable offset_of (answers_always _ _ _ (λ f a r q k. search rules)) y ∙ ap (filter (ties by_offset y)) c.in_ok-row.ensures.filtered);
  named = c.in_ok-row.ensures.named;
}
