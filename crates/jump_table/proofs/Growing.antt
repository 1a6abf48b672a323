-- A list's positions, by those of the shapes of its blocks.
use Rattle.std.proofs.Common.{◌≡◌, ℕ, suc, ◌+◌, ◌*◌, ◌<◌, ◌≤◌, List, length, Some, sym, ap, ◌∙◌, subst, arith, ⊎_elim}
use Rattle.std.specs.Prelude.{slice_get, slice_index}
use Rattle.std.proofs.lemmas.Bool.{cases_lt}
use Rattle.std.proofs.lemmas.List.{length-map, get_or_past}
use Rattle.std.proofs.lemmas.Option.{slice_get_within}
use Rattle.pvm_ops.specs.BlockList.{BlockList}
use Rattle.jump_table.specs.Assembly.{entry_len}
use Rattle.jump_table.specs.Lengths.{Below}
use Rattle.jump_table.specs.Laws.{IsAssemblable}
use Rattle.jump_table.specs.Assembling.{most_bytes, ArePositions, Refuses}
use Rattle.jump_table.specs.declared.fault.AssembleFault.{AssembleFault}
use Rattle.jump_table.specs.declared.fault.AssembleFault.TheVariants.{TooLarge}
use Rattle.jump_table.specs.declared.shapes.Shape.{Shape}
use Rattle.jump_table.specs.Shapes.{start, shape_of, shapes_of, Wide, AreShapeStarts, TargetsWithin}
use Rattle.jump_table.proofs.Least.{start_le, block_long}
use Rattle.jump_table.proofs.Shaping.{size_shaped, are_lengths, are_starts, targets_within, too_large_with}

module _ (base end : ℕ) (shapes : List Shape) (lens starts : List ℕ) (are : AreShapeStarts base shapes lens starts) (is_end : end ≡ base + start shapes lens (length shapes)) (few : end ≤ most_bytes) where
  -- where each block begins is in the code
  pub starts_small : (t : ℕ) → slice_index starts t ≤ most_bytes
  starts_small t =
      ⊎_elim
      (λ lt. let up = start_le shapes lens t (length shapes) (omega (arith, lt)) in omega (arith, are.are t lt, up))
      (λ le. let past = get_or_past starts t 0 (omega (arith, are.starts_count, le)) in omega (arith, past))
      (cases_lt t (length shapes))

  -- and so is the last instruction of each
  pub fronts_small : (at : ℕ) (s : Shape) → slice_get shapes at ≡ Some s → slice_index starts at + s.front ≤ most_bytes
  fronts_small at s e =
      let lt = slice_get_within shapes at s e in
      let long = block_long shapes lens at s e in
      let up = start_le shapes lens (suc at) (length shapes) (omega (arith, lt)) in
      omega (arith, are.are at lt, long, up)

module _ (list : BlockList) (plain : IsAssemblable list) (base : ℕ) (is_base : base ≡ entry_len * length list.entries) (items : List Shape) (is : items ≡ shapes_of list) (shapes : List Shape) (same : shapes ≡ items) (lengths : List ℕ) (least : (other : List ℕ) → Wide items other → Below lengths other) where
  all : shapes ≡ shapes_of list
  all = same ∙ is

  count : length shapes ≡ length list.blocks
  count = ap length all ∙ length-map list.blocks shape_of

  pub targets_are : TargetsWithin shapes
  targets_are = subst TargetsWithin (sym all) (targets_within list plain)

  -- where they end too far there is no code
  pub end_refused : (lens : List ℕ) → lens ≡ lengths → (fault error : AssembleFault) → error ≡ fault → (fault ≡ TooLarge) × (most_bytes < base + start shapes lens (length shapes)) → Refuses list error
  end_refused lens eq fault error is_error refused =
      let size : base + start shapes lens (length shapes) ≡ entry_len * length list.entries + start (shapes_of list) lengths (length list.blocks) =
      ap (λ b. b + start shapes lens (length shapes)) is_base ∙ ap (λ n. entry_len * length list.entries + start shapes lens n) count
      ∙ ap (λ (xs : List Shape). entry_len * length list.entries + start xs lens (length list.blocks)) all ∙ ap (λ l. entry_len * length list.entries + start (shapes_of list) l (length list.blocks)) eq in
      let least_too : (other : List ℕ) → Wide (shapes_of list) other → Below lengths other = subst (λ xs. (other : List ℕ) → Wide xs other → Below lengths other) is least in
      subst (Refuses list) (sym (is_error ∙ refused.0)) (too_large_with list plain lengths least_too (omega (arith, refused.1, size)))

  -- where all fit, these are the positions
  pub are_positions : (lens starts : List ℕ) (end : ℕ) → lens ≡ lengths → length lengths ≡ length items → Wide shapes lengths → AreShapeStarts base shapes lens starts → end ≡ base + start shapes lens (length shapes) → end ≤ most_bytes → ArePositions list lengths starts end
  are_positions lens starts end eq many wide placed is_end few =
      let b = entry_len * length list.entries in
      let size : base + start shapes lens (length shapes) ≡ b + start (shapes_of list) lengths (length list.blocks) =
      ap (λ b. b + start shapes lens (length shapes)) is_base ∙ ap (λ n. b + start shapes lens n) count
      ∙ ap (λ (xs : List Shape). b + start xs lens (length list.blocks)) all ∙ ap (λ l. b + start (shapes_of list) l (length list.blocks)) eq in
      let there = subst (λ l. AreShapeStarts b (shapes_of list) l starts) eq (subst (λ xs. AreShapeStarts b xs lens starts) all (subst (λ n. AreShapeStarts n shapes lens starts) is_base placed)) in
      let least_too : (other : List ℕ) → Wide (shapes_of list) other → Below lengths other = subst (λ xs. (other : List ℕ) → Wide xs other → Below lengths other) is least in
      record {
        are_lengths = are_lengths list plain lengths (many ∙ ap length (sym same) ∙ count) (subst (λ xs. Wide xs lengths) all wide) least_too;
        are_starts = are_starts list plain lengths starts there;
        is_end = is_end ∙ size ∙ sym (size_shaped list plain lengths);
        small = few;
      }
