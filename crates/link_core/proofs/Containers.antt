-- The container of what is assembled: it has a spelling, and it is the linked program.
use Rattle.std.proofs.Common.{◌≡◌, ℕ, zero, suc, ◌+◌, ◌-◌, ◌*◌, ◌/◌, ◌%◌, ◌^◌, ◌<◌, ◌≤◌, Bool, true, false, List, [], ◌∷◌, ◌++◌, length, map, get_or, refl, sym, subst, arith, length-append, ap, ◌∙◌, Some}
use Rattle.std.specs.Prelude.{slice_index, slice_get, nat_lt, ◌&&◌, if◌then◌else◌}
use Rattle.std.specs.List.{All, flat_map}
use Rattle.std.proofs.lemmas.Bool.{ltb-false, ltb-true}
use Rattle.std.proofs.lemmas.List.{length-map}
use Rattle.std.proofs.lemmas.List.FromFn.{length-map-range_with_len}
use Rattle.faults.specs.Present.{broken}
use Rattle.faults.proofs.Absent.{none-left, none-right, none-broken}
use Rattle.elf_objects.specs.declared.fault.Fault.{Fault}
use Rattle.numbers.specs.Bytes.{little}
use Rattle.numbers.proofs.BytesLaws.{length-little}
use Rattle.runs.specs.Joined.{joined}
use Rattle.runs.specs.Marks.{marks}
use Rattle.runs.proofs.Words.{marks_length}
use Rattle.symbols.specs.Wanted.{Given}
use Rattle.layout.specs.Addresses.{read_only_len, writable_len, zero_pages}
use Rattle.layout.specs.Faults.{whole, layout_faults}
use Rattle.relocs.specs.Images.{Images, AreImages}
use Rattle.relocs.specs.Laws.{ImagesHaveLengths}
use Rattle.pvm_ops.specs.Listing.{Listing, packed}
use Rattle.pvm_ops.specs.BlockList.{BlockList}
use Rattle.pvm_ops.proofs.Padding.{packed_is_padded}
use Rattle.pvm_ops.proofs.Masks.{length-packed}
use Rattle.blob_codec.specs.Grammar.{natural_len, natural, Program, Container, program_bytes, IsProgram, IsContainer, container_bytes}
use Rattle.jump_table.specs.Assembly.{words, code_members, code_of, table_of, width_of, all_below, first_of, start_of}
use Rattle.jump_table.specs.Assembling.{Assembles, AssembledCode}
use Rattle.jump_table.proofs.BlockStarts.{position_within}
use Rattle.lift_blocks.specs.Listed.{Lifted, IsLifted, Lifts}
use Rattle.lower.specs.Lowering.{lowered_blocks}
use Rattle.link_core.specs.Agrees.{Agrees}
use Rattle.link_core.specs.Linked.{Linked, IsLinked, HoldsLinked, program_of, container_of, container_with}
use Rattle.link_core.specs.Laws.{LinkedAgrees}
use Rattle.link_core.specs.MapText.{map_text, entry_lines, data_lines, got_line, code_lines}
use Rattle.layout.specs.Addresses.{got_of}

-- ---- the data

-- what the layout leaves fits the fields of a container
pub record PartsFit (given : Given) : Type 0 where
  pub read_only : read_only_len given < 2 ^ 24
  pub writable : writable_len given < 2 ^ 24
  pub zero_pages_fit : zero_pages given < 2 ^ 16

-- where a fault of too large a number isn't present, the number is within its limit
within : (m n : ℕ) (fault : Fault) → broken (nat_lt m n) fault ≡ [] → n ≤ m
within m n fault e = ltb-false m n (none-broken (nat_lt m n) fault e)

parts_fit : (given : Given) → layout_faults given ≡ [] → PartsFit given
parts_fit given e =
    let after_first = none-right (broken (nat_lt (2 ^ 24 - 1) (read_only_len given)) (whole 14)) _ e in
    let after_second = none-right (broken (nat_lt (2 ^ 24 - 1) (writable_len given)) (whole 15)) _ after_first in
    let first = within (2 ^ 24 - 1) (read_only_len given) (whole 14) (none-left _ _ e) in
    let second = within (2 ^ 24 - 1) (writable_len given) (whole 15) (none-left _ _ after_first) in
    let third = within 65535 (zero_pages given) (whole 16) (none-left _ _ after_second) in
    record { read_only = omega (arith, first); writable = omega (arith, second); zero_pages_fit = omega (arith, third) }

-- ---- the program

natural_len-le : (x : ℕ) → natural_len x ≤ 8
unfolding natural_len
natural_len-le x = grind arith

natural_size : (x : ℕ) → length (natural x) ≤ 9
unfolding natural
natural_size x = omega (arith, natural_len-le x, length-little (natural_len x) x)

-- six parts one after another, of which the second is one byte
parts_size : (a c table code mask : List ℕ) (width : ℕ) → length (a ++ (width ∷ []) ++ c ++ table ++ code ++ mask) ≡ length a + 1 + length c + length table + length code + length mask
parts_size a c table code mask width = simp length-append (omega arith)

table_size : (width : ℕ) (table : List ℕ) → length (flat_map (little width) table) ≡ width * length table
table_size width [] = omega arith
table_size width (entry ∷ table) = omega (arith, length-append (little width entry) (flat_map (little width) table), length-little width entry, table_size width table)

marked_size : (ws : List (List ℕ)) → length (joined (map marks ws)) ≡ length (joined ws)
marked_size [] = refl
marked_size (w ∷ ws) = omega (arith, length-append (marks w) (joined (map marks ws)), length-append w (joined ws), marks_length w, marked_size ws)

width_small : (table : List ℕ) → width_of table ≤ 4
width_small table = by_tests (all_below (2 ^ 8) table) (all_below (2 ^ 16) table) (all_below (2 ^ 24) table)
  where
    by_tests : (a b c : Bool) → (if a then 1 else (if b then 2 else (if c then 3 else 4))) ≤ 4
    by_tests true b c = omega arith
    by_tests false true c = omega arith
    by_tests false false true = omega arith
    by_tests false false false = omega arith

width_some : (table : List ℕ) → 1 ≤ width_of table
width_some table = by_tests (all_below (2 ^ 8) table) (all_below (2 ^ 16) table) (all_below (2 ^ 24) table)
  where
    by_tests : (a b c : Bool) → 1 ≤ (if a then 1 else (if b then 2 else (if c then 3 else 4)))
    by_tests true b c = omega arith
    by_tests false true c = omega arith
    by_tests false false true = omega arith
    by_tests false false false = omega arith

and_first : (a b : Bool) → (a && b) ≡ true → a ≡ true
and_first true b e = refl
and_first false b e = absurd cc

and_second : (a b : Bool) → (a && b) ≡ true → b ≡ true
and_second true b e = e
and_second false b e = absurd cc

below_at : (bound : ℕ) (table : List ℕ) (k d : ℕ) → all_below bound table ≡ true → k < length table → get_or table k d < bound
below_at bound [] k d e lt = absurd (omega (arith, lt))
below_at bound (x ∷ table) zero d e lt = ltb-true x bound (and_first (nat_lt x bound) (all_below bound table) e)
below_at bound (x ∷ table) (suc k) d e lt = below_at bound table k d (and_second (nat_lt x bound) (all_below bound table) e) (omega (arith, lt))

-- each entry fits the width of its table
width_holds : (table : List ℕ) → ((k d : ℕ) → k < length table → get_or table k d < 2 ^ 32) → All (λ entry. entry < 2 ^ (8 * width_of table)) table
width_holds table small k d lt = by_tests (all_below (2 ^ 8) table) refl (all_below (2 ^ 16) table) refl (all_below (2 ^ 24) table) refl
  where
    by_tests : (a : Bool) → all_below (2 ^ 8) table ≡ a → (b : Bool) → all_below (2 ^ 16) table ≡ b → (c : Bool) → all_below (2 ^ 24) table ≡ c → get_or table k d < 2 ^ (8 * (if a then 1 else (if b then 2 else (if c then 3 else 4))))
    by_tests true e b f c g = below_at (2 ^ 8) table k d e lt
    by_tests false e true f c g = below_at (2 ^ 16) table k d f lt
    by_tests false e false f true g = below_at (2 ^ 24) table k d g lt
    by_tests false e false f false g = small k d lt

starts_small : (lengths : List ℕ) (list : BlockList) (needed : List ℕ) → length (code_of lengths list).bytes ≤ 2 ^ 25 → (k d : ℕ) → k < length (map (start_of lengths list) needed) → get_or (map (start_of lengths list) needed) k d < 2 ^ 32
starts_small lengths list [] few k d lt = absurd (omega (arith, lt))
starts_small lengths list (block ∷ needed) few zero d lt = omega (arith, position_within lengths list (first_of list block), few)
starts_small lengths list (block ∷ needed) few (suc k) d lt = starts_small lengths list needed few k d (omega (arith, lt))

module _ (lengths : List ℕ) (list : BlockList) (few : length (code_of lengths list).bytes ≤ 2 ^ 25) (few_needed : length list.needed ≤ 2 ^ 28) where
  abbrev ws : List (List ℕ)
  ws = words (code_members lengths list)

  -- the mask has a bit for each byte, and zeros after these
  mask_size : length (code_of lengths list).mask ≡ (length (code_of lengths list).bytes + 7) / 8
  unfolding code_of
  mask_size = length-packed (joined (map marks ws)) ∙ ap (λ n. (n + 7) / 8) (marked_size ws)

  padding_is : slice_index (code_of lengths list).mask (length (code_of lengths list).bytes / 8) / 2 ^ (length (code_of lengths list).bytes % 8) ≡ 0
  unfolding code_of
  padding_is =
      let marked = joined (map marks ws) in
      subst (λ n. slice_index (packed marked) (n / 8) / 2 ^ (n % 8) ≡ 0) (marked_size ws) (packed_is_padded marked)

  table_len : length (table_of lengths list) ≡ length list.needed
  table_len = length-map list.needed (start_of lengths list)

  bytes_of_table : length (flat_map (little (width_of (table_of lengths list))) (table_of lengths list)) ≤ 4 * 2 ^ 28
  bytes_of_table =
      let size = table_size (width_of (table_of lengths list)) (table_of lengths list) in
      let small = width_small (table_of lengths list) in
      bounded (width_of (table_of lengths list)) (length (table_of lengths list)) _ small (omega (arith, table_len, few_needed)) size
    where
      bounded : (w n m : ℕ) → w ≤ 4 → n ≤ 2 ^ 28 → m ≡ w * n → m ≤ 4 * 2 ^ 28
      bounded zero n m a b e = omega (arith, e)
      bounded (suc zero) n m a b e = omega (arith, e, b)
      bounded (suc (suc zero)) n m a b e = omega (arith, e, b)
      bounded (suc (suc (suc zero))) n m a b e = omega (arith, e, b)
      bounded (suc (suc (suc (suc zero)))) n m a b e = omega (arith, e, b)
      bounded (suc (suc (suc (suc (suc w))))) n m a b e = absurd (omega (arith, a))

  program_size : length (program_bytes (program_of lengths list)) < 2 ^ 32
  program_size =
      let code = code_of lengths list in
      let table = table_of lengths list in
      omega (arith, parts_size (natural (length table)) (natural (length code.bytes)) (flat_map (little (width_of table)) table) code.bytes code.mask (width_of table), natural_size (length table), natural_size (length code.bytes), few, mask_size, bytes_of_table)

  -- the program has a spelling
  pub is_program : IsProgram (program_of lengths list)
  is_program = record {
    table_len = omega (arith, table_len, few_needed);
    code_len = omega (arith, few);
    width = omega (arith, width_small (table_of lengths list));
    some_width = λ e. absurd (omega (arith, e, width_some (table_of lengths list)));
    entries = width_holds (table_of lengths list) (starts_small lengths list list.needed few);
    mask_len = mask_size;
    padding = padding_is;
  }

  -- and so has the container around it
  pub is_container : ImagesHaveLengths → (given : Given) (lifted : Lifted) → list ≡ lowered_blocks lifted → layout_faults given ≡ [] → given.wanted.stack < 2 ^ 24 → IsContainer (container_of given lengths lifted)
  is_container images_have_lengths given lifted e lockstep small =
      let fit = parts_fit given lockstep in
      record {
        read_only = omega (arith, images_have_lengths.of_read_only given, fit.read_only);
        writable = omega (arith, images_have_lengths.of_writable given, fit.writable);
        zero_pages = fit.zero_pages_fit;
        stack = small;
        program_len = subst (λ l. length (program_bytes (program_of lengths l)) < 2 ^ 32) e program_size;
        program = subst (λ l. IsProgram (program_of lengths l)) e is_program;
      }

-- ---- what is linked

-- what the code writes is the container of the linked program
pub container_is : (given : Given) (lifted : Lifted) (images : Images) (assembled : AssembledCode) → AreImages given images → (a : Assembles (lowered_blocks lifted) assembled) → container_with given images assembled ≡ container_of given a.lengths lifted
container_is given lifted images assembled are a = rw (are.read_only_is, are.writable_is, a.code, a.table, a.width) refl

module _ (given : Given) (lifted : Lifted) (lifts : Lifts given lifted) (images : Images) (are : AreImages given images) (assembled : AssembledCode) (a : Assembles (lowered_blocks lifted) assembled) where
  small : length (code_of a.lengths (lowered_blocks lifted)).bytes ≤ 2 ^ 25
  small = omega (arith, ap (λ c. length c.bytes) a.code, a.size)

  needed_len : length (lowered_blocks lifted).needed ≡ length lifted.map
  needed_len = length-map lifted.needed _ ∙ sym (length-map lifted.needed _) ∙ ap length lifts.is.needed_are

  -- as many entries as are wanted
  pub entries_len : length (lowered_blocks lifted).entries ≡ length given.wanted.entries
  entries_len = length-map lifted.entries _ ∙ sym (length-map lifted.entries _) ∙ ap length lifts.is.entries_are ∙ length-map-range_with_len _ 0 (length given.wanted.entries)

  pub spelled_is : ImagesHaveLengths → length lifted.map ≤ 2 ^ 28 → layout_faults given ≡ [] → given.wanted.stack < 2 ^ 24 → IsContainer (container_with given images assembled)
  spelled_is images_have_lengths few lockstep stack =
      subst IsContainer (sym (container_is given lifted images assembled are a))
      (is_container a.lengths (lowered_blocks lifted) small (omega (arith, needed_len, few)) images_have_lengths given lifted refl lockstep stack)

  -- each entry's block has a position
  entries_are : (entries : List ℕ) → ((entry block : ℕ) → slice_get entries entry ≡ Some block → block < length (lowered_blocks lifted).blocks) → map (λ block. slice_index assembled.starts block) entries ≡ map (start_of a.lengths (lowered_blocks lifted)) entries
  entries_are [] all = refl
  entries_are (block ∷ entries) all = rw (a.starts.each block (all 0 block refl)) (ap (λ l. start_of a.lengths (lowered_blocks lifted) block ∷ l) (entries_are entries (λ entry b e. all (suc entry) b e)))

  pub holds : LinkedAgrees → ImagesHaveLengths → length lifted.map ≤ 2 ^ 28 → layout_faults given ≡ [] → given.wanted.stack < 2 ^ 24
      → ((entry block : ℕ) → slice_get (lowered_blocks lifted).entries entry ≡ Some block → block < length (lowered_blocks lifted).blocks)
      → (linked : Linked) → linked.container ≡ container_bytes (container_with given images assembled) → linked.map ≡ lifted.map
      → linked.text ≡ entry_lines 0 given.wanted.entries (map (λ block. slice_index assembled.starts block) (lowered_blocks lifted).entries) ++ data_lines given ++ got_line (got_of given) ++ code_lines given 0 lifted.map assembled.table
      → HoldsLinked given linked
  holds agrees images_have_lengths few lockstep stack begin linked bytes map_is text =
      let container = container_of given a.lengths lifted in
      let fits : IsContainer container = subst IsContainer (container_is given lifted images assembled are a) (spelled_is images_have_lengths few lockstep stack) in
      let linked_is : IsLinked given container = record { lifted = lifted; is_lifted = lifts.is; lengths = a.lengths; lengths_are = a.are_lengths; container_is = refl; fits = fits; small = small } in
      record {
        container = container;
        spelled = bytes ∙ ap container_bytes (container_is given lifted images assembled are a);
        is_linked = linked_is;
        agrees = agrees given container linked_is;
        map_is = map_is ∙ lifts.is.map_is;
        text_is = text ∙ ap (λ ps. entry_lines 0 given.wanted.entries ps ++ data_lines given ++ got_line (got_of given) ++ code_lines given 0 lifted.map assembled.table) (entries_are (lowered_blocks lifted).entries begin)
            ∙ ap (λ t. entry_lines 0 given.wanted.entries (map (start_of a.lengths (lowered_blocks lifted)) (lowered_blocks lifted).entries) ++ data_lines given ++ got_line (got_of given) ++ code_lines given 0 lifted.map t) a.table;
      }
