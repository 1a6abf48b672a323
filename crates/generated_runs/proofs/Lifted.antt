-- The operations of a generated object in code order.
use Rattle.std.proofs.Common.{◌≡◌, ℕ, zero, suc, ◌+◌, ◌*◌, ◌/◌, ◌<◌, ◌≤◌, List, [], ◌∷◌, ◌++◌, length, Bool, true, false, Option, Some, None, refl, sym, ap, ◌∙◌, subst, arith, inl, inr}
use Rattle.std.specs.Prelude.{◌||◌, not, Result, Ok, ℤ, pos, get_or, replicate, nat_eq, slice_get}
use Rattle.std.specs.List.{filter, filter_map}
use Rattle.std.proofs.lemmas.Bool.{ne_eqb, eq-eqb, cases_lt, cases_eq}
use Rattle.std.proofs.lemmas.List.{append-nil, length-map}
use Rattle.std.proofs.lemmas.List.Elements.{filter-append}
use Rattle.std.proofs.lemmas.Option.{slice_get-get_or, slice_get_within}
use Rattle.faults.specs.First.{where_true}
use Rattle.faults.specs.Present.{each_below}
use Rattle.rv_decode.specs.declared.ops.Reg.TheVariants.{Zero, R}
use Rattle.rv_decode.specs.declared.ops.RvOp.{RvOp}
use Rattle.rv_decode.specs.declared.ops.RvOp.TheVariants.{Trap, Jalr as JalrWord}
use Rattle.rv_decode.specs.declared.ops.WordFault.{WordFault}
use Rattle.symbols.specs.Wanted.{Given}
use Rattle.symbols.specs.Resolution.{entry_place}
use Rattle.relocs.specs.Places.{CodePlace, Code, Nowhere, code_offsets, offsets_from, has, same_place}
use Rattle.relocs.specs.Words.{word_of_place, decoded, raw_at}
use Rattle.relocs.specs.Pairs.{is_second, stub_places, all_places}
use Rattle.relocs.specs.AddressMap.{link_of, link_at, named_places, needed_places}
use Rattle.relocs.specs.declared.operand.Operand.TheVariants.{Nothing}
use Rattle.lift_blocks.specs.Operations.{Operation, Plain, Jalr, rename, placed_op, operation_in, operation_at}
use Rattle.lift_blocks.specs.Listed.{entry_places, can_go_on, ends_block, target_of, next_of, successor_of, successor_places, target_in, target_at, targeted_places, is_end, is_emitted, code_places, ends_at, starts, place, IsLifted}
use Rattle.lift_blocks.specs.Fits.{FitsInstructions}
use Rattle.lower.proofs.Lists.{From, from_map}
use Rattle.generated.specs.Words.{next}
use Rattle.generated.specs.Objects.{text}
use Rattle.generated.proofs.Lengths.{text_length}
use Rattle.generated_runs.specs.Inputs.{given_of}
use Rattle.generated_runs.specs.Operations.{operations}
use Rattle.generated_runs.specs.Lifted.{lifted_of, lifted}
use Rattle.generated_runs.specs.Laws.{TextsAreOperations, GeneratedIsLifted}
use Rattle.generated_runs.proofs.CodeWords.{operations-length, no-pair, no-second, word-there, word-at_end}
use Rattle.generated_runs.proofs.Forms.{HoldsOfForms, each-operation, each-random}
use Rattle.generated_runs.proofs.Offsets.{offsets-first, offsets-last, offsets-length, place-at, all-kept, none-mapped, passes, none-passes, none-in_both, nothing-named}

-- the last operation of a text
pub last-operation : (seed count : ℕ) → slice_get (operations seed count) count ≡ Some (JalrWord Zero (R 0) (pos 0))
unfolding operations
last-operation seed zero = refl
last-operation seed (suc count) = last-operation (next seed) count

module _ (seed count stack : ℕ) (words : TextsAreOperations) where
  abbrev given : Given
  given = given_of seed count stack

  -- ---- all places

  offsets-are : code_offsets given ≡ offsets_from 0 1 0 (suc (suc count))
  unfolding each_below
  offsets-are =
      let number : length (text seed count) / 4 + 1 ≡ suc (suc count) = omega (arith, text_length seed count) in
      simp append-nil (ap (offsets_from 0 1 0) number)

  no-stubs : stub_places given ≡ []
  unfolding each_below
  no-stubs = refl

  places-are : all_places given ≡ offsets_from 0 1 0 (suc (suc count))
  unfolding all_places
  places-are =
      let kept : filter (λ p. not (is_second given p)) (offsets_from 0 1 0 (suc (suc count))) ≡ offsets_from 0 1 0 (suc (suc count)) =
      all-kept (λ p. not (is_second given p)) (suc (suc count)) 0 (λ at from to. ap not (no-second seed count stack (4 * at))) in
      ap (λ (ps : List CodePlace). filter (λ p. not (is_second given p)) (code_offsets given) ++ ps) no-stubs
      ∙ append-nil _
      ∙ ap (filter (λ p. not (is_second given p))) offsets-are
      ∙ kept

  -- ---- the operation at each place

  -- the operation of the word at an offset, of which something holds
  record Word (P : RvOp → Type 0) (at : ℕ) : Type 0 where
    op : RvOp
    is : ◌≡◌ {A = Option (Result RvOp WordFault)} (word_of_place given (Code 0 1 (4 * at))) (Some (Ok op))
    holds : P op

  word-at : (P : RvOp → Type 0) → HoldsOfForms P → P (JalrWord Zero (R 0) (pos 0)) → P Trap → (at : ℕ) → at ≤ suc count → Word P at
  word-at P forms return trap at le =
      elim (cases_lt at (suc count)) [
        | inl before ↦
            let there : slice_get (operations seed count) at ≡ Some (get_or (operations seed count) at Trap) = slice_get-get_or (operations seed count) at Trap (omega (arith, before, operations-length seed count)) in
            record { op = get_or (operations seed count) at Trap; is = word-there seed count stack words at (get_or (operations seed count) at Trap) there; holds = each-operation P forms return seed count at (get_or (operations seed count) at Trap) there }
        | inr end ↦ record { op = Trap; is = word-at_end seed count stack (4 * at) (omega (arith, le, end)); holds = trap }
      ]

  raw-is : (offset : ℕ) (op : RvOp) → ◌≡◌ {A = Option (Result RvOp WordFault)} (word_of_place given (Code 0 1 offset)) (Some (Ok op)) → raw_at given (Code 0 1 offset) ≡ Some op
  raw-is offset op is = ap decoded is

  no-link : (at : ℕ) → at ≤ suc count → link_at given (Code 0 1 (4 * at)) ≡ None
  no-link at le =
      let word = word-at (λ op. (after : CodePlace) → link_of after (Some op) ≡ None)
      (record { of_addi = λ d s immediate d_fits s_fits fits after. refl; of_srliw = λ d s immediate d_fits s_fits fits after. refl; of_registers = λ op d s t d_fits s_fits t_fits after. refl })
      (λ after. refl) (λ after. refl) at le in
      rw (no-pair seed count stack (4 * at), raw-is (4 * at) word.op word.is) (word.holds _)

  none-named : named_places given ≡ []
  unfolding each_below
  none-named =
      let links : filter_map (link_at given) (all_places given) ≡ [] =
      ap (filter_map (link_at given)) places-are ∙ none-mapped (link_at given) (suc (suc count)) 0 (λ at from to. no-link at (omega (arith, to))) in
      rw links refl

  none-needed : needed_places given ≡ []
  unfolding needed_places
  none-needed = ap (λ (named : List CodePlace). filter (has named) (all_places given)) none-named ∙ nothing-named (has []) (all_places given) (λ p. refl)

  -- an operation is placed as it is listed
  abbrev IsPlacedAs : (ℕ → CodePlace) → RvOp → Type 0
  IsPlacedAs name op = (after : CodePlace) (aim : ℤ → CodePlace) → placed_op (needed_places given) after aim Nothing op ≡ rename name (lifted_of op)

  placed-forms : (name : ℕ → CodePlace) → HoldsOfForms (IsPlacedAs name)
  placed-forms name = record {
    of_addi = λ d s immediate d_fits s_fits fits after aim. refl;
    of_srliw = λ d s immediate d_fits s_fits fits after aim. refl;
    of_registers = λ op d s t d_fits s_fits t_fits after aim. refl;
  }

  operation-is : (name : ℕ → CodePlace) (offset : ℕ) (op : RvOp)
      → ◌≡◌ {A = Option (Result RvOp WordFault)} (word_of_place given (Code 0 1 offset)) (Some (Ok op)) → IsPlacedAs name op
      → operation_at given (Code 0 1 offset) ≡ Some (rename name (lifted_of op))
  unfolding operation_in
  operation-is name offset op is placed =
      rw (no-pair seed count stack offset, raw-is offset op is) (ap (λ (o : Operation CodePlace). Some o) (placed _ _))

  -- what holds of each operation of the text, and of the trap at its end, holds of the operation at each place
  record Placed (P : Operation ℕ → Type 0) (at : ℕ) : Type 0 where
    op : Operation ℕ
    is : (name : ℕ → CodePlace) → operation_at given (Code 0 1 (4 * at)) ≡ Some (rename name op)
    holds : P op

  placed-at : (P : Operation ℕ → Type 0) → HoldsOfForms (λ op. P (lifted_of op)) → P (Jalr Zero (R 0) (pos 0) 0) → P (Plain Trap) → (at : ℕ) → at ≤ suc count → Placed P at
  placed-at P forms return trap at le =
      let word = word-at (λ op. P (lifted_of op) × ((name : ℕ → CodePlace) → IsPlacedAs name op))
      (record {
        of_addi = λ d s immediate d_fits s_fits fits. (forms.of_addi d s immediate d_fits s_fits fits, λ name after aim. refl);
        of_srliw = λ d s immediate d_fits s_fits fits. (forms.of_srliw d s immediate d_fits s_fits fits, λ name after aim. refl);
        of_registers = λ op d s t d_fits s_fits t_fits. (forms.of_registers op d s t d_fits s_fits t_fits, λ name after aim. refl);
      })
      (return, λ name after aim. refl) (trap, λ name after aim. refl) at le in
      record { op = lifted_of word.op; is = λ name. operation-is name (4 * at) word.op word.is (word.holds.1 name); holds = word.holds.0 }

  -- the operation of the text
  text-operation : (name : ℕ → CodePlace) (at : ℕ) (op : RvOp) → slice_get (operations seed count) at ≡ Some op → operation_at given (Code 0 1 (4 * at)) ≡ Some (rename name (lifted_of op))
  text-operation name at op there =
      operation-is name (4 * at) op (word-there seed count stack words at op there)
      (each-operation (IsPlacedAs name) (placed-forms name) (λ after aim. refl) seed count at op there)

  -- and the trap
  end-operation : operation_at given (Code 0 1 (4 * suc count)) ≡ Some (Plain Trap)
  end-operation = operation-is (λ t. Nowhere) (4 * suc count) Trap (word-at_end seed count stack (4 * suc count) refl) (λ after aim. refl)

  -- ---- the places that begin blocks

  no-target : (at : ℕ) → at ≤ suc count → target_at given (Code 0 1 (4 * at)) ≡ None
  no-target at le =
      let op = placed-at (λ op. target_of (rename (λ t. Nowhere) op) ≡ None)
      (record { of_addi = λ d s immediate d_fits s_fits fits. refl; of_srliw = λ d s immediate d_fits s_fits fits. refl; of_registers = λ op d s t d_fits s_fits t_fits. refl })
      refl refl at le in
      ap target_in (op.is (λ t. Nowhere)) ∙ op.holds

  entry-is : entry_places given ≡ Code 0 1 0 ∷ []
  unfolding entry_place
  entry-is = refl

  targeted-is : targeted_places given ≡ Code 0 1 0 ∷ []
  targeted-is =
      let targets : filter_map (target_at given) (all_places given) ≡ [] =
      ap (filter_map (target_at given)) places-are ∙ none-mapped (target_at given) (suc (suc count)) 0 (λ at from to. no-target at (omega (arith, to))) in
      ap (λ (ps : List CodePlace). ps ++ filter_map (target_at given) (all_places given) ++ needed_places given) entry-is
      ∙ ap (λ (ps : List CodePlace). (Code 0 1 0 ∷ []) ++ ps ++ needed_places given) targets
      ∙ ap (λ (ps : List CodePlace). (Code 0 1 0 ∷ []) ++ [] ++ ps) none-needed

  -- ---- the places that are emitted

  -- nothing leads to the end
  not-the_end : (at : ℕ) → at ≤ suc count → passes (same_place (Code 0 1 (4 * suc count))) (successor_of given (Code 0 1 (4 * at))) ≡ false
  not-the_end at le = elim (cases_lt at count) [
    | inl before ↦
        let op = placed-at (λ op. Unit {0}) (record { of_addi = λ d s immediate d_fits s_fits fits. tt; of_srliw = λ d s immediate d_fits s_fits fits. tt; of_registers = λ op d s t d_fits s_fits t_fits. tt }) tt tt at le in
        let other : nat_eq (4 * suc count) (4 * at + 4) ≡ false = ne_eqb (4 * suc count) (4 * at + 4) (λ e. omega (arith, before, e)) in
        ap (λ (o : Option (Operation CodePlace)). passes (same_place (Code 0 1 (4 * suc count))) (next_of given (Code 0 1 (4 * at)) o)) (op.is (λ t. Nowhere))
        ∙ rw (no-pair seed count stack (4 * at)) (by_test (4 * at + 4) other (can_go_on (rename (λ t. Nowhere) op.op)))
    | inr after ↦ elim (cases_eq at count) [
      | inl last ↦
          ap (λ (at : ℕ). passes (same_place (Code 0 1 (4 * suc count))) (successor_of given (Code 0 1 (4 * at)))) last
          ∙ ap (λ (o : Option (Operation CodePlace)). passes (same_place (Code 0 1 (4 * suc count))) (next_of given (Code 0 1 (4 * count)) o)) (text-operation (λ t. Nowhere) count (JalrWord Zero (R 0) (pos 0)) (last-operation seed count))
      | inr other ↦
          let end : at ≡ suc count = omega (arith, le, after, other) in
          ap (λ (at : ℕ). passes (same_place (Code 0 1 (4 * suc count))) (successor_of given (Code 0 1 (4 * at)))) end
          ∙ ap (λ (o : Option (Operation CodePlace)). passes (same_place (Code 0 1 (4 * suc count))) (next_of given (Code 0 1 (4 * suc count)) o)) end-operation
    ]
  ]
    where
      by_test : (offset : ℕ) → nat_eq (4 * suc count) offset ≡ false → (b : Bool) → passes (same_place (Code 0 1 (4 * suc count))) (where_true b (Code 0 1 offset)) ≡ false
      by_test offset other true = other
      by_test offset other false = refl

  end-not_emitted : is_emitted given (Code 0 1 (4 * suc count)) ≡ false
  end-not_emitted =
      let end : is_end given (Code 0 1 (4 * suc count)) ≡ true = eq-eqb (4 * suc count) (length (text seed count)) (omega (arith, text_length seed count)) in
      let successors : has (successor_places given) (Code 0 1 (4 * suc count)) ≡ false =
      ap (λ (ps : List CodePlace). has (filter_map (successor_of given) ps) (Code 0 1 (4 * suc count))) places-are
      ∙ none-passes (same_place (Code 0 1 (4 * suc count))) (successor_of given) (suc (suc count)) 0 (λ at from to. not-the_end at (omega (arith, to))) in
      let other : nat_eq (4 * suc count) 0 ≡ false = ne_eqb (4 * suc count) 0 (λ e. omega (arith, e)) in
      let targeted : has (targeted_places given) (Code 0 1 (4 * suc count)) ≡ false =
      ap (λ (ps : List CodePlace). has ps (Code 0 1 (4 * suc count))) targeted-is ∙ rw other refl in
      ap (λ (b : Bool). not b || has (successor_places given ++ targeted_places given) (Code 0 1 (4 * suc count))) end
      ∙ none-in_both (same_place (Code 0 1 (4 * suc count))) (successor_places given) (targeted_places given) successors targeted

  emitted : (at : ℕ) → at < suc count → is_emitted given (Code 0 1 (4 * at)) ≡ true
  emitted at lt =
      let before : nat_eq (4 * at) (length (text seed count)) ≡ false = ne_eqb (4 * at) (length (text seed count)) (λ e. omega (arith, lt, e, text_length seed count)) in
      ap (λ (b : Bool). not b || has (successor_places given ++ targeted_places given) (Code 0 1 (4 * at))) before

  code_places-are : offsets_from 0 1 0 (suc count) ≡ code_places given
  unfolding code_places
  code_places-are =
      let kept : filter (is_emitted given) (offsets_from 0 1 0 (suc count)) ≡ offsets_from 0 1 0 (suc count) = all-kept (is_emitted given) (suc count) 0 (λ at from to. emitted at (omega (arith, to))) in
      let dropped : filter (is_emitted given) (Code 0 1 (4 * suc count) ∷ []) ≡ [] = rw end-not_emitted refl in
      sym (
      ap (filter (is_emitted given)) (places-are ∙ offsets-last (suc count) 0 ∙ ap (λ (offset : ℕ). offsets_from 0 1 0 (suc count) ++ Code 0 1 offset ∷ []) (omega arith))
      ∙ filter-append (is_emitted given) (offsets_from 0 1 0 (suc count)) (Code 0 1 (4 * suc count) ∷ [])
      ∙ ap (λ (ps : List CodePlace). ps ++ filter (is_emitted given) (Code 0 1 (4 * suc count) ∷ [])) kept
      ∙ ap (λ (ps : List CodePlace). offsets_from 0 1 0 (suc count) ++ ps) dropped
      ∙ append-nil _
      )

  -- ---- blocks

  -- none but the first begins a block
  goes-on : (at : ℕ) → at < count → ends_at (operation_at given (Code 0 1 (4 * at))) ≡ false
  goes-on at lt =
      let there : slice_get (operations seed count) at ≡ Some (get_or (operations seed count) at Trap) = slice_get-get_or (operations seed count) at Trap (omega (arith, lt, operations-length seed count)) in
      ap ends_at (text-operation (λ t. Nowhere) at (get_or (operations seed count) at Trap) there)
      ∙ each-random (λ op. ends_block (rename (λ t. Nowhere) (lifted_of op)) ≡ false)
      (record { of_addi = λ d s immediate d_fits s_fits fits. refl; of_srliw = λ d s immediate d_fits s_fits fits. refl; of_registers = λ op d s t d_fits s_fits t_fits. refl })
      seed count at (get_or (operations seed count) at Trap) lt there

  not-targeted : (at : ℕ) → 0 < at → has (targeted_places given) (Code 0 1 (4 * at)) ≡ false
  not-targeted at positive =
      let other : nat_eq (4 * at) 0 ≡ false = ne_eqb (4 * at) 0 (λ e. omega (arith, positive, e)) in
      ap (λ (ps : List CodePlace). has ps (Code 0 1 (4 * at))) targeted-is ∙ rw other refl

  none-starts : (n at : ℕ) → 0 < at → at + n ≡ suc count → starts given false (offsets_from 0 1 (4 * at) n) ≡ replicate n false
  none-starts zero at positive all = refl
  none-starts (suc zero) at positive all = rw (not-targeted at positive) refl
  none-starts (suc (suc n)) at positive all =
      let rest : starts given false (offsets_from 0 1 (4 * suc at) (suc n)) ≡ replicate (suc n) false = none-starts (suc n) (suc at) (omega arith) (omega (arith, all)) in
      ap (starts given false) (offsets-first (suc n) at)
      ∙ ap (λ (b : Bool). b ∷ starts given (ends_at (operation_at given (Code 0 1 (4 * at)))) (offsets_from 0 1 (4 * suc at) (suc n))) (not-targeted at positive)
      ∙ ap (λ (b : Bool). false ∷ starts given b (offsets_from 0 1 (4 * suc at) (suc n))) (goes-on at (omega (arith, all)))
      ∙ ap (λ (bs : List Bool). false ∷ bs) rest

  first-starts : true ∷ replicate count false ≡ starts given true (offsets_from 0 1 0 (suc count))
  first-starts = by_count count refl
    where
      by_count : (n : ℕ) → n ≡ count → true ∷ replicate n false ≡ starts given true (offsets_from 0 1 0 (suc n))
      by_count zero is = refl
      by_count (suc n) is =
          ap (λ (bs : List Bool). true ∷ bs) (sym (none-starts (suc n) 1 (omega arith) (omega (arith, is))))
          ∙ ap (λ (b : Bool). true ∷ starts given b (offsets_from 0 1 4 (suc n))) (sym (goes-on 0 (omega (arith, is))))

  -- ---- the list

  fits : (at : ℕ) (op : RvOp) → slice_get (operations seed count) at ≡ Some op → FitsInstructions (lifted_of op)
  fits =
      each-operation (λ op. FitsInstructions (lifted_of op))
      (record {
        of_addi = λ d s immediate d_fits s_fits fits. (omega (arith, d_fits), omega (arith, s_fits), omega (arith, fits));
        of_srliw = λ d s immediate d_fits s_fits fits. (omega (arith, d_fits), omega (arith, s_fits), fits);
        of_registers = λ op d s t d_fits s_fits t_fits. (omega (arith, d_fits), omega (arith, s_fits), omega (arith, t_fits));
      })
      (tt, omega arith, omega arith, tt) seed count

  untargeted : (at : ℕ) (op : RvOp) → slice_get (operations seed count) at ≡ Some op → target_of (lifted_of op) ≡ None
  untargeted =
      each-operation (λ op. target_of (lifted_of op) ≡ None)
      (record { of_addi = λ d s immediate d_fits s_fits fits. refl; of_srliw = λ d s immediate d_fits s_fits fits. refl; of_registers = λ op d s t d_fits s_fits t_fits. refl })
      refl seed count

  -- the operation that is listed with a number
  listed : (q : ℕ) (op : Operation ℕ) → slice_get (lifted seed count).ops q ≡ Some op → From lifted_of (operations seed count) q op
  listed q op is = from_map lifted_of (operations seed count) q op is

  ops-are : (q : ℕ) (op : Operation ℕ) → slice_get (lifted seed count).ops q ≡ Some op → operation_at given (place (offsets_from 0 1 0 (suc count)) q) ≡ Some (rename (place (offsets_from 0 1 0 (suc count))) op)
  ops-are q op is =
      let from = listed q op is in
      let below : q < length (operations seed count) = slice_get_within (operations seed count) q from.x from.there in
      ap (operation_at given) (place-at (suc count) 0 q (omega (arith, below, operations-length seed count)) ∙ ap (λ (offset : ℕ). Code 0 1 offset) (omega arith))
      ∙ text-operation (place (offsets_from 0 1 0 (suc count))) q from.x from.there
      ∙ ap (λ (op : Operation ℕ). Some (rename (place (offsets_from 0 1 0 (suc count))) op)) from.is

  is-lifted : IsLifted given (lifted seed count)
  is-lifted = record {
    places_are = code_places-are;
    count = length-map (operations seed count) lifted_of ∙ operations-length seed count ∙ sym (offsets-length (suc count) 0);
    ops_are = ops-are;
    ops_fit = λ q op is. (let from = listed q op is in subst FitsInstructions from.is (fits q from.x from.there));
    targets_exist = λ q t op is target. (let from = listed q op is in let none : target_of op ≡ None = ap target_of (sym from.is) ∙ untargeted q from.x from.there in absurd cc);
    begins_are = first-starts;
    map_is = sym none-needed;
    imports_are = refl;
    entries_are = sym entry-is;
    entries_exist = λ entry t is. exists entry t is;
    needed_are = refl;
    needed_exist = λ i t is. absurd cc;
  }
    where
      exists : (entry t : ℕ) → slice_get (0 ∷ []) entry ≡ Some t → t < length (offsets_from 0 1 0 (suc count))
      exists zero t is = (let first : 0 ≡ t = cc in omega (arith, first))
      exists (suc entry) t is = absurd cc

pub generated-is_lifted : TextsAreOperations → GeneratedIsLifted
generated-is_lifted words seed count stack few = is-lifted seed count stack words
