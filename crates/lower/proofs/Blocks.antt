-- A block whose last operation may branch or jump: its instructions do what its operations do, and it can be placed.
use Rattle.std.proofs.Common.{◌≡◌, ℕ, ◌^◌, ◌<◌, Bool, true, false, List, [], ◌∷◌, ◌++◌, length, Option, Some, None, refl, sym, ap, ◌∙◌, subst, arith, append_assoc, length-append}
use Rattle.std.proofs.lemmas.List.{append-nil}
use Rattle.std.specs.List.{AllByRecursion}
use Rattle.std.specs.Option.{option_map}
use Rattle.runs.specs.Blocks.{block_of}
use Rattle.runs.specs.Joined.{joined}
use Rattle.runs.specs.Machine.{does}
use Rattle.runs.specs.Segments.{Implements, lowered, AllLower}
use Rattle.runs.specs.Groups.{segments_of, parts}
use Rattle.runs.proofs.Groups.{one_part, call_then}
use Rattle.runs.proofs.Straight.{implements_block}
use Rattle.rv_decode.specs.declared.ops.RvOp.{RvOp}
use Rattle.rv_decode.specs.declared.ops.RvOp.TheVariants as rv
use Rattle.machine_state.specs.State.{IsState}
use Rattle.lift_blocks.specs.Operations.{Operation, Plain, Branch, Jal, Jalr, Pair, HostCall, Sbrk}
use Rattle.lift_blocks.specs.Step.{op_does}
use Rattle.pvm_ops.specs.declared.instr.Instr.{Instr}
use Rattle.jump_table.specs.Laws.{IsPlaceable, IsPlainInstr, HasNoOffset, is_some}
use Rattle.lower.specs.Instructions.{ecalli, fallthrough}
use Rattle.lift_blocks.specs.Listed.{ends_block}
use Rattle.lower.specs.Constants.{written, begins_run, IsRunOrOne, runs, value_of, constant}
use Rattle.lower.specs.Lowering.{lower_op, tail_if, tail_of, offset_target, last_offset_target, is_call, run_instrs, part_instrs, block_instrs}
use Rattle.lower.specs.Cutting.{targeted, block_segments, instr_does}
use Rattle.lift_blocks.specs.Fits.{FitsInstructions}
use Rattle.lower.specs.Laws.{CallIsFirst, FrontGoesOn, IsPlacedBlock, BlocksAreImplemented, BlocksArePlaceable}
use Rattle.lower.proofs.Lists.{all_append, all_front, all_back}
use Rattle.lower.proofs.Same.{targeted_append, targeted_length}
use Rattle.lower.proofs.Encodable.{small_is_short, alone_is_plain, ecalli_is_plain, sbrk_is_plain, fallthrough_is_plain}
use Rattle.lower.proofs.Beside.{targeted_alone, targeted_lowered, lowers_beside, tail_goes_on, one_after}
use Rattle.lower.proofs.Cuts.{AllGoOn, begins_with, goes_with, Part, Run, Alone, which_part, runs_cut}
use Rattle.lower.proofs.Joining.{run_small, value_fits, constant_is_plain, run_instr, alone_instrs, part_targeted, parts_lower}
use Rattle.lower.proofs.Parted.{implements_joined}
use Rattle.lower.proofs.Jumps.{all_are_lowered, call_does}
use Rattle.lower.proofs.Endings.{endings_are_placeable}

-- an operation that doesn't end its block has instructions without offsets, and no target
goes_on_plain : (needed : List ℕ) (op : Operation ℕ) → FitsInstructions op → ends_block op ≡ false → AllByRecursion IsPlainInstr (lower_op needed op) × (offset_target needed op ≡ None)
goes_on_plain needed (Plain op) h e = (alone_is_plain op h, refl)
goes_on_plain needed (Branch cond rs1 rs2 target) h e = absurd cc
goes_on_plain needed (Jal rd link target) h e = absurd cc
goes_on_plain needed (Jalr rd rs1 imm link) h e = absurd cc
goes_on_plain needed (Pair temp rd link target) h e = absurd cc
goes_on_plain needed (HostCall number) h e = ((ecalli_is_plain number (small_is_short number h), tt), refl)
goes_on_plain needed Sbrk h e = ((sbrk_is_plain 7 7 (omega arith) (omega arith), tt), refl)

-- none of these calls the host
abbrev pub CallNone : List (Operation ℕ) → Type 0
CallNone ops = AllByRecursion (λ op. is_call op ≡ false) ops

one_is_all : (ops : List (Operation ℕ)) → CallNone ops → 0 < length ops → parts is_call ops ≡ ops ∷ []
one_is_all [] none some = absurd (omega arith)
one_is_all (op ∷ ops) none some = one_part is_call op ops none

no_offsets : (is : List Instr) → AllByRecursion IsPlainInstr is → AllByRecursion HasNoOffset is × AllByRecursion IsPlaceable is
no_offsets [] h = (tt, tt)
no_offsets (i ∷ is) h = let r = no_offsets is h.1 in ((h.0.no_offset, r.0), (record { known = h.0.known; encodable = h.0.encodable }, r.1))

-- operations have a part, and each part an operation
some_parts : (ops : List (Operation ℕ)) → 0 < length ops → 0 < length (runs ops)
some_parts ops some = by_parts (runs ops) (runs_cut ops).all
  where
    by_parts : (parts : List (List (Operation ℕ))) → joined parts ≡ ops → 0 < length parts
    by_parts [] e = absurd (omega (arith, some, ap length e))
    by_parts (part ∷ parts) e = omega arith

parts_have : (parts : List (List (Operation ℕ))) → AllByRecursion IsRunOrOne parts → AllByRecursion (λ part. 0 < length part) parts
parts_have [] h = tt
parts_have ([] ∷ parts) h = absurd h.0
parts_have ((op ∷ ops) ∷ parts) h = (omega arith, parts_have parts h.1)

-- what comes after the last operation of a list, and its target, are those of its last part
tail_after : (part : List (Operation ℕ)) (next : Operation ℕ) (ops : List (Operation ℕ)) → tail_of (part ++ next ∷ ops) ≡ tail_of (next ∷ ops)
tail_after [] next ops = refl
tail_after (op ∷ []) next ops = refl
tail_after (op ∷ other ∷ part) next ops = tail_after (other ∷ part) next ops

last_offset_target_after : (needed : List ℕ) (part : List (Operation ℕ)) (next : Operation ℕ) (ops : List (Operation ℕ)) → last_offset_target needed (part ++ next ∷ ops) ≡ last_offset_target needed (next ∷ ops)
last_offset_target_after needed [] next ops = refl
last_offset_target_after needed (op ∷ []) next ops = refl
last_offset_target_after needed (op ∷ other ∷ part) next ops = last_offset_target_after needed (other ∷ part) next ops

front_back : (part : List (Operation ℕ)) (next : Operation ℕ) (ops : List (Operation ℕ)) → FrontGoesOn (part ++ next ∷ ops) → FrontGoesOn (next ∷ ops)
front_back [] next ops h = h
front_back (op ∷ []) next ops h = h.1
front_back (op ∷ other ∷ part) next ops h = front_back (other ∷ part) next ops h.1

-- an operation that doesn't end its block, and has no target
abbrev KeepsOn : List ℕ → Operation ℕ → Type 0
KeepsOn needed op = (ends_block op ≡ false) × (offset_target needed op ≡ None)

last_keeps_on : (needed : List ℕ) (op : Operation ℕ) (ops : List (Operation ℕ)) → AllByRecursion (λ x. KeepsOn needed x) (op ∷ ops) → (tail_of (op ∷ ops) ≡ fallthrough ∷ []) × (last_offset_target needed (op ∷ ops) ≡ None)
last_keeps_on needed op [] h = (rw h.0.0 refl, h.0.1)
last_keeps_on needed op (next ∷ ops) h = last_keeps_on needed next ops h.1

-- so are those of a run
written_keeps_on : (op : RvOp) (d : ℕ) → written op ≡ Some d → ends_block {Target = ℕ} (Plain op) ≡ false
written_keeps_on (rv.Lui rd x) d e = refl
written_keeps_on (rv.Auipc rd x) d e = refl
written_keeps_on (rv.OpImm op rd rs1 imm) d e = refl
written_keeps_on (rv.Op op rd rs1 rs2) d e = refl
written_keeps_on (rv.Jal rd offset) d e = absurd cc
written_keeps_on (rv.Jalr rd rs1 imm) d e = absurd cc
written_keeps_on (rv.Branch cond rs1 rs2 offset) d e = absurd cc
written_keeps_on (rv.Load width rd rs1 imm) d e = absurd cc
written_keeps_on (rv.Store width rs1 rs2 imm) d e = absurd cc
written_keeps_on rv.Fence d e = absurd cc
written_keeps_on rv.Trap d e = absurd cc

begin_keeps_on : (needed : List ℕ) (op : Operation ℕ) (d : ℕ) → begins_run op ≡ Some d → KeepsOn needed op
begin_keeps_on needed (Plain op) d e = (written_keeps_on op d (begins_with op d e).1, refl)
begin_keeps_on needed (Branch cond rs1 rs2 target) d e = absurd cc
begin_keeps_on needed (Jal rd link target) d e = absurd cc
begin_keeps_on needed (Jalr rd rs1 imm link) d e = absurd cc
begin_keeps_on needed (Pair temp rd link target) d e = absurd cc
begin_keeps_on needed (HostCall number) d e = absurd cc
begin_keeps_on needed Sbrk d e = absurd cc

rest_keeps_on : (needed : List ℕ) (d : ℕ) (ops : List (Operation ℕ)) → AllGoOn d ops → AllByRecursion (λ x. KeepsOn needed x) ops
rest_keeps_on needed d [] h = tt
rest_keeps_on needed d (Plain op ∷ ops) h = ((written_keeps_on op d (goes_with op d h.0).1, refl), rest_keeps_on needed d ops h.1)
rest_keeps_on needed d (Branch cond rs1 rs2 target ∷ ops) h = let wrong : false ≡ true = h.0 in absurd cc
rest_keeps_on needed d (Jal rd link target ∷ ops) h = let wrong : false ≡ true = h.0 in absurd cc
rest_keeps_on needed d (Jalr rd rs1 imm link ∷ ops) h = let wrong : false ≡ true = h.0 in absurd cc
rest_keeps_on needed d (Pair temp rd link target ∷ ops) h = let wrong : false ≡ true = h.0 in absurd cc
rest_keeps_on needed d (HostCall number ∷ ops) h = let wrong : false ≡ true = h.0 in absurd cc
rest_keeps_on needed d (Sbrk ∷ ops) h = let wrong : false ≡ true = h.0 in absurd cc

run_keeps_on : (needed : List ℕ) (d : ℕ) (op : Operation ℕ) (run : List (Operation ℕ)) → begins_run op ≡ Some d → AllGoOn d run → AllByRecursion (λ x. KeepsOn needed x) (op ∷ run)
run_keeps_on needed d op run b h = (begin_keeps_on needed op d b, rest_keeps_on needed d run h)

module _ (needed : List ℕ) where
  -- each operation of a block is lowered, where the target is that of its last
  all_lower : (ops : List (Operation ℕ)) → AllByRecursion FitsInstructions ops → CallNone ops → FrontGoesOn ops → AllLower (op_does needed) (instr_does needed) IsState (targeted_alone needed (last_offset_target needed ops)) ops
  all_lower [] h none front = tt
  all_lower (op ∷ []) h none front = (let l = all_are_lowered needed op h.0 none.0 in record { same = l.same; three = l.three; silent = l.silent; stays = l.stays }, tt)
  all_lower (op ∷ next ∷ ops) h none front = (lowers_beside needed (last_offset_target needed (next ∷ ops)) op (goes_on_plain needed op h.0 front.0).0 (all_are_lowered needed op h.0 none.0), all_lower (next ∷ ops) h.1 none.1 front.1)

  -- the last operation and what comes after it
  last_block : (op : Operation ℕ) (b : Bool) → FitsInstructions op → ends_block op ≡ b → IsPlacedBlock (lower_op needed op ++ tail_if b) (offset_target needed op)
  last_block op true h e =
      let ending = endings_are_placeable needed op h e in
      let same : lower_op needed op ++ [] ≡ lower_op needed op = append-nil (lower_op needed op) in
      record {
        block = record { front = ending.block.front; last = ending.block.last; is = same ∙ ending.block.is; plain = ending.block.plain; targeted = ending.block.targeted };
        placeable = subst (λ is. AllByRecursion IsPlaceable is) (sym same) ending.placeable;
        terminator = ending.terminator;
      }
  last_block op false h e =
      let plain = goes_on_plain needed op h e in
      let both = no_offsets (lower_op needed op) plain.0 in
      record {
        block = record { front = lower_op needed op; last = fallthrough; is = refl; plain = both.0; targeted = fallthrough_is_plain.no_offset ∙ ap is_some (sym plain.1) };
        placeable = all_append IsPlaceable (lower_op needed op) (fallthrough ∷ []) both.1 (record { known = fallthrough_is_plain.known; encodable = fallthrough_is_plain.encodable }, tt);
        terminator = refl;
      }

  -- more instructions in front, none with an offset
  in_front : (is js : List Instr) (target : Option ℕ) → AllByRecursion IsPlainInstr is → IsPlacedBlock js target → IsPlacedBlock (is ++ js) target
  in_front is js target h r =
      let both = no_offsets is h in
      record {
        block = record {
          front = is ++ r.block.front;
          last = r.block.last;
          is = ap (λ js. is ++ js) r.block.is ∙ sym (append_assoc is r.block.front (r.block.last ∷ []));
          plain = all_append HasNoOffset is r.block.front both.0 r.block.plain;
          targeted = r.block.targeted;
        };
        placeable = all_append IsPlaceable is js both.1 r.placeable;
        terminator = r.terminator;
      }

  -- what falls through
  fallthrough_placed : IsPlacedBlock (fallthrough ∷ []) None
  fallthrough_placed = record {
    block = record { front = []; last = fallthrough; is = refl; plain = tt; targeted = fallthrough_is_plain.no_offset };
    placeable = (record { known = fallthrough_is_plain.known; encodable = fallthrough_is_plain.encodable }, tt);
    terminator = refl;
  }

  -- after a run that is the last of its block
  last_run : (d v : ℕ) (op : Operation ℕ) (run : List (Operation ℕ)) → d < 13 → v < 2 ^ 64 → AllByRecursion (λ x. KeepsOn needed x) (op ∷ run) → IsPlacedBlock (constant d v ∷ tail_of (op ∷ run)) (last_offset_target needed (op ∷ run))
  last_run d v op run small fits h =
      let same = last_keeps_on needed op run h in
      rw (same.0, same.1) (in_front (constant d v ∷ []) (fallthrough ∷ []) None (constant_is_plain d v small fits, tt) fallthrough_placed)

  -- all parts and what comes after the last
  parts_placed : (parts : List (List (Operation ℕ))) → AllByRecursion IsRunOrOne parts → AllByRecursion FitsInstructions (joined parts) → FrontGoesOn (joined parts) → 0 < length parts
      → IsPlacedBlock (lowered (run_instrs needed) parts ++ tail_of (joined parts)) (last_offset_target needed (joined parts))
  parts_placed [] each h front some = absurd (omega arith)
  parts_placed (part ∷ []) each h front some = by_part part (which_part part each.0) h
    where
      by_part : (part : List (Operation ℕ)) → Part part → AllByRecursion FitsInstructions (part ++ []) → IsPlacedBlock ((run_instrs needed part ++ []) ++ tail_of (part ++ [])) (last_offset_target needed (part ++ []))
      by_part _ (Alone op b) h =
          let one : run_instrs needed (op ∷ []) ++ [] ≡ lower_op needed op = append-nil (run_instrs needed (op ∷ [])) ∙ alone_instrs needed op b in
          subst (λ is. IsPlacedBlock (is ++ tail_of (op ∷ [])) (offset_target needed op)) (sym one) (last_block op (ends_block op) h.0 refl)
      by_part _ (Run d op run b go) h =
          let fits = subst (λ l. AllByRecursion FitsInstructions (op ∷ l)) (append-nil run) h in
          let one : run_instrs needed (op ∷ run) ≡ constant d (value_of 0 (op ∷ run)) ∷ [] = run_instr needed d op run b in
          subst (λ l. IsPlacedBlock ((run_instrs needed (op ∷ run) ++ []) ++ tail_of (op ∷ l)) (last_offset_target needed (op ∷ l))) (sym (append-nil run))
          (rw one (last_run d (value_of 0 (op ∷ run)) op run (run_small op d fits.0 b) (value_fits 0 (op ∷ run) fits (omega arith)) (run_keeps_on needed d op run b go)))
  parts_placed (part ∷ [] ∷ parts) each h front some = absurd each.1.0
  parts_placed (part ∷ (next ∷ ops) ∷ parts) each h front some =
      by_part part (which_part part each.0) h front
      (parts_placed ((next ∷ ops) ∷ parts) each.1 (all_back FitsInstructions part (next ∷ ops ++ joined parts) h) (front_back part next (ops ++ joined parts) front) (omega arith))
    where
      after : List Instr
      after = lowered (run_instrs needed) ((next ∷ ops) ∷ parts)

      with_part : (part : List (Operation ℕ)) → AllByRecursion IsPlainInstr (run_instrs needed part)
          → IsPlacedBlock (lowered (run_instrs needed) ((next ∷ ops) ∷ parts) ++ tail_of (next ∷ ops ++ joined parts)) (last_offset_target needed (next ∷ ops ++ joined parts))
          → IsPlacedBlock ((run_instrs needed part ++ lowered (run_instrs needed) ((next ∷ ops) ∷ parts)) ++ tail_of (part ++ (next ∷ ops ++ joined parts))) (last_offset_target needed (part ++ (next ∷ ops ++ joined parts)))
      with_part part plain r =
          let own = run_instrs needed part in
          let same : (own ++ after) ++ tail_of (part ++ (next ∷ ops ++ joined parts)) ≡ own ++ (after ++ tail_of (next ∷ ops ++ joined parts)) = append_assoc own after (tail_of (part ++ (next ∷ ops ++ joined parts))) ∙ ap (λ tail. own ++ (after ++ tail)) (tail_after part next (ops ++ joined parts)) in
          subst (λ is. IsPlacedBlock is (last_offset_target needed (part ++ (next ∷ ops ++ joined parts)))) (sym same)
          (subst (λ target. IsPlacedBlock (own ++ (after ++ tail_of (next ∷ ops ++ joined parts))) target) (sym (last_offset_target_after needed part next (ops ++ joined parts)))
          (in_front own (after ++ tail_of (next ∷ ops ++ joined parts)) (last_offset_target needed (next ∷ ops ++ joined parts)) plain r))

      by_part : (part : List (Operation ℕ)) → Part part → AllByRecursion FitsInstructions (part ++ (next ∷ ops ++ joined parts)) → FrontGoesOn (part ++ (next ∷ ops ++ joined parts))
          → IsPlacedBlock (lowered (run_instrs needed) ((next ∷ ops) ∷ parts) ++ tail_of (next ∷ ops ++ joined parts)) (last_offset_target needed (next ∷ ops ++ joined parts))
          → IsPlacedBlock ((run_instrs needed part ++ lowered (run_instrs needed) ((next ∷ ops) ∷ parts)) ++ tail_of (part ++ (next ∷ ops ++ joined parts))) (last_offset_target needed (part ++ (next ∷ ops ++ joined parts)))
      by_part _ (Alone op b) h front r = with_part (op ∷ []) (rw (alone_instrs needed op b) (goes_on_plain needed op h.0 front.0).0) r
      by_part _ (Run d op run b go) h front r =
          let fits = all_front FitsInstructions (op ∷ run) (next ∷ ops ++ joined parts) h in
          with_part (op ∷ run) (rw (run_instr needed d op run b) (constant_is_plain d (value_of 0 (op ∷ run)) (run_small op d fits.0 b) (value_fits 0 (op ∷ run) fits (omega arith)), tt)) r

  placed_block : (ops : List (Operation ℕ)) → AllByRecursion FitsInstructions ops → FrontGoesOn ops → 0 < length ops → IsPlacedBlock (block_instrs needed ops) (last_offset_target needed ops)
  placed_block ops h front some =
      let cut = runs_cut ops in
      subst (λ l. IsPlacedBlock (lowered (run_instrs needed) (runs ops) ++ tail_of l) (last_offset_target needed l)) cut.all
      (parts_placed (runs ops) cut.each (subst (λ l. AllByRecursion FitsInstructions l) (sym cut.all) h) (subst FrontGoesOn (sym cut.all) front) (some_parts ops some))

  -- a block has an instruction, since its last ends it
  some_instrs : (target : Option ℕ) (ops : List (Operation ℕ)) → AllByRecursion FitsInstructions ops → FrontGoesOn ops → 0 < length ops → 0 < length (lowered (part_targeted needed target) (runs ops) ++ targeted target (tail_of ops))
  some_instrs target ops h front some =
      let ended = (placed_block ops h front some).block in
      let all = ap (λ l. l ++ targeted target (tail_of ops)) (sym (targeted_lowered (run_instrs needed) target (runs ops))) ∙ sym (targeted_append target (part_instrs needed ops) (tail_of ops)) in
      let count = ap length all ∙ targeted_length target (block_instrs needed ops) ∙ ap length ended.is in
      omega (arith, length-append ended.front (ended.last ∷ []))

  -- without a call it is implemented as one segment
  block_is_implemented : (ops : List (Operation ℕ)) → AllByRecursion FitsInstructions ops → CallNone ops → FrontGoesOn ops → 0 < length ops
      → Implements (op_does needed) (instr_does needed) IsState (record { ops = ops; instrs = targeted (last_offset_target needed ops) (part_instrs needed ops) ++ targeted (last_offset_target needed ops) (tail_of ops) })
  block_is_implemented ops h none front some =
      let target = last_offset_target needed ops in
      let cut = runs_cut ops in
      let lowers = subst (λ l. AllLower (op_does needed) (instr_does needed) IsState (targeted_alone needed target) l) (sym cut.all) (all_lower ops h none front) in
      let fits = subst (λ l. AllByRecursion FitsInstructions l) (sym cut.all) h in
      let implemented = implements_block (does (op_does needed)) (instr_does needed) IsState (part_targeted needed target) (runs ops) (targeted target (tail_of ops)) (parts_lower needed target (runs ops) cut.each fits lowers) (some_parts ops some) (some_instrs target ops h front some) (one_after needed target ops) (tail_goes_on needed target ops) in
      let whole = implements_joined (op_does needed) (instr_does needed) IsState (targeted_alone needed target) (runs ops) (lowered (part_targeted needed target) (runs ops) ++ targeted target (tail_of ops)) (parts_have (runs ops) cut.each) lowers implemented in
      subst (λ is. Implements (op_does needed) (instr_does needed) IsState (record { ops = ops; instrs = is ++ targeted target (tail_of ops) })) (sym (targeted_lowered (run_instrs needed) target (runs ops)))
      (subst (λ l. Implements (op_does needed) (instr_does needed) IsState (record { ops = l; instrs = lowered (part_targeted needed target) (runs ops) ++ targeted target (tail_of ops) })) cut.all whole)

  -- the pieces of a block: one without a call, and two where it begins with one
  pub segments_are : (ops : List (Operation ℕ)) → CallNone ops → 0 < length ops → block_segments needed ops ≡ record { ops = ops; instrs = targeted (last_offset_target needed ops) (part_instrs needed ops) ++ targeted (last_offset_target needed ops) (tail_of ops) } ∷ []
  segments_are ops none some = ap (segments_of (λ part. targeted (last_offset_target needed ops) (part_instrs needed part)) (targeted (last_offset_target needed ops) (tail_of ops))) (one_is_all ops none some)

  pub call_segments : (op next : Operation ℕ) (ops : List (Operation ℕ)) → is_call op ≡ true → CallNone (next ∷ ops)
      → block_segments needed (op ∷ next ∷ ops) ≡ record { ops = op ∷ []; instrs = targeted (last_offset_target needed (next ∷ ops)) (part_instrs needed (op ∷ [])) } ∷ record { ops = next ∷ ops; instrs = targeted (last_offset_target needed (next ∷ ops)) (part_instrs needed (next ∷ ops)) ++ targeted (last_offset_target needed (next ∷ ops)) (tail_of (next ∷ ops)) } ∷ []
  call_segments op next ops call none =
      let cut : parts is_call (op ∷ next ∷ ops) ≡ (op ∷ []) ∷ (next ∷ ops) ∷ [] = rw (call, one_is_all (next ∷ ops) none (omega arith)) refl in
      ap (segments_of (λ part. targeted (last_offset_target needed (next ∷ ops)) (part_instrs needed part)) (targeted (last_offset_target needed (next ∷ ops)) (tail_of (next ∷ ops)))) cut

  -- a block that begins with a call
  call_is_implemented : (op next : Operation ℕ) (ops : List (Operation ℕ)) → is_call op ≡ true → AllByRecursion FitsInstructions (next ∷ ops) → CallNone (next ∷ ops) → FrontGoesOn (next ∷ ops)
      → AllByRecursion (Implements (op_does needed) (instr_does needed) IsState) (block_segments needed (op ∷ next ∷ ops))
  call_is_implemented (HostCall number) next ops call h none front =
      let target = last_offset_target needed (next ∷ ops) in
      call_then (op_does needed) (instr_does needed) IsState (λ part. targeted target (part_instrs needed part)) (targeted target (tail_of (next ∷ ops))) is_call
      (HostCall number) (record { instr = ecalli number; target = target }) (next ∷ ops) refl refl (one_is_all (next ∷ ops) none (omega arith))
      (λ s g. call_does needed target number s) (λ s g. g) (block_is_implemented (next ∷ ops) h none front (omega arith))
  call_is_implemented (Plain op) next ops call h none front = absurd cc
  call_is_implemented (Branch cond rs1 rs2 target) next ops call h none front = absurd cc
  call_is_implemented (Jal rd link target) next ops call h none front = absurd cc
  call_is_implemented (Jalr rd rs1 imm link) next ops call h none front = absurd cc
  call_is_implemented (Pair temp rd link target) next ops call h none front = absurd cc
  call_is_implemented Sbrk next ops call h none front = absurd cc

  by_first : (b : Bool) (op : Operation ℕ) (ops : List (Operation ℕ)) → is_call op ≡ b → AllByRecursion FitsInstructions (op ∷ ops) → CallIsFirst (op ∷ ops) → FrontGoesOn (op ∷ ops)
      → AllByRecursion (Implements (op_does needed) (instr_does needed) IsState) (block_segments needed (op ∷ ops))
  by_first false op ops call h first front = (let none : CallNone (op ∷ ops) = (call, first.0) in rw (segments_are (op ∷ ops) none (omega arith)) (block_is_implemented (op ∷ ops) h none front (omega arith), tt))
  by_first true op [] call h first front = absurd (omega (arith, first.1 call))
  by_first true op (next ∷ ops) call h first front = call_is_implemented op next ops call h.1 first.0 front.1

pub each_block_is_implemented : BlocksAreImplemented
each_block_is_implemented needed [] h first front some = absurd (omega (arith, some))
each_block_is_implemented needed (op ∷ ops) h first front some = by_first needed (is_call op) op ops refl h first front

is_some_map : (f : ℕ → ℕ) (o : Option ℕ) → is_some (option_map f o) ≡ is_some o
is_some_map f None = refl
is_some_map f (Some x) = refl

pub blocks_are_placeable : BlocksArePlaceable
blocks_are_placeable needed begins ops h front some =
    let r = placed_block needed ops h front some in
    record {
      block = record { front = r.block.front; last = r.block.last; is = r.block.is; plain = r.block.plain; targeted = r.block.targeted ∙ sym (is_some_map (block_of begins) (last_offset_target needed ops)) };
      placeable = r.placeable;
      terminator = r.terminator;
    }
