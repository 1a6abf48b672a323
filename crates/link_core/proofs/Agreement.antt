-- A linked program agrees with its objects: two lockstep simulations and the simulation steps between, composed.
use Rattle.std.proofs.Common.{◌≡◌, ℕ, ◌+◌, ◌*◌, ◌^◌, ◌<◌, ◌≤◌, List, [], ◌∷◌, map, length, Some, refl, sym, ap, ◌∙◌, subst, arith, get_or, true, false, Bool}
use Rattle.std.specs.Prelude.{slice_get, option_map, ◌&&◌}
use Rattle.std.proofs.lemmas.Bool.{ltb-true}
use Rattle.std.proofs.lemmas.List.{length-map}
use Rattle.std.proofs.lemmas.Option.{slice_get-map, slice_get-get_or, slice_get_within}
use Rattle.numbers.specs.Words.{sum_64}
use Rattle.runs.specs.Turn.{Goes}
use Rattle.runs.specs.Machine.{Jump, move}
use Rattle.runs.specs.Runs.{run}
use Rattle.runs.specs.Agree.{Agree}
use Rattle.runs.specs.Lockstep.{act_on, step_at, Lockstep}
use Rattle.runs.specs.Segments.{Cut, all_ops, all_instrs, op_place, instr_place}
use Rattle.runs.specs.Blocks.{block_of}
use Rattle.runs.specs.World.{World, beside, in_world}
use Rattle.runs.proofs.World.{lockstep_world, cut_world}
use Rattle.runs.proofs.Whole.{whole}
use Rattle.machine_state.specs.State.{State, IsState}
use Rattle.machine_state.specs.Ends.{Host, rules}
use Rattle.machine_state.specs.Hosts.{Bounds, bounds_of, IsWorld, AnswersWell}
use Rattle.machine_state.proofs.Hosts.{turns_are_good}
use Rattle.machine_state.specs.Start.{IsImage, start_state}
use Rattle.machine_state.specs.Laws.{StartIsGood}
use Rattle.symbols.specs.Wanted.{Given}
use Rattle.relocs.specs.AddressMap.{needed_places}
use Rattle.lift_blocks.specs.Listed.{Lifted, IsLifted, place, or_nowhere, entry_places}
use Rattle.std.proofs.lemmas.List.FromFn.{length-map-range_with_len}
use Rattle.lift_blocks.specs.Step.{op_does, fetch_op}
use Rattle.lift_blocks.specs.Laws.{SourceLockstep, BoundsStay}
use Rattle.pvm_ops.specs.Listing.{Listing, is_marked}
use Rattle.pvm_ops.specs.BlockList.{BlockList}
use Rattle.blob_check.specs.Starts.{is_start}
use Rattle.pvm_machine.specs.Effect.{effect}
use Rattle.pvm_machine.specs.Step.{land, does_at, instr_at}
use Rattle.pvm_machine.specs.Laws.{EffectIsRenamed, EffectIsPlain, EffectIsNamed, EffectIsOfTarget, EffectIsTargeted}
use Rattle.jump_table.specs.Assembly.{entry_len, jump, offset, instr_position, start_of, code_of, table_of}
use Rattle.jump_table.specs.Laws.{IsAssemblable, AreEnded, IsPlaced, CodeIsPlaced}
use Rattle.jump_table.specs.Lengths.{AreLengths}
use Rattle.lower.specs.Lowering.{lowered_blocks}
use Rattle.lower.specs.Cutting.{segments, first_segment, instr_does, instr_places}
use Rattle.lower.specs.Laws.{LoweredIsCut, BlocksAreAll, EntriesBegin, BlocksAreThere, SameInstrs, SamePlaces, LoweredIsPlaceable}
use Rattle.inner_machines.specs.CallRules.{CallsAnswerWell}
use Rattle.transcript.specs.Hosts.{start_host, answering}
use Rattle.link_core.specs.Hosts.{HostFits}
use Rattle.link_core.specs.Runs.{source_run, machine_run, image_of}
use Rattle.link_core.specs.Agrees.{Agrees}
use Rattle.link_core.specs.Linked.{container_of}
use Rattle.link_core.specs.Laws.{LinkedAgrees}
use Rattle.pvm_ops.proofs.Table as table
use Rattle.pvm_machine.proofs.Opcodes as operation
use Rattle.pvm_machine.proofs.FetchedInstrs.{instr_is_there}
use Rattle.link_core.proofs.CodeLockstep.{code_lockstep}
use Rattle.link_core.proofs.Hosts.{answers_well, start_fits}

first_true : (a b : Bool) → (a && b) ≡ true → a ≡ true
first_true true b e = refl
first_true false b e = e

-- what is marked is a byte of the code
marked_within : (code : Listing) (at : ℕ) → is_marked code at ≡ true → at < length code.bytes
marked_within code at e = ltb-true at (length code.bytes) (first_true _ _ e)

-- where a block starts the code has a byte
start_within : (code : Listing) (at : ℕ) → is_start code at ≡ true → at < length code.bytes
start_within code at e = marked_within code at (first_true _ _ (first_true _ _ e))

module _ (source_lockstep : SourceLockstep) (bounds_stay : BoundsStay) (cut : LoweredIsCut) (blocks_are_all : BlocksAreAll) (entries_begin : EntriesBegin) (blocks_are_there : BlocksAreThere) (same_instrs : SameInstrs)
    (same_places : SamePlaces) (is_placeable : LoweredIsPlaceable) (is_placed : CodeIsPlaced) (renamed : EffectIsRenamed) (no_target : EffectIsPlain) (named : EffectIsNamed) (of_target : EffectIsOfTarget) (to_target : EffectIsTargeted) (start_is_good : StartIsGood) (calls_answer_well : CallsAnswerWell) where
  module _ (given : Given) (lengths : List ℕ) (lifted : Lifted) (is_lifted : IsLifted given lifted) (image : IsImage (image_of given)) (lengths_are : AreLengths (lowered_blocks lifted) lengths) (small : length (code_of lengths (lowered_blocks lifted)).bytes < 2 ^ 31) where
    abbrev list : BlockList
    list = lowered_blocks lifted

    abbrev code : Listing
    code = code_of lengths list

    assemblable : IsAssemblable list
    assemblable = (is_placeable given lifted is_lifted).0

    ended : AreEnded list
    ended = (is_placeable given lifted is_lifted).1

    placed : IsPlaced lengths list code
    placed = is_placed lengths list assemblable lengths_are.wide small

    start_same : (t : ℕ) → start_of lengths list (block_of lifted.begins t) ≡ instr_position lengths list (instr_places lifted t)
    start_same t = ap (instr_position lengths list) (sym (same_places lifted (block_of lifted.begins t)))

    table_same : (ts : List ℕ) → map (start_of lengths list) (map (block_of lifted.begins) ts) ≡ map (λ t. instr_position lengths list (instr_places lifted t)) ts
    table_same [] = refl
    table_same (t ∷ ts) = ap (λ at. at ∷ map (start_of lengths list) (map (block_of lifted.begins) ts)) (start_same t) ∙ ap (λ l. instr_position lengths list (instr_places lifted t) ∷ l) (table_same ts)

    -- the block of an operation starts in the code
    block_starts : (t : ℕ) → t < length lifted.places → is_start code (start_of lengths list (block_of lifted.begins t)) ≡ true
    block_starts t lt = let b = blocks_are_there given lifted is_lifted t lt in placed.starts ended (block_of lifted.begins t) (slice_get_within list.blocks (block_of lifted.begins t) b.0 b.1)

    starts : (t : ℕ) → t < length lifted.places → is_start code (instr_position lengths list (instr_places lifted t)) ≡ true
    starts t lt = ap (is_start code) (sym (start_same t)) ∙ block_starts t lt

    lockstep : Lockstep (instr_does lifted.needed) (does_at (table_of lengths list) code) (all_instrs (segments lifted)) (instr_places lifted) (instr_position lengths list) (instr_at code)
    lockstep = code_lockstep lengths list code assemblable ended placed renamed no_target named of_target to_target (all_instrs (segments lifted)) (block_of lifted.begins) (same_instrs lengths lifted) (instr_places lifted) start_same
        lifted.needed (table_of lengths list) (table_same lifted.needed) (λ i t e. starts t (is_lifted.needed_exist i t e))

    ops_in_lockstep : Lockstep (op_does lifted.needed) (op_does (needed_places given)) (all_ops (segments lifted)) (λ t. t) (place lifted.places) (fetch_op given)
    ops_in_lockstep = subst (λ ops. Lockstep (op_does lifted.needed) (op_does (needed_places given)) ops (λ t. t) (place lifted.places) (fetch_op given)) (sym (blocks_are_all given lifted is_lifted)) (source_lockstep given lifted is_lifted)

    is_cut : Cut (op_does lifted.needed) (instr_does lifted.needed) IsState (segments lifted) (λ t. t) (instr_places lifted)
    is_cut = cut given lifted is_lifted

    back : (at to : ℕ) → at < 2 ^ 31 → to < 2 ^ 31 → sum_64 at (offset at to) ≡ to
    back at to a b = omega arith

    jump_does : (from to target : ℕ) (s : State) → target ≡ sum_64 from (offset from to) → does_at (table_of lengths list) code (record { instr = jump (offset from to); at = from }) s ≡ land (is_start code) (Jump target s)
    unfolding effect
    jump_does from to target s e = rw (operation.jump, table.jump_form) (ap (λ x. land (is_start code) (Jump x s)) (sym e))

    -- the same in the world, with a host that answers well
    module _ {Held : Type 0} (host : Host Held) (fits : Bounds → Held → Type 0) (well : AnswersWell fits host) where
      jumps : (from to next : ℕ) (w : World State Held) → sum_64 from (offset from to) ≡ to → is_start code to ≡ true
          → act_on (rules host) (in_world (does_at (table_of lengths list) code)) (Some (record { instr = record { instr = jump (offset from to); at = from }; next = next })) w ≡ Goes [] 0 0 (record { at = to; of = w })
      jumps from to next w e start = ap (λ o. move (rules host) (λ p. p) next (beside w.held o)) (jump_does from to to w.state (sym e)) ∙ rw start refl

      -- the jump of an entry leads to the instructions of its block
      enters : (entry t : ℕ) (w : World State Held) → slice_get lifted.entries entry ≡ Some t → step_at (rules host) (in_world (does_at (table_of lengths list) code)) (instr_at code) (record { at = entry_len * entry; of = w }) ≡ Goes [] 0 0 (record { at = instr_position lengths list (instr_place (segments lifted) (first_segment lifted (block_of lifted.begins t))); of = w })
      enters entry t w e =
          let k = block_of lifted.begins t in
          let f = placed.entries entry k (slice_get-map (block_of lifted.begins) lifted.entries entry ∙ ap (option_map (block_of lifted.begins)) e) in
          let from = entry_len * entry in
          let to = start_of lengths list k in
          let i = jump (offset from to) in
          let starts_there : is_start code to ≡ true = block_starts t (is_lifted.entries_exist entry t e) in
          let within : to < length code.bytes = start_within code to starts_there in
          let marked_there : from < length code.bytes = marked_within code from f.marked in
          let target : sum_64 from (offset from to) ≡ to = back from to (omega arith) (omega arith) in
          ap (λ x. act_on (rules host) (in_world (does_at (table_of lengths list) code)) x w) (instr_is_there code from i (entry_len * (entry + 1)) f.marked f.known f.fetched)
          ∙ jumps from to (entry_len * (entry + 1)) w target starts_there
          ∙ ap (λ x. Goes [] 0 0 (record { at = instr_position lengths list x; of = w })) (sym (same_places lifted k))

      -- from each entry, and whatever the host holds at the start that fits
      pub agrees_from : (held : Held) (entry t : ℕ) (argument : List ℕ) → fits (bounds_of (start_state (image_of given) argument)) held → slice_get lifted.entries entry ≡ Some t → length argument ≤ 2 ^ 24
          → Agree (source_run host held given entry argument) (machine_run host held (container_of given lengths lifted) entry argument)
      agrees_from held entry t argument begins e few =
          let d : World State Held = record { state = start_state (image_of given) argument; held = held } in
          let good : IsWorld fits d = record { good_state = start_is_good (image_of given) argument image few; held_fits = begins } in
          let k = first_segment lifted (block_of lifted.begins t) in
          let here : place (entry_places given) entry ≡ place lifted.places t = ap (λ l. place l entry) (sym is_lifted.entries_are) ∙ ap or_nowhere (slice_get-map (place lifted.places) lifted.entries entry ∙ ap (option_map (place lifted.places)) e) in
          let there : place lifted.places (op_place (segments lifted) k) ≡ place (entry_places given) entry = ap (place lifted.places) (entries_begin given lifted is_lifted entry t e) ∙ sym here in
          let source_lies = lockstep_world (op_does lifted.needed) (op_does (needed_places given)) (all_ops (segments lifted)) (λ t. t) (place lifted.places) (fetch_op given) ops_in_lockstep in
          let code_lies = lockstep_world (instr_does lifted.needed) (does_at (table_of lengths list) code) (all_instrs (segments lifted)) (instr_places lifted) (instr_position lengths list) (instr_at code) lockstep in
          let cut_there = cut_world (op_does lifted.needed) (instr_does lifted.needed) IsState bounds_of fits (bounds_stay lifted.needed) (segments lifted) (λ t. t) (instr_places lifted) is_cut in
          subst (λ p. Agree (λ n. run (step_at (rules host) (in_world (op_does (needed_places given))) (fetch_op given)) n (record { at = p; of = d })) (machine_run host held (container_of given lengths lifted) entry argument)) there
          (whole (rules host) (IsWorld fits) (segments lifted) (in_world (op_does lifted.needed)) (in_world (instr_does lifted.needed)) (λ t. t) (instr_places lifted)
          (in_world (op_does (needed_places given))) (place lifted.places) (fetch_op given) (in_world (does_at (table_of lengths list) code)) (instr_position lengths list) (instr_at code)
          source_lies cut_there (turns_are_good fits host well) code_lies k d (record { at = entry_len * entry; of = d }) good (enters entry t d e))

    agrees_all : Agrees given (container_of given lengths lifted)
    agrees_all entry argument replies lt few are =
        let same : length lifted.entries ≡ length given.wanted.entries = sym (length-map lifted.entries (place lifted.places)) ∙ ap length is_lifted.entries_are ∙ length-map-range_with_len _ 0 (length given.wanted.entries) in
        let heap_bound = (start_state (image_of given) argument).heap_bound in
        agrees_from answering (HostFits heap_bound) (answers_well calls_answer_well heap_bound) (start_host replies) entry (get_or lifted.entries entry 0) argument (start_fits (image_of given) argument replies are) (slice_get-get_or lifted.entries entry 0 (omega arith)) few

  -- the law of the link
  pub linked_agrees : LinkedAgrees
  linked_agrees given c linked =
      let image : IsImage (image_of given) = (let f = rw linked.container_is at linked.fits in record { read_only = f.read_only; writable = f.writable; zero_pages = f.zero_pages; stack = f.stack }) in
      let small : length (code_of linked.lengths (lowered_blocks linked.lifted)).bytes < 2 ^ 31 = (let h = rw linked.container_is at linked.small in omega arith) in
      rw linked.container_is (agrees_all given linked.lengths linked.lifted linked.is_lifted image linked.lengths_are small)
