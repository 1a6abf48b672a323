-- The lockstep simulation of the PVM: the instructions by number are placed in the code by position.
use Rattle.std.proofs.Common.{◌≡◌, ℕ, ◌+◌, List, map, true, false, Bool, Option, Some, None, refl, sym, ap, ◌∙◌}
use Rattle.std.specs.Prelude.{slice_get, option_map}
use Rattle.std.proofs.lemmas.Option.{slice_get-map}
use Rattle.numbers.specs.Words.{sum_64}
use Rattle.runs.specs.Machine.{Outcome, Next, Jump, Call, Ends, retarget}
use Rattle.runs.specs.Lockstep.{GoesOn, LockstepAt, Lockstep}
use Rattle.machine_state.specs.State.{State}
use Rattle.machine_state.specs.Ends.{End}
use Rattle.pvm_ops.specs.Listing.{Listing}
use Rattle.pvm_ops.specs.Opcodes.{form_of}
use Rattle.pvm_ops.specs.declared.instr.Instr.{Instr}
use Rattle.pvm_ops.specs.Offsets.{offset_of, with_offset, has_offset}
use Rattle.pvm_ops.specs.BlockList.{BlockList}
use Rattle.blob_check.specs.Starts.{is_start}
use Rattle.pvm_machine.specs.Effect.{effect}
use Rattle.pvm_machine.specs.Step.{land, does_at, instr_at}
use Rattle.pvm_machine.proofs.FetchedInstrs.{instr_is_there, none_is_there}
use Rattle.pvm_machine.specs.Laws.{EffectIsRenamed, EffectIsPlain, EffectIsNamed, IsNamed, EffectIsOfTarget, EffectIsTargeted, IsTo}
use Rattle.jump_table.specs.Assembly.{Member, members_of, instr_position, start_of, offset, placed_instr}
use Rattle.jump_table.specs.Laws.{is_some, IsAssemblable, AreEnded, IsPlaced}
use Rattle.jump_table.proofs.Offsets.{with_rest, with_none}
use Rattle.jump_table.proofs.Blocks.{member_has}
use Rattle.lower.specs.Cutting.{Targeted, or_zero, instr_does}
use Rattle.lower.specs.Laws.{InBlock}
use Rattle.lower.proofs.Lists.{from_map}

-- a jump to where blocks start lands
pub lands : (starts : ℕ → Bool) (name : ℕ → ℕ) (table : List ℕ) (o : Outcome ℕ State End) → IsNamed table o → ((i t : ℕ) → slice_get table i ≡ Some t → starts (name t) ≡ true) → land starts (retarget name o) ≡ retarget name o
lands starts name table (Next s) h k = refl
lands starts name table (Jump t s) h k = rw (k h.0 t h.1) refl
lands starts name table (Call number s) h k = refl
lands starts name table (Ends end) h k = refl

mapped_none : {X Y : Type 0} (f : X → Y) (x : Option X) → option_map f x ≡ None → x ≡ None
mapped_none f None e = refl
mapped_none f (Some x) e = absurd cc

-- the machine goes on at its own position
goes_same : (x : ℕ) (o : Outcome ℕ State End) → GoesOn x x o
goes_same x (Next s) = refl
goes_same x (Jump t s) = tt
goes_same x (Call number s) = refl
goes_same x (Ends end) = tt

-- so does a jump to one target
lands_at : (starts : ℕ → Bool) (name : ℕ → ℕ) (target : ℕ) (o : Outcome ℕ State End) → IsTo target o → starts (name target) ≡ true → land starts (retarget name o) ≡ retarget name o
lands_at starts name target (Next s) h k = refl
lands_at starts name target (Jump t s) h k = rw (h, k) refl
lands_at starts name target (Call number s) h k = refl
lands_at starts name target (Ends end) h k = refl

module _ (lengths : List ℕ) (list : BlockList) (code : Listing) (assemblable : IsAssemblable list) (ended : AreEnded list) (placed : IsPlaced lengths list code)
    (renamed : EffectIsRenamed) (no_target : EffectIsPlain) (named : EffectIsNamed) (of_target : EffectIsOfTarget) (to_target : EffectIsTargeted)
    (instrs : List Targeted) (block : ℕ → ℕ)
    (same_instrs : map {B = InBlock} (λ a. record { instr = a.instr; target = option_map block a.target }) instrs ≡ map {B = InBlock} (λ m. record { instr = m.instr; target = m.target }) (members_of lengths list))
    (places : ℕ → ℕ) (same_places : (t : ℕ) → start_of lengths list (block t) ≡ instr_position lengths list (places t))
    (needed table : List ℕ) (same_table : table ≡ map (λ t. instr_position lengths list (places t)) needed)
    (starts : (i t : ℕ) → slice_get needed i ≡ Some t → is_start code (instr_position lengths list (places t)) ≡ true) where
  name : ℕ → ℕ
  name t = instr_position lengths list (places t)

  -- what an instruction is among those of the list of blocks
  record Listed (q : ℕ) (a : Targeted) : Type 0 where
    m : Member
    there : slice_get (members_of lengths list) q ≡ Some m
    instr_is : m.instr ≡ a.instr
    target_is : m.target ≡ option_map block a.target

  listed : (q : ℕ) (a : Targeted) → slice_get instrs q ≡ Some a → Listed q a
  listed q a e =
      let mapped = slice_get-map {B = InBlock} (λ a. record { instr = a.instr; target = option_map block a.target }) instrs q ∙ ap (option_map (λ a. record { instr = a.instr; target = option_map block a.target })) e in
      let from = from_map {B = InBlock} (λ m. record { instr = m.instr; target = m.target }) (members_of lengths list) q _ (ap (λ l. slice_get l q) (sym same_instrs) ∙ mapped) in
      record { m = from.x; there = from.there; instr_is = ap (λ b. b.instr) from.is; target_is = ap (λ b. b.target) from.is }

  unlisted : (q : ℕ) → slice_get instrs q ≡ None → slice_get (members_of lengths list) q ≡ None
  unlisted q e =
      mapped_none {Y = InBlock} (λ m. record { instr = m.instr; target = m.target }) (slice_get (members_of lengths list) q)
      (sym (slice_get-map {B = InBlock} (λ m. record { instr = m.instr; target = m.target }) (members_of lengths list) q)
      ∙ ap (λ l. slice_get l q) (sym same_instrs)
      ∙ slice_get-map {B = InBlock} (λ a. record { instr = a.instr; target = option_map block a.target }) instrs q
      ∙ ap (option_map (λ a. record { instr = a.instr; target = option_map block a.target })) e)

  -- an instruction without an offset does the same at its position
  plain_same : (at target : ℕ) (i : Instr) (s : State) → has_offset (form_of i.op) ≡ false → does_at table code (record { instr = i; at = at }) s ≡ retarget (λ t. instr_position lengths list (places t)) (effect needed target i s)
  plain_same at target i s none =
      let to = sum_64 at (offset_of (form_of i.op) i) in
      ap (λ l. land (is_start code) (effect l to i s)) same_table
      ∙ ap (land (is_start code)) (no_target (map (λ t. instr_position lengths list (places t)) needed) to (instr_position lengths list (places target)) i s none)
      ∙ ap (land (is_start code)) (renamed (λ t. instr_position lengths list (places t)) needed target i s)
      ∙ lands (is_start code) (λ t. instr_position lengths list (places t)) needed (effect needed target i s) (named needed target i s none) starts

  -- and so does one with an offset, that leads to the start of its target
  targeted_same : (at offset target : ℕ) (i : Instr) (s : State) → has_offset (form_of i.op) ≡ true
      → sum_64 at (offset_of (form_of (with_offset (form_of i.op) offset i).op) (with_offset (form_of i.op) offset i)) ≡ instr_position lengths list (places target)
      → is_start code (instr_position lengths list (places target)) ≡ true
      → does_at table code (record { instr = with_offset (form_of i.op) offset i; at = at }) s ≡ retarget (λ t. instr_position lengths list (places t)) (effect needed target i s)
  targeted_same at offset target i s has leads start =
      ap (λ l. land (is_start code) (effect l (sum_64 at (offset_of (form_of (with_offset (form_of i.op) offset i).op) (with_offset (form_of i.op) offset i))) (with_offset (form_of i.op) offset i) s)) same_table
      ∙ ap (λ to. land (is_start code) (effect (map (λ t. instr_position lengths list (places t)) needed) to (with_offset (form_of i.op) offset i) s)) leads
      ∙ ap (land (is_start code)) (of_target (map (λ t. instr_position lengths list (places t)) needed) (instr_position lengths list (places target)) offset i s)
      ∙ ap (land (is_start code)) (renamed (λ t. instr_position lengths list (places t)) needed target i s)
      ∙ lands_at (is_start code) (λ t. instr_position lengths list (places t)) target (effect needed target i s) (to_target needed target i s has) start

  -- each instruction, with its offset, does the same at its position
  does_same : (q : ℕ) (m : Member) (o : Option ℕ) (s : State) → slice_get (members_of lengths list) q ≡ Some m → m.target ≡ option_map block o
      → does_at table code (record { instr = placed_instr lengths list q m.target m.instr; at = instr_position lengths list q }) s ≡ retarget (λ t. instr_position lengths list (places t)) (effect needed (or_zero o) m.instr s)
  does_same q m None s there e =
      let none : has_offset (form_of m.instr.op) ≡ false = by_offset (has_offset (form_of m.instr.op)) refl in
      rw e (plain_same (instr_position lengths list q) 0 m.instr s none)
    where
      by_offset : (b : Bool) → has_offset (form_of m.instr.op) ≡ b → b ≡ false
      by_offset true has = (let targeted = member_has lengths list assemblable.blocks q m there has in let none : is_some m.target ≡ false = ap is_some e in absurd cc)
      by_offset false has = refl
  does_same q m (Some t) s there e = rw e (by_offset (has_offset (form_of m.instr.op)) refl)
    where
      by_offset : (b : Bool) → has_offset (form_of m.instr.op) ≡ b
          → does_at table code (record { instr = placed_instr lengths list q (Some (block t)) m.instr; at = instr_position lengths list q }) s ≡ retarget (λ t. instr_position lengths list (places t)) (effect needed t m.instr s)
      by_offset true has =
          let op : (placed_instr lengths list q (Some (block t)) m.instr).op ≡ m.instr.op = (with_rest (form_of m.instr.op) (offset (instr_position lengths list q) (start_of lengths list (block t))) m.instr).op in
          let leads = rw e at (placed.leads q (block t) m e has) in
          let start = placed.lands ended q (block t) m there e in
          targeted_same (instr_position lengths list q) (offset (instr_position lengths list q) (start_of lengths list (block t))) t m.instr s has
          (rw op (leads ∙ same_places t)) (rw (← same_places t) start)
      by_offset false none =
          rw (with_none (form_of m.instr.op) (offset (instr_position lengths list q) (start_of lengths list (block t))) m.instr none)
          (plain_same (instr_position lengths list q) t m.instr s none)

  -- the instructions of a list are in its code, do the same there, and nothing comes after them
  pub code_lockstep : Lockstep (instr_does needed) (does_at table code) instrs places (instr_position lengths list) (instr_at code)
  code_lockstep = record { at_its_place = lockstep_at; past = past_at }
    where
      lockstep_at : (q : ℕ) (a : Targeted) → slice_get instrs q ≡ Some a → LockstepAt (instr_does needed) (does_at table code) places (instr_position lengths list) (instr_at code) q a
      lockstep_at q a e =
          let is = listed q a e in
          record {
            instr = record { instr = placed_instr lengths list q is.m.target is.m.instr; at = instr_position lengths list q };
            next = instr_position lengths list (q + 1);
            is = (let f = placed.instrs q is.m is.there in instr_is_there code (instr_position lengths list q) (placed_instr lengths list q is.m.target is.m.instr) (instr_position lengths list (q + 1)) f.marked f.known f.fetched);
            same = λ s. does_same q is.m a.target s is.there is.target_is ∙ ap (λ i. retarget (λ t. instr_position lengths list (places t)) (effect needed (or_zero a.target) i s)) is.instr_is;
            goes_on = λ s. goes_same (instr_position lengths list (q + 1)) (instr_does needed a s);
          }

      past_at : (q : ℕ) → slice_get instrs q ≡ None → instr_at code (instr_position lengths list q) ≡ None
      past_at q e = none_is_there code (instr_position lengths list q) (placed.past q (unlisted q e))
