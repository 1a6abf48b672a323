-- The operations by number are laid out at their places.
use Rattle.std.proofs.Common.{◌≡◌, ℕ, zero, suc, ◌+◌, ◌≤◌, List, [], ◌∷◌, get_or, map, true, false, length, Bool, Option, Some, None, refl, sym, ap, ◌∙◌, arith, add-one}
use Rattle.std.specs.Prelude.{slice_get, if◌then◌else◌}
use Rattle.std.proofs.lemmas.Option.{slice_get_past, slice_get_within, slice_get-get_or}
use Rattle.numbers.specs.Words.{word_of}
use Rattle.faults.specs.First.{where_true}
use Rattle.arithmetic.specs.Operations.{holds}
use Rattle.rv_decode.specs.declared.ops.RvOp.{RvOp}
use Rattle.rv_decode.specs.declared.ops.RvOp.TheVariants as rv
use Rattle.runs.specs.Machine.{Next, Jump, Ends}
use Rattle.runs.specs.Numbers.{to_named}
use Rattle.runs.specs.Lockstep.{GoesOn, LockstepAt}
use Rattle.machine_state.specs.State.{State}
use Rattle.machine_state.specs.Ends.{End, halt, panic}
use Rattle.page_memory.proofs.Outcomes.{loads_by, stores_by}
use Rattle.relocs.specs.Places.{CodePlace, Nowhere}
use Rattle.relocs.specs.Pairs.{next_place}
use Rattle.relocs.specs.AddressMap.{needed_places}
use Rattle.lift_blocks.specs.Arithmetic.{of_cond}
use Rattle.lift_blocks.specs.Operations.{Operation, Plain, Branch, Jal, Jalr, Pair, HostCall, Sbrk, rename, operation_in, operation_at}
use Rattle.lift_blocks.specs.Listed.{place, or_nowhere, plain_goes_on, can_go_on, next_of, successor_of}
use Rattle.lift_blocks.specs.Step.{load_bytes, load_has_sign, store_bytes, plain_does, op_does, value, with_value, after, fetch_op}
use Rattle.lift_blocks.specs.Laws.{SourceLockstep}
use Rattle.lift_blocks.proofs.Renamed.{does_renamed}
use Rattle.lift_blocks.proofs.Named.{goes_renamed}
use Rattle.lift_blocks.proofs.Order.{next_listed}

plain_goes : (op : RvOp) (s : State) (next after : CodePlace) → (plain_goes_on op ≡ true → next ≡ after) → GoesOn {Target = ℕ} next after (plain_does op s)
plain_goes (rv.Lui rd v) s next after h = h refl
plain_goes (rv.Auipc rd v) s next after h = h refl
plain_goes (rv.Jal rd offset) s next after h = tt
plain_goes (rv.Jalr rd rs1 i) s next after h = tt
plain_goes (rv.Branch cond rs1 rs2 offset) s next after h = tt
plain_goes (rv.Load width rd rs1 i) s next after h = loads_by (GoesOn {Target = ℕ} next after) (λ x. with_value s rd x) (load_has_sign width) (load_bytes width) (value s rs1 + word_of i) s (λ number. h refl) (λ end. tt)
plain_goes (rv.Store width rs1 rs2 i) s next after h = stores_by (GoesOn {Target = ℕ} next after) (store_bytes width) (value s rs1 + word_of i) (value s rs2) s (λ memory. h refl) (λ end. tt)
plain_goes (rv.OpImm op rd rs1 i) s next after h = h refl
plain_goes (rv.Op op rd rs1 rs2) s next after h = h refl
plain_goes rv.Fence s next after h = h refl
plain_goes rv.Trap s next after h = tt

branch_goes : (b : Bool) (target : ℕ) (s : State) (next after : CodePlace) → next ≡ after → GoesOn {Target = ℕ} {End = End} next after (if b then Jump target s else Next s)
branch_goes true target s next after e = tt
branch_goes false target s next after e = e

named_goes : (o : Option ℕ) (s : State) (next after : CodePlace) → GoesOn next after (to_named panic o s)
named_goes None s next after = tt
named_goes (Some target) s next after = tt

by_goes : (b : Bool) (o : Option ℕ) (s : State) (next after : CodePlace) → GoesOn next after (if b then Ends (halt s) else to_named panic o s)
by_goes true o s next after = tt
by_goes false o s next after = named_goes o s next after

goes_on : (table : List ℕ) (op : Operation ℕ) (s : State) (next after : CodePlace) → (can_go_on op ≡ true → next ≡ after) → GoesOn next after (op_does table op s)
goes_on table (Plain op) s next after h = plain_goes op s next after h
goes_on table (Branch cond rs1 rs2 target) s next after h = branch_goes (holds (of_cond cond) (value s rs1) (value s rs2)) target s next after (h refl)
goes_on table (Jal rd link target) s next after h = tt
goes_on table (Jalr rd rs1 i link) s next after h = by_goes _ _ (with_value s rd link) next after
goes_on table (Pair temp rd link target) s next after h = tt
goes_on table (HostCall number) s next after h = h refl
goes_on table Sbrk s next after h = h refl

past_le : {A : Type 0} (xs : List A) (q : ℕ) → slice_get xs q ≡ None → length xs ≤ q
past_le [] q e = omega arith
past_le (x ∷ xs) zero e = absurd cc
past_le (x ∷ xs) (suc q) e = let r = past_le xs q e in omega arith

-- the lockstep simulation of the source machine
pub in_lockstep : SourceLockstep
unfolding operation_in
in_lockstep given lifted h = record { at_its_place = at_its_place; past = past }
  where
    next : (op : Operation ℕ) (q : ℕ) → slice_get lifted.ops q ≡ Some op → can_go_on op ≡ true → next_place given (place lifted.places q) ≡ place lifted.places (q + 1)
    next op q e can =
        let c = h.count in
        let within = slice_get_within lifted.ops q op e in
        let p = get_or lifted.places q Nowhere in
        let here : slice_get lifted.places q ≡ Some p = slice_get-get_or lifted.places q Nowhere (omega arith) in
        let is : place lifted.places q ≡ p = ap or_nowhere here in
        let o : operation_at given p ≡ Some (rename (place lifted.places) op) = rw is at (h.ops_are q op e) in
        let goes : can_go_on (rename (place lifted.places) op) ≡ true = goes_renamed (place lifted.places) op ∙ can in
        let given_next : successor_of given p ≡ Some (next_place given p) = ap (next_of given p) o ∙ ap (λ b. where_true b (next_place given p)) goes in
        let listed : slice_get lifted.places (suc q) ≡ Some (next_place given p) = ap (λ l. slice_get l (suc q)) h.places_are ∙ next_listed given q p (next_place given p) (ap (λ l. slice_get l q) (sym h.places_are) ∙ here) given_next in
        ap (next_place given) is ∙ sym (rw add-one (ap or_nowhere listed))

    at_its_place : (q : ℕ) (op : Operation ℕ) → slice_get lifted.ops q ≡ Some op → LockstepAt (op_does lifted.needed) (op_does (needed_places given)) (λ t. t) (place lifted.places) (fetch_op given) q op
    at_its_place q op e =
        let o = h.ops_are q op e in
        let table : map (place lifted.places) lifted.needed ≡ needed_places given = h.needed_are ∙ h.map_is in
        record {
          instr = rename (place lifted.places) op;
          next = next_place given (place lifted.places q);
          is = ap (after given (place lifted.places q)) o;
          same = λ s. rw (← table) (does_renamed (place lifted.places) lifted.needed op s);
          goes_on = λ s. goes_on lifted.needed op s (next_place given (place lifted.places q)) (place lifted.places (q + 1)) (next op q e);
        }

    past : (q : ℕ) → slice_get lifted.ops q ≡ None → fetch_op given (place lifted.places q) ≡ None
    past q e =
        let le : length lifted.ops ≤ q = past_le lifted.ops q e in
        let c = h.count in
        let none : slice_get lifted.places q ≡ None = slice_get_past lifted.places q (omega arith) in
        rw none refl
