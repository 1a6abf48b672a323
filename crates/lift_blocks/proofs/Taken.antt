-- Operations can hold what the relocations at their places give.
use Rattle.std.proofs.Common.{◌≡◌, ℕ, zero, suc, ◌+◌, ◌-◌, ◌*◌, ◌<◌, ◌≤◌, ◌^◌, Bool, true, false, cond, List, [], ◌∷◌, Option, Some, None, pos, refl, sym, ap, ◌∙◌, subst, arith}
use Rattle.std.specs.Prelude.{slice_get, if◌then◌else◌, not, nat_lt}
use Rattle.std.specs.List.{position}
use Rattle.std.specs.Option.{option_map, unwrap_or}
use Rattle.std.proofs.lemmas.Int.{ints}
use Rattle.std.proofs.lemmas.Bool.{ltb-false}
use Rattle.std.proofs.lemmas.List.Quantifiers.{position-Some}
use Rattle.faults.specs.First.{where_true}
use Rattle.faults.specs.Present.{broken}
use Rattle.faults.proofs.Absent.{none-left, none-broken}
use Rattle.elf_objects.specs.declared.parts.Relocation.{Relocation}
use Rattle.rv_decode.specs.declared.ops.RvOp.{RvOp}
use Rattle.rv_decode.specs.declared.ops.RvOp.TheVariants as rv
use Rattle.symbols.specs.Wanted.{Given, kept_objects}
use Rattle.symbols.specs.declared.place.Place.{Place}
use Rattle.symbols.specs.declared.place.Place.TheVariants as names
use Rattle.layout.specs.declared.fault.TheConstants.{READ_ONLY_TOO_LARGE}
use Rattle.layout.specs.Sections.{is_read_only}
use Rattle.layout.specs.Slots.{is_same, slot_places, slot_count}
use Rattle.layout.specs.Addresses.{aligned, end_of_objects, slots_start, end_of_slots, read_only_len}
use Rattle.layout.specs.Faults.{layout_faults, whole}
use Rattle.machine_state.specs.Start.{read_only_start}
use Rattle.relocs.specs.declared.kinds.Kind.{Kind}
use Rattle.relocs.specs.declared.kinds.Kind.TheVariants.{Branch, Jal, Call, GotHigh, PcHigh, PcLow, PcLowStore, High, Low, LowStore, Set32, Set64, Add, Subtract, Distance, Other}
use Rattle.relocs.specs.declared.operand.Operand.{Operand}
use Rattle.relocs.specs.declared.operand.Operand.TheVariants.{Nothing, Value, Target}
use Rattle.relocs.specs.declared.fault.TheConstants.{VALUE_OUT_OF_RANGE}
use Rattle.relocs.specs.Kinds.{kind_of, is_branch, is_jal, is_auipc, is_lui, is_store, has_low_immediate, may_change}
use Rattle.relocs.specs.Places.{Code}
use Rattle.relocs.specs.Sites.{FitsOperand}
use Rattle.relocs.specs.Words.{raw_at}
use Rattle.relocs.specs.Values.{is_high_low, address_fault, target_fault}
use Rattle.relocs.specs.Pairs.{relocations_at}
use Rattle.relocs.specs.Operands.{symbol_place, relocation_value, slot_or_zero, code_value, changes, meaning_fault, high_of, low_by_high, target_place, operand_by, operand_of}
use Rattle.lift_blocks.specs.Operations.{first_operand, operand_at}
use Rattle.lift_blocks.specs.PlacedOps.{IsFaultless, can_be_target, HasTarget, HasBits, HasUpper, CanTake}
use Rattle.lift_blocks.proofs.Relocated.{IsLone, lone, is_meant, or_else_right, low_signed, upper_signed}

-- ---- the addresses of slots

slot_below : (at n i : ℕ) → i < n → aligned at 8 + 8 * i < end_of_slots at n
slot_below at zero i lt = absurd (omega arith)
slot_below at (suc n) i lt = omega arith

-- they are small, since the read-only part is
slot_small : (given : Given) (place : Place) → layout_faults given ≡ [] → slot_or_zero given place < 2 ^ 25
slot_small given place none = by_position (position (is_same place) (slot_places given)) refl
  where
    few : read_only_len given ≤ 2 ^ 24 - 1
    few = ltb-false (2 ^ 24 - 1) (read_only_len given) (none-broken (nat_lt (2 ^ 24 - 1) (read_only_len given)) (whole READ_ONLY_TOO_LARGE) (none-left (broken (nat_lt (2 ^ 24 - 1) (read_only_len given)) (whole READ_ONLY_TOO_LARGE)) _ none))

    by_position : (at : Option ℕ) → position (is_same place) (slot_places given) ≡ at → unwrap_or (option_map (λ i. slots_start given + 8 * i) at) 0 < 2 ^ 25
    by_position None e = omega arith
    by_position (Some i) e =
        let within = (position-Some (is_same place) (slot_places given) i names.Absent e).0 in
        let below = slot_below (end_of_objects is_read_only read_only_start (kept_objects given)) (slot_count given) i within in
        omega (arith, below, few)

small_fits : (n : ℕ) → n < 2 ^ 25 → is_high_low (pos n) ≡ true
small_fits n lt = grind (arith, ints)

-- ---- by kinds

holds : (b : Bool) (code : ℕ) → where_true (not b) code ≡ None → b ≡ true
holds true code e = refl
holds false code e = absurd cc

module _ (given : Given) (o s : ℕ) (r : Relocation) where
  pub value_fits : (k : Kind) → meaning_fault k given o r ≡ None → FitsOperand k given o r
  value_fits Branch e = tt
  value_fits Jal e = tt
  value_fits Call e = tt
  value_fits GotHigh e = tt
  value_fits PcHigh e = holds (is_high_low (relocation_value given o r)) VALUE_OUT_OF_RANGE (or_else_right (address_fault given (symbol_place given o r) r.addend) _ e)
  value_fits PcLow e = tt
  value_fits PcLowStore e = tt
  value_fits High e = holds (is_high_low (relocation_value given o r)) VALUE_OUT_OF_RANGE (or_else_right (address_fault given (symbol_place given o r) r.addend) _ e)
  value_fits Low e = tt
  value_fits LowStore e = tt
  value_fits Set32 e = tt
  value_fits Set64 e = tt
  value_fits (Add n) e = tt
  value_fits (Subtract n) e = tt
  value_fits Distance e = tt
  value_fits Other e = tt

  pub target_is_there : (place : Place) → target_fault given place r.addend ≡ None → can_be_target (target_place place r.addend) ≡ true
  target_is_there (names.Code o s f) e = refl
  target_is_there (names.Bytes o s f) e = absurd cc
  target_is_there names.Unloaded e = absurd cc
  target_is_there (names.Import i) e = refl
  target_is_there (names.Number n) e = absurd cc
  target_is_there names.Absent e = refl

  low_by : (h : Option Relocation) → HasBits 12 (low_by_high given o h)
  low_by None = tt
  low_by (Some h) = low_signed (code_value (kind_of h.kind) given o h)

branch_takes : (op : RvOp) (operand : Operand) → is_branch op ≡ true → HasTarget operand → CanTake op operand
branch_takes (rv.Branch cond rs1 rs2 offset) operand e h = h
branch_takes op operand e h = absurd cc

jal_takes : (op : RvOp) (operand : Operand) → is_jal op ≡ true → HasTarget operand → CanTake op operand
jal_takes (rv.Jal rd offset) operand e h = h
jal_takes op operand e h = absurd cc

auipc_takes : (op : RvOp) (operand : Operand) → is_auipc op ≡ true → HasUpper operand → CanTake op operand
auipc_takes (rv.Auipc rd value) operand e h = h
auipc_takes op operand e h = absurd cc

lui_takes : (op : RvOp) (operand : Operand) → is_lui op ≡ true → HasBits 32 operand → CanTake op operand
lui_takes (rv.Lui rd value) operand e h = h
lui_takes op operand e h = absurd cc

store_takes : (op : RvOp) (operand : Operand) → is_store op ≡ true → HasBits 12 operand → CanTake op operand
store_takes (rv.Store width rs1 rs2 imm) operand e h = h
store_takes op operand e h = absurd cc

low_takes : (op : RvOp) (operand : Operand) → has_low_immediate op ≡ true → HasBits 12 operand → CanTake op operand
low_takes (rv.OpImm op rd rs1 imm) Nothing e h = tt
low_takes (rv.OpImm op rd rs1 imm) (Value v) e h = (e, h)
low_takes (rv.OpImm op rd rs1 imm) (Target place) e h = tt
low_takes (rv.Load width rd rs1 imm) operand e h = h
low_takes (rv.Jalr rd rs1 imm) operand e h = h
low_takes op operand e h = absurd cc

nothing_taken : (op : RvOp) → CanTake op Nothing
nothing_taken (rv.OpImm op rd rs1 imm) = tt
nothing_taken op = tt

takes_by : (given : Given) (o s : ℕ) (r : Relocation) → layout_faults given ≡ [] → (k : Kind) (op : RvOp) → may_change k op ≡ true → meaning_fault k given o r ≡ None → CanTake op (operand_by k given o s r)
takes_by given o s r placed Branch op e m = branch_takes op _ e (target_is_there given o s r (symbol_place given o r) m)
takes_by given o s r placed Jal op e m = jal_takes op _ e (target_is_there given o s r (symbol_place given o r) m)
takes_by given o s r placed Call op e m = auipc_takes op _ e tt
takes_by given o s r placed GotHigh op e m = auipc_takes op _ e (small_fits (slot_or_zero given (symbol_place given o r)) (slot_small given (symbol_place given o r) placed))
takes_by given o s r placed PcHigh op e m = auipc_takes op _ e (value_fits given o s r PcHigh m)
takes_by given o s r placed PcLow op e m = low_takes op _ e (low_by given o s r (high_of given o s r))
takes_by given o s r placed PcLowStore op e m = store_takes op _ e (low_by given o s r (high_of given o s r))
takes_by given o s r placed High op e m = lui_takes op _ e (upper_signed (relocation_value given o r) (value_fits given o s r High m))
takes_by given o s r placed Low op e m = low_takes op _ e (low_signed (relocation_value given o r))
takes_by given o s r placed LowStore op e m = store_takes op _ e (low_signed (relocation_value given o r))
takes_by given o s r placed Set32 op e m = absurd cc
takes_by given o s r placed Set64 op e m = absurd cc
takes_by given o s r placed (Add n) op e m = absurd cc
takes_by given o s r placed (Subtract n) op e m = absurd cc
takes_by given o s r placed Distance op e m = absurd cc
takes_by given o s r placed Other op e m = absurd cc

-- ---- at places

-- a relocation without a fault gives what the operation at its place can hold
taken : (given : Given) (o s f : ℕ) (r : Relocation) (op : RvOp) → layout_faults given ≡ [] → IsLone given o s f r → raw_at given (Code o s f) ≡ Some op → CanTake op (operand_of given o s r)
unfolding operand_of
taken given o s f r op placed only raw =
    let means = is_meant given o s r only.no_fault in
    let changed : changes (kind_of r.kind) (Some op) ≡ true = subst (λ x. changes (kind_of r.kind) x ≡ true) (ap (λ n. raw_at given (Code o s n)) only.here ∙ raw) means.changes_it in
    subst (λ b. CanTake op (if b then operand_by (kind_of r.kind) given o s r else Nothing)) (sym only.effect) (takes_by given o s r placed (kind_of r.kind) op changed means.meant)

-- the operation at a place can hold what the relocation there gives
pub operand_taken : (given : Given) (o s f : ℕ) (op : RvOp) → layout_faults given ≡ [] → IsFaultless given o s f → raw_at given (Code o s f) ≡ Some op → CanTake op (operand_at given o s f)
operand_taken given o s f op placed free raw = by_relocations (relocations_at given o s f) refl
  where
    by_relocations : (rs : List Relocation) → relocations_at given o s f ≡ rs → CanTake op (first_operand given o s rs)
    by_relocations [] e = nothing_taken op
    by_relocations (r ∷ rs) e = taken given o s f r op placed (lone given o s f r free (ap (λ l. slice_get l 0) e)) raw
