-- The values of relocations without faults fit the operations that they are for.
use Rattle.std.proofs.Common.{◌≡◌, ℕ, zero, suc, ◌+◌, ◌-◌, ◌*◌, ◌<◌, ◌≤◌, ◌^◌, true, false, Option, Some, None, ℤ, pos, negsuc, ◌+ℤ◌, ◌-ℤ◌, ◌*ℤ◌, refl, arith}
use Rattle.std.specs.Prelude.{unwrap_or, nat_lt, []}
use Rattle.std.specs.Int.{int_div_euclid}
use Rattle.std.specs.List.{position}
use Rattle.std.specs.Option.{option_map}
use Rattle.std.proofs.lemmas.Int.{ints}
use Rattle.std.proofs.lemmas.List.Quantifiers.{position-Some}
use Rattle.faults.proofs.Absent.{none-left, none-broken}
use Rattle.elf_objects.specs.declared.parts.Relocation.{Relocation}
use Rattle.symbols.specs.declared.place.Place.{Place}
use Rattle.symbols.specs.declared.place.Place.TheVariants as names
use Rattle.symbols.specs.Wanted.{Given}
use Rattle.layout.specs.Addresses.{aligned, end_of_slots, end_of_objects, slots_start, read_only_len}
use Rattle.layout.specs.Faults.{whole, layout_faults}
use Rattle.layout.specs.Sections.{is_read_only}
use Rattle.layout.specs.Slots.{is_same, slot_places, slot_count}
use Rattle.layout.specs.declared.fault.TheConstants.{READ_ONLY_TOO_LARGE}
use Rattle.machine_state.specs.Start.{read_only_start}
use Rattle.rv_decode.specs.Operations.{IsSigned}
use Rattle.relocs.specs.declared.kinds.Kind.{Kind}
use Rattle.relocs.specs.declared.kinds.Kind.TheVariants.{Branch, Jal, Call, GotHigh, PcHigh, PcLow, PcLowStore, High, Low, LowStore, Set32, Set64, Add, Subtract, Distance, Other}
use Rattle.relocs.specs.Kinds.{kind_of}
use Rattle.relocs.specs.Values.{high, low, is_high_low}
use Rattle.relocs.specs.Operands.{symbol_place, relocation_value, slot_or_zero, code_value, high_of, low_by_high, operand_by}
use Rattle.relocs.specs.Sites.{FitsOperand, OperandFits}

-- a lower part has 12 bits
low_signed_by : (v w z : ℤ) → v +ℤ pos 0x800 ≡ w → z ≡ v -ℤ (pos 0x1000 *ℤ int_div_euclid w (pos 0x1000)) → IsSigned 12 z
low_signed_by v (pos a) (pos n) e f = omega (arith, ints, e, f)
low_signed_by v (pos a) (negsuc n) e f = omega (arith, ints, e, f)
low_signed_by v (negsuc a) (pos n) e f = omega (arith, ints, e, f)
low_signed_by v (negsuc a) (negsuc n) e f = omega (arith, ints, e, f)

low_signed : (v : ℤ) → IsSigned 12 (low v)
low_signed v = low_signed_by v (v +ℤ pos 0x800) (low v) refl refl

-- an upper part has 32
high_signed_by : (v w z : ℤ) → v +ℤ pos 0x800 ≡ w → z ≡ pos 0x1000 *ℤ int_div_euclid w (pos 0x1000) → is_high_low v ≡ true → IsSigned 32 z
high_signed_by v (pos a) (pos n) e f fits = grind (arith, ints, e, f, fits)
high_signed_by v (pos a) (negsuc n) e f fits = grind (arith, ints, e, f, fits)
high_signed_by v (negsuc a) (pos n) e f fits = grind (arith, ints, e, f, fits)
high_signed_by v (negsuc a) (negsuc n) e f fits = grind (arith, ints, e, f, fits)

high_signed : (v : ℤ) → is_high_low v ≡ true → IsSigned 32 (pos 0x1000 *ℤ high v)
high_signed v fits = high_signed_by v (v +ℤ pos 0x800) (pos 0x1000 *ℤ high v) refl refl fits

-- a slot is in the read-only part, which has less than 2^24 bytes
slot_end : (at count i : ℕ) → i < count → end_of_slots at count - read_only_start ≤ 2 ^ 24 - 1 → aligned at 8 + 8 * i < 2 ^ 25
slot_end at zero i lt e = absurd (omega (arith, lt))
slot_end at (suc n) i lt e = omega (arith, lt, e)

at_most : (n : ℕ) → nat_lt (2 ^ 24 - 1) n ≡ false → n ≤ 2 ^ 24 - 1
at_most n e = grind (arith, e)

read_only_small : (given : Given) → layout_faults given ≡ [] → read_only_len given ≤ 2 ^ 24 - 1
read_only_small given none = at_most (read_only_len given) (none-broken (nat_lt (2 ^ 24 - 1) (read_only_len given)) (whole READ_ONLY_TOO_LARGE) (none-left _ _ none))

slot_small : (given : Given) (place : Place) → layout_faults given ≡ [] → slot_or_zero given place < 2 ^ 25
slot_small given place none = by_position (position (is_same place) (slot_places given)) refl
  where
    by_position : (o : Option ℕ) → position (is_same place) (slot_places given) ≡ o → unwrap_or (option_map (λ i. slots_start given + 8 * i) o) 0 < 2 ^ 25
    by_position None e = omega arith
    by_position (Some i) e =
        slot_end (end_of_objects is_read_only read_only_start given.objects) (slot_count given) i (position-Some (is_same place) (slot_places given) i names.Absent e).0 (read_only_small given none)

small_fits : (n : ℕ) → n < 2 ^ 25 → is_high_low (pos n) ≡ true
small_fits n lt = grind (arith, lt)

-- the operand of each kind fits
module _ (given : Given) (o s : ℕ) (r : Relocation) where
  of_high : (h : Option Relocation) → OperandFits PcLow (low_by_high given o h)
  of_high None = tt
  of_high (Some h) = low_signed (code_value (kind_of h.kind) given o h)

  of_high_store : (h : Option Relocation) → OperandFits PcLowStore (low_by_high given o h)
  of_high_store None = tt
  of_high_store (Some h) = low_signed (code_value (kind_of h.kind) given o h)

  pub operand_fits : (kind : Kind) → layout_faults given ≡ [] → FitsOperand kind given o r → OperandFits kind (operand_by kind given o s r)
  operand_fits Branch none fits = tt
  operand_fits Jal none fits = tt
  operand_fits Call none fits = tt
  operand_fits GotHigh none fits = high_signed (pos (slot_or_zero given (symbol_place given o r))) (small_fits (slot_or_zero given (symbol_place given o r)) (slot_small given (symbol_place given o r) none))
  operand_fits PcHigh none fits = high_signed (relocation_value given o r) fits
  operand_fits PcLow none fits = of_high (high_of given o s r)
  operand_fits PcLowStore none fits = of_high_store (high_of given o s r)
  operand_fits High none fits = high_signed (relocation_value given o r) fits
  operand_fits Low none fits = low_signed (relocation_value given o r)
  operand_fits LowStore none fits = low_signed (relocation_value given o r)
  operand_fits Set32 none fits = tt
  operand_fits Set64 none fits = tt
  operand_fits (Add n) none fits = tt
  operand_fits (Subtract n) none fits = tt
  operand_fits Distance none fits = tt
  operand_fits Other none fits = tt
