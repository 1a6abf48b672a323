-- The codes of the faults of relocations of code are 25 at least, the code of several at one offset.
use Rattle.std.proofs.Common.{◌≡◌, ℕ, zero, suc, ◌≤◌, min, Bool, true, false, List, [], ◌∷◌, length, Option, Some, None, refl, sym, ap, ◌∙◌, arith}
use Rattle.std.specs.Prelude.{not, nat_lt, if◌then◌else◌, ℤ, pos, negsuc}
use Rattle.std.specs.List.{filter_map}
use Rattle.faults.specs.First.{◌or_else◌, where_true}
use Rattle.elf_objects.specs.declared.parts.Relocation.{Relocation}
use Rattle.symbols.specs.declared.place.Place.{Place}
use Rattle.symbols.specs.declared.place.Place.TheVariants as names
use Rattle.symbols.specs.Wanted.{Given}
use Rattle.relocs.specs.declared.kinds.Kind.{Kind}
use Rattle.relocs.specs.declared.fault.TheConstants.{WRONG_RELOCATION, VALUE_OUT_OF_RANGE, NOT_A_PLACE, BAD_TARGET, INTO_PAIR}
use Rattle.relocs.specs.Kinds.{kind_of, gives_target, is_pc_low}
use Rattle.relocs.specs.Places.{CodePlace}
use Rattle.relocs.specs.Pairs.{relocations_at, is_second, is_place}
use Rattle.relocs.specs.AddressMap.{place_at}
use Rattle.relocs.specs.Values.{place_fault, fault_unless_zero, address_fault, target_fault}
use Rattle.relocs.specs.Operands.{symbol_place, code_value, fits, value_fault, meaning_fault, is_allowed, plain_fault, crowd_fault, codes_by, lesser, least, auipc_fault, fault_by_high, high_of, label_fault, relocation_fault}
use Rattle.relocs.proofs.Least.{least_with, least_some}

abbrev pub IsLate : Option ℕ → Type 0
IsLate None = Unit {0}
IsLate (Some c) = 25 ≤ c

either_late : (a b : Option ℕ) → IsLate a → IsLate b → IsLate (a or_else b)
either_late None b f g = g
either_late (Some c) b f g = f

if_late : (t : Bool) (a b : Option ℕ) → IsLate a → IsLate b → IsLate (if t then a else b)
if_late true a b f g = f
if_late false a b f g = g

where_late : (t : Bool) (c : ℕ) → 25 ≤ c → IsLate (where_true t c)
where_late true c f = f
where_late false c f = tt

lesser_late : (a b : Option ℕ) → IsLate a → IsLate b → IsLate (lesser a b)
lesser_late None b f g = g
lesser_late (Some a) None f g = f
lesser_late (Some a) (Some b) f g = grind (arith, f, g)

least_late : (fault : Relocation → Option ℕ) → ((r : Relocation) → IsLate (fault r)) → (rs : List Relocation) → IsLate (least (filter_map fault rs))
least_late fault late [] = tt
least_late fault late (r ∷ rs) = by (least_some (fault r) (filter_map fault rs)) (lesser_late (fault r) (least (filter_map fault rs)) (late r) (least_late fault late rs))
  where
    by : {a b : Option ℕ} → a ≡ b → IsLate b → IsLate a
    by e f = rw e f

least_of_late : (o : Option ℕ) → IsLate o → Some WRONG_RELOCATION ≡ lesser (Some WRONG_RELOCATION) o
least_of_late None f = refl
least_of_late (Some c) f = (let e : 25 ≡ min 25 c = omega (arith, f) in ap Some e)

crowded : (fault : Relocation → Option ℕ) → ((r : Relocation) → IsLate (fault r)) → (rs : List Relocation) → nat_lt 1 (length rs) ≡ true → Some WRONG_RELOCATION ≡ least (codes_by fault rs)
crowded fault late rs e =
    least_of_late (least (filter_map fault rs)) (least_late fault late rs) ∙ ap (λ b. lesser (where_true b WRONG_RELOCATION) (least (filter_map fault rs))) (sym e)
    ∙ sym (least_with (crowd_fault rs) (filter_map fault rs))

-- without several, the least code is that of the one that is there
pub uncrowded : (fault : Relocation → Option ℕ) (rs : List Relocation) → nat_lt 1 (length rs) ≡ false → least (filter_map fault rs) ≡ least (codes_by fault rs)
uncrowded fault rs e = ap (λ b. lesser (where_true b WRONG_RELOCATION) (least (filter_map fault rs))) (sym e) ∙ sym (least_with (crowd_fault rs) (filter_map fault rs))

-- ---- each fault

module _ (given : Given) where
  place_late : (code : ℕ) (p : CodePlace) → 25 ≤ code → IsLate (place_fault given code p)
  place_late code p f = if_late (is_place given p) None _ tt (by_second (is_second given p))
    where
      by_second : (b : Bool) → 25 ≤ (if b then INTO_PAIR else code)
      by_second true = omega arith
      by_second false = f

  zero_late : (code : ℕ) (addend : ℤ) → 25 ≤ code → IsLate (fault_unless_zero code addend)
  zero_late code (pos zero) f = tt
  zero_late code (pos (suc n)) f = f
  zero_late code (negsuc n) f = f

  address_late : (place : Place) (addend : ℤ) → IsLate (address_fault given place addend)
  address_late (names.Code o s offset) addend = place_late NOT_A_PLACE (place_at (names.Code o s offset) addend) (omega arith)
  address_late (names.Bytes o s offset) addend = tt
  address_late names.Unloaded addend = omega arith
  address_late (names.Import i) addend = zero_late NOT_A_PLACE addend (omega arith)
  address_late (names.Number n) addend = tt
  address_late names.Absent addend = tt

  target_late : (place : Place) (addend : ℤ) → IsLate (target_fault given place addend)
  target_late (names.Code o s offset) addend = place_late BAD_TARGET (place_at (names.Code o s offset) addend) (omega arith)
  target_late (names.Bytes o s offset) addend = omega arith
  target_late names.Unloaded addend = omega arith
  target_late (names.Import i) addend = zero_late BAD_TARGET addend (omega arith)
  target_late (names.Number n) addend = omega arith
  target_late names.Absent addend = tt

  value_late : (kind : Kind) (o : ℕ) (r : Relocation) → IsLate (value_fault kind given o r)
  value_late kind o r = either_late (address_fault given (symbol_place given o r) r.addend) _ (address_late (symbol_place given o r) r.addend) (where_late (not (fits kind (code_value kind given o r))) VALUE_OUT_OF_RANGE (omega arith))

  meaning_late : (kind : Kind) (o : ℕ) (r : Relocation) → IsLate (meaning_fault kind given o r)
  meaning_late kind o r =
      if_late (gives_target kind) (target_fault given (symbol_place given o r) r.addend) (if is_pc_low kind then None else value_fault kind given o r) (target_late (symbol_place given o r) r.addend)
      (if_late (is_pc_low kind) None (value_fault kind given o r) tt (value_late kind o r))

  plain_late : (o s : ℕ) (r : Relocation) → IsLate (plain_fault given o s r)
  plain_late o s r = if_late (is_allowed given o s r) (meaning_fault (kind_of r.kind) given o r) (Some WRONG_RELOCATION) (meaning_late (kind_of r.kind) o r) (omega arith)

  auipc_late : (o s offset : ℕ) → IsLate (auipc_fault given o s offset)
  unfolding auipc_fault
  auipc_late o s offset =
      by (least_with (crowd_fault rs) (filter_map (plain_fault given o s) rs))
      (lesser_late (crowd_fault rs) _ (where_late (nat_lt 1 (length rs)) WRONG_RELOCATION (omega arith)) (least_late (plain_fault given o s) (plain_late o s) rs))
    where
      rs : List Relocation
      rs = relocations_at given o s offset

      by : {a b : Option ℕ} → a ≡ b → IsLate b → IsLate a
      by e f = rw e f

  high_late : (o s : ℕ) (high : Option Relocation) → IsLate (fault_by_high given o s high)
  high_late o s None = omega arith
  high_late o s (Some r) = auipc_late o s r.offset

  relocation_late : (o s : ℕ) (r : Relocation) → IsLate (relocation_fault given o s r)
  unfolding relocation_fault
  relocation_late o s r =
      either_late (plain_fault given o s r) (label_fault (kind_of r.kind) given o s r) (plain_late o s r)
      (if_late (is_pc_low (kind_of r.kind)) (fault_by_high given o s (high_of given o s r)) None (high_late o s (high_of given o s r)) tt)

  -- several relocations at one offset are the least fault there
  pub crowded_plain : (o s : ℕ) (rs : List Relocation) → nat_lt 1 (length rs) ≡ true → Some WRONG_RELOCATION ≡ least (codes_by (plain_fault given o s) rs)
  crowded_plain o s rs e = crowded (plain_fault given o s) (plain_late o s) rs e

  pub crowded_relocations : (o s : ℕ) (rs : List Relocation) → nat_lt 1 (length rs) ≡ true → Some WRONG_RELOCATION ≡ least (codes_by (relocation_fault given o s) rs)
  crowded_relocations o s rs e = crowded (relocation_fault given o s) (relocation_late o s) rs e

pub ruleset crowds = (crowded_plain, crowded_relocations, uncrowded)
