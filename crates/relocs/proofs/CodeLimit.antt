-- The codes of faults of code are below 32, so that the first fault of code is found offset by offset, by the least code at each.
use Rattle.std.proofs.Common.{◌≡◌, ℕ, zero, suc, ◌+◌, ◌<◌, Bool, true, false, eqb, List, [], ◌∷◌, ◌++◌, length, Option, Some, None, refl, arith}
use Rattle.std.specs.Prelude.{nat_eq, ◌||◌, ◌&&◌, not, if◌then◌else◌, Result, Ok, Err, ℤ, pos, negsuc}
use Rattle.std.specs.List.{list_any, filter_map, cons_option}
use Rattle.std.proofs.lemmas.Bool.{eqb-true}
use Rattle.faults.specs.First.{◌or_else◌, where_true, first_below}
use Rattle.faults.specs.Present.{broken, each_below, first_in}
use Rattle.faults.proofs.Heads.{first_in-each}
use Rattle.elf_objects.specs.declared.parts.Relocation.{Relocation}
use Rattle.rv_decode.specs.declared.ops.RvOp.{RvOp}
use Rattle.rv_decode.specs.declared.ops.WordFault.{WordFault}
use Rattle.rv_decode.specs.declared.ops.WordFault.TheVariants.{BadWord, BadRegister, Ecall, LoadToZero}
use Rattle.symbols.specs.declared.place.Place.{Place}
use Rattle.symbols.specs.declared.place.Place.TheVariants as names
use Rattle.symbols.specs.Parts.{object_at}
use Rattle.symbols.specs.Resolution.{entry_place}
use Rattle.symbols.specs.Wanted.{Given}
use Rattle.relocs.specs.declared.kinds.Kind.{Kind}
use Rattle.relocs.specs.declared.fault.TheConstants.{AUIPC_UNRELOCATED, WRONG_RELOCATION, VALUE_OUT_OF_RANGE, NOT_A_PLACE, BAD_TARGET, INTO_PAIR}
use Rattle.relocs.specs.Kinds.{kind_of, gives_target, is_pc_low, is_auipc}
use Rattle.relocs.specs.Places.{CodePlace, Code, code_at}
use Rattle.relocs.specs.Words.{word_of_place, raw_at}
use Rattle.relocs.specs.Pairs.{relocations_at, is_second, is_place, is_none_of}
use Rattle.relocs.specs.AddressMap.{place_at}
use Rattle.relocs.specs.Values.{place_fault, fault_unless_zero, address_fault, target_fault}
use Rattle.relocs.specs.Operands.{symbol_place, code_value, fits, value_fault, meaning_fault, is_allowed, plain_fault, crowd_fault, listed, codes_by, lesser, least, auipc_fault, fault_by_high, high_of, label_fault, relocation_fault}
use Rattle.relocs.specs.CodeFaults.{word_fault, is_for_auipc, own_target, fault_of_target, operation_codes, use_codes, codes_at, is_entry_at, entry_codes, faults_at, section_faults, code_faults, fault_at_offset, fault_in_section, fault_in_object}
use Rattle.relocs.proofs.LeastFault.{first_least}

abbrev pub IsCode : Option ℕ → Type 0
IsCode None = Unit {0}
IsCode (Some c) = c < 32

abbrev pub AreCodes : List ℕ → Type 0
AreCodes [] = Unit {0}
AreCodes (c ∷ cs) = (c < 32) × AreCodes cs

either_code : (a b : Option ℕ) → IsCode a → IsCode b → IsCode (a or_else b)
either_code None b f g = g
either_code (Some c) b f g = f

if_code : (t : Bool) (a b : Option ℕ) → IsCode a → IsCode b → IsCode (if t then a else b)
if_code true a b f g = f
if_code false a b f g = g

where_code : (t : Bool) (c : ℕ) → c < 32 → IsCode (where_true t c)
where_code true c f = f
where_code false c f = tt

lesser_code : (a b : Option ℕ) → IsCode a → IsCode b → IsCode (lesser a b)
lesser_code None b f g = g
lesser_code (Some a) None f g = f
lesser_code (Some a) (Some b) f g = grind (arith, f, g)

listed_codes : (a : Option ℕ) → IsCode a → AreCodes (listed a)
listed_codes None f = tt
listed_codes (Some c) f = (f, tt)

append_codes : (a b : List ℕ) → AreCodes a → AreCodes b → AreCodes (a ++ b)
append_codes [] b f g = g
append_codes (c ∷ a) b f g = (f.0, append_codes a b f.1 g)

cons_codes : (a : Option ℕ) (cs : List ℕ) → IsCode a → AreCodes cs → AreCodes (cons_option a cs)
cons_codes None cs f g = g
cons_codes (Some c) cs f g = (f, g)

mapped_codes : (fault : Relocation → Option ℕ) → ((r : Relocation) → IsCode (fault r)) → (rs : List Relocation) → AreCodes (filter_map fault rs)
mapped_codes fault all [] = tt
mapped_codes fault all (r ∷ rs) = cons_codes (fault r) (filter_map fault rs) (all r) (mapped_codes fault all rs)

by_codes : (fault : Relocation → Option ℕ) → ((r : Relocation) → IsCode (fault r)) → (rs : List Relocation) → AreCodes (codes_by fault rs)
by_codes fault all rs = append_codes (listed (crowd_fault rs)) (filter_map fault rs) (listed_codes (crowd_fault rs) (where_code _ WRONG_RELOCATION (omega arith))) (mapped_codes fault all rs)

pub least_code : (cs : List ℕ) → AreCodes cs → IsCode (least cs)
least_code [] f = tt
least_code (c ∷ cs) f = lesser_code (Some c) (least cs) f.0 (least_code cs f.1)

-- ---- each fault

module _ (given : Given) where
  place_code : (code : ℕ) (p : CodePlace) → code < 32 → IsCode (place_fault given code p)
  place_code code p f = if_code (is_place given p) None _ tt (by_second (is_second given p))
    where
      by_second : (b : Bool) → (if b then INTO_PAIR else code) < 32
      by_second true = omega arith
      by_second false = f

  zero_code : (code : ℕ) (addend : ℤ) → code < 32 → IsCode (fault_unless_zero code addend)
  zero_code code (pos zero) f = tt
  zero_code code (pos (suc n)) f = f
  zero_code code (negsuc n) f = f

  address_code : (place : Place) (addend : ℤ) → IsCode (address_fault given place addend)
  address_code (names.Code o s offset) addend = place_code NOT_A_PLACE (place_at (names.Code o s offset) addend) (omega arith)
  address_code (names.Bytes o s offset) addend = tt
  address_code names.Unloaded addend = omega arith
  address_code (names.Import i) addend = zero_code NOT_A_PLACE addend (omega arith)
  address_code (names.Number n) addend = tt
  address_code names.Absent addend = tt

  target_code : (place : Place) (addend : ℤ) → IsCode (target_fault given place addend)
  target_code (names.Code o s offset) addend = place_code BAD_TARGET (place_at (names.Code o s offset) addend) (omega arith)
  target_code (names.Bytes o s offset) addend = omega arith
  target_code names.Unloaded addend = omega arith
  target_code (names.Import i) addend = zero_code BAD_TARGET addend (omega arith)
  target_code (names.Number n) addend = omega arith
  target_code names.Absent addend = tt

  value_code : (kind : Kind) (o : ℕ) (r : Relocation) → IsCode (value_fault kind given o r)
  value_code kind o r = either_code (address_fault given (symbol_place given o r) r.addend) _ (address_code (symbol_place given o r) r.addend) (where_code (not (fits kind (code_value kind given o r))) VALUE_OUT_OF_RANGE (omega arith))

  meaning_code : (kind : Kind) (o : ℕ) (r : Relocation) → IsCode (meaning_fault kind given o r)
  meaning_code kind o r =
      if_code (gives_target kind) (target_fault given (symbol_place given o r) r.addend) (if is_pc_low kind then None else value_fault kind given o r) (target_code (symbol_place given o r) r.addend)
      (if_code (is_pc_low kind) None (value_fault kind given o r) tt (value_code kind o r))

  plain_code : (o s : ℕ) (r : Relocation) → IsCode (plain_fault given o s r)
  plain_code o s r = if_code (is_allowed given o s r) (meaning_fault (kind_of r.kind) given o r) (Some WRONG_RELOCATION) (meaning_code (kind_of r.kind) o r) (omega arith)

  auipc_code : (o s offset : ℕ) → IsCode (auipc_fault given o s offset)
  unfolding auipc_fault
  auipc_code o s offset = least_code (codes_by (plain_fault given o s) (relocations_at given o s offset)) (by_codes (plain_fault given o s) (plain_code o s) (relocations_at given o s offset))

  high_code : (o s : ℕ) (high : Option Relocation) → IsCode (fault_by_high given o s high)
  high_code o s None = omega arith
  high_code o s (Some r) = auipc_code o s r.offset

  relocation_code : (o s : ℕ) (r : Relocation) → IsCode (relocation_fault given o s r)
  unfolding relocation_fault
  relocation_code o s r =
      either_code (plain_fault given o s r) (label_fault (kind_of r.kind) given o s r) (plain_code o s r)
      (if_code (is_pc_low (kind_of r.kind)) (fault_by_high given o s (high_of given o s r)) None (high_code o s (high_of given o s r)) tt)

  own_code : (p : Option CodePlace) → IsCode (fault_of_target given p)
  own_code None = tt
  own_code (Some p) = place_code BAD_TARGET p (omega arith)

  operation_code : (o s offset : ℕ) (op : Option RvOp) (rs : List Relocation) → AreCodes (operation_codes given o s offset op rs)
  operation_code o s offset None rs = tt
  operation_code o s offset (Some op) rs =
      append_codes (listed (where_true (is_auipc op && not (list_any is_for_auipc rs)) AUIPC_UNRELOCATED)) _
      (listed_codes _ (where_code (is_auipc op && not (list_any is_for_auipc rs)) AUIPC_UNRELOCATED (omega arith)))
      (listed_codes _ (if_code (is_none_of rs) (fault_of_target given (own_target o s offset op)) None (own_code (own_target o s offset op)) tt))

  pub use_code : (o s offset : ℕ) → AreCodes (use_codes given o s offset)
  use_code o s offset =
      append_codes (if is_second given (Code o s offset) then [] else operation_codes given o s offset (raw_at given (Code o s offset)) (relocations_at given o s offset)) _
      (by_second (is_second given (Code o s offset))) (by_codes (relocation_fault given o s) (relocation_code o s) (relocations_at given o s offset))
    where
      by_second : (b : Bool) → AreCodes (if b then [] else operation_codes given o s offset (raw_at given (Code o s offset)) (relocations_at given o s offset))
      by_second true = tt
      by_second false = operation_code o s offset (raw_at given (Code o s offset)) (relocations_at given o s offset)

  word_code : (w : Option (Result RvOp WordFault)) → IsCode (word_fault w)
  word_code None = tt
  word_code (Some (Ok op)) = tt
  word_code (Some (Err BadWord)) = omega arith
  word_code (Some (Err BadRegister)) = omega arith
  word_code (Some (Err Ecall)) = omega arith
  word_code (Some (Err LoadToZero)) = omega arith

  each_code : (n : ℕ) (test : ℕ → Bool) → AreCodes (each_below n (λ e. broken (test e) INTO_PAIR))
  unfolding each_below
  each_code zero test = tt
  each_code (suc n) test = append_codes (each_below n (λ e. broken (test e) INTO_PAIR)) (broken (test n) INTO_PAIR) (each_code n test) (by_test (test n))
    where
      by_test : (b : Bool) → AreCodes (broken b INTO_PAIR)
      by_test true = (omega arith, tt)
      by_test false = tt

  -- all codes at an offset
  abbrev pub offset_codes : ℕ → ℕ → ℕ → List ℕ
  offset_codes o s offset = codes_at given o s offset ++ entry_codes given o s offset

  offset_code : (o s offset : ℕ) → AreCodes (offset_codes o s offset)
  offset_code o s offset =
      append_codes (codes_at given o s offset) (entry_codes given o s offset)
      (append_codes (listed (word_fault (word_of_place given (Code o s offset)))) (use_codes given o s offset) (listed_codes _ (word_code (word_of_place given (Code o s offset)))) (use_code o s offset))
      (each_code (length given.wanted.entries) (λ e. is_entry_at o s offset (entry_place given e) && is_second given (Code o s offset)))

  within : (cs : List ℕ) → AreCodes cs → (c : ℕ) → list_any (nat_eq c) cs ≡ true → c < 32
  within [] f c e = absurd cc
  within (x ∷ cs) f c e = by_test (within cs f.1 c) (eqb c x) refl e
    where
      by_test : (list_any (nat_eq c) cs ≡ true → c < 32) → (b : Bool) → eqb c x ≡ b → (b || list_any (nat_eq c) cs) ≡ true → c < 32
      by_test more true g e = (let same = eqb-true c x g in let h = f.0 in omega (arith, same, h))
      by_test more false g e = more e

  -- ---- the first fault

  least_at : (o s offset : ℕ) → first_in (faults_at given o s offset) ≡ fault_at_offset given o s offset
  least_at o s offset = first_least (offset_codes o s offset) o s offset (within (offset_codes o s offset) (offset_code o s offset))

  least_in : (o s : ℕ) (code : Option (List ℕ)) → first_in (section_faults given o s code) ≡ fault_in_section given o s code
  least_in o s None = refl
  least_in o s (Some bytes) = first_in-each (length bytes + 1) (faults_at given o s) (fault_at_offset given o s) (least_at o s)

  pub first_code_fault_is : first_in (code_faults given) ≡ first_below (length given.objects) (fault_in_object given)
  unfolding code_faults
  first_code_fault_is =
      first_in-each (length given.objects) (λ o. each_below (length (object_at given.objects o).sections) (λ s. section_faults given o s (code_at given o s))) (fault_in_object given)
      (λ o. first_in-each (length (object_at given.objects o).sections) (λ s. section_faults given o s (code_at given o s)) (λ s. fault_in_section given o s (code_at given o s)) (λ s. least_in o s (code_at given o s)))
