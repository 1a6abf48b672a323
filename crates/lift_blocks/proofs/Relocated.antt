-- Relocations at places of code without faults: at most one, which is allowed, and whose value has a range.
use Rattle.std.proofs.Common.{◌≡◌, ℕ, zero, suc, Bool, true, false, cond, List, [], ◌∷◌, length, Option, Some, None, ℤ, pos, negsuc, ◌+ℤ◌, ◌-ℤ◌, ◌*ℤ◌, refl, sym, ap, ◌∙◌, subst, arith}
use Rattle.std.specs.Prelude.{slice_get, if◌then◌else◌, nat_eq, nat_lt}
use Rattle.std.specs.Int.{int_div_euclid}
use Rattle.std.specs.List.{filter, filter_map, cons_option}
use Rattle.std.proofs.lemmas.Bool.{eqb-true}
use Rattle.std.proofs.lemmas.Int.{ints}
use Rattle.faults.specs.First.{◌or_else◌, where_true}
use Rattle.faults.proofs.Absent.{none-left, none-right}
use Rattle.elf_objects.specs.declared.parts.Relocation.{Relocation}
use Rattle.rv_decode.specs.Operations.{IsSigned}
use Rattle.symbols.specs.Faults.{has_effect}
use Rattle.symbols.specs.Wanted.{Given}
use Rattle.layout.specs.Slots.{loaded_relocations}
use Rattle.relocs.specs.declared.fault.TheConstants.{WRONG_RELOCATION}
use Rattle.relocs.specs.Kinds.{kind_of}
use Rattle.relocs.specs.Places.{Code}
use Rattle.relocs.specs.Words.{raw_at}
use Rattle.relocs.specs.Values.{high, low, is_high_low}
use Rattle.relocs.specs.Pairs.{relocation_is_at, relocations_at, is_second}
use Rattle.relocs.specs.Operands.{is_allowed, changes, meets, meaning_fault, plain_fault, label_fault, relocation_fault, crowd_fault, codes_by, listed, least}
use Rattle.relocs.specs.CodeFaults.{operation_codes, use_codes, refusal_code}
use Rattle.lift_blocks.specs.PlacedOps.{IsFaultless}
use Rattle.lift_blocks.proofs.Faultless.{and_left, and_right}
use Rattle.lift_blocks.proofs.Order.{filter_member}

-- ---- at most one relocation

listed_none : (o : Option ℕ) → listed o ≡ [] → o ≡ None
listed_none None e = refl
listed_none (Some code) e = absurd cc

where_false : (b : Bool) (code : ℕ) → where_true b code ≡ None → b ≡ false
where_false true code e = absurd cc
where_false false code e = refl

first_none : (o : Option ℕ) (rest : List ℕ) → cons_option o rest ≡ [] → o ≡ None
first_none None rest e = refl
first_none (Some code) rest e = absurd cc

filter_passes : {A : Type 0} (test : A → Bool) (xs : List A) (i : ℕ) (x : A) → slice_get (filter test xs) i ≡ Some x → test x ≡ true
filter_passes test [] i x e = absurd cc
filter_passes {A} test (y ∷ xs) i x e = by_test (λ k. filter_passes test xs k x) (test y) refl i e
  where
    by_test : ((k : ℕ) → slice_get (filter test xs) k ≡ Some x → test x ≡ true) → (b : Bool) → test y ≡ b → (i : ℕ) → slice_get (cond b (y ∷ filter test xs) (filter test xs)) i ≡ Some x → test x ≡ true
    by_test more true t zero e = (let same : y ≡ x = cc in ap test (sym same) ∙ t)
    by_test more true t (suc i) e = more i e
    by_test more false t i e = more i e

-- the only relocation at an offset, which has no fault
pub record IsLone (given : Given) (o s f : ℕ) (r : Relocation) : Type 0 where
  pub lone : relocations_at given o s f ≡ r ∷ []
  pub at : ℕ
  pub at_its_place : slice_get (loaded_relocations given o s) at ≡ Some r
  pub effect : has_effect r.kind ≡ true
  pub here : r.offset ≡ f
  pub no_fault : relocation_fault given o s r ≡ None

one_alone : {A : Type 0} (xs : List A) (x : A) → slice_get xs 0 ≡ Some x → nat_lt 1 (length xs) ≡ false → xs ≡ x ∷ []
one_alone [] x e few = absurd cc
one_alone (y ∷ []) x e few = (let same : y ≡ x = cc in ap (λ z. z ∷ []) same)
one_alone (y ∷ z ∷ xs) x e few = absurd (grind (arith, few))

pub lone : (given : Given) (o s f : ℕ) (r : Relocation) → IsFaultless given o s f → slice_get (relocations_at given o s f) 0 ≡ Some r → IsLone given o s f r
lone given o s f r free first =
    let rs : List Relocation = relocations_at given o s f in
    let codes = none-right (if is_second given (Code o s f) then [] else operation_codes given o s f (raw_at given (Code o s f)) rs) (codes_by (relocation_fault given o s) rs) free.uses in
    let few = where_false (nat_lt 1 (length rs)) WRONG_RELOCATION (listed_none (crowd_fault rs) (none-left (listed (crowd_fault rs)) (filter_map (relocation_fault given o s) rs) codes)) in
    let only = one_alone rs r first few in
    let faults = subst (λ l. filter_map (relocation_fault given o s) l ≡ []) only (none-right (listed (crowd_fault rs)) (filter_map (relocation_fault given o s) rs) codes) in
    let there = filter_member (relocation_is_at f) (loaded_relocations given o s) 0 r first in
    let passes = filter_passes (relocation_is_at f) (loaded_relocations given o s) 0 r first in
    record {
      lone = only;
      at = there.0;
      at_its_place = there.1;
      effect = and_left (has_effect r.kind) (nat_eq r.offset f) passes;
      here = eqb-true r.offset f (and_right (has_effect r.kind) (nat_eq r.offset f) passes);
      no_fault = first_none (relocation_fault given o s r) [] faults;
    }

-- ---- what a relocation without a fault gives

or_else_left : (a b : Option ℕ) → (a or_else b) ≡ None → a ≡ None
or_else_left None b e = refl
or_else_left (Some a) b e = absurd cc

pub or_else_right : (a b : Option ℕ) → (a or_else b) ≡ None → b ≡ None
or_else_right None b e = e
or_else_right (Some a) b e = absurd cc

if_allowed : (b : Bool) (o : Option ℕ) → (if b then o else Some WRONG_RELOCATION) ≡ None → (b ≡ true) × (o ≡ None)
if_allowed true o e = (refl, e)
if_allowed false o e = absurd cc

-- its operation and its kind allow it, and its value or target has no fault
pub record IsMeant (given : Given) (o s : ℕ) (r : Relocation) : Type 0 where
  pub changes_it : changes (kind_of r.kind) (raw_at given (Code o s r.offset)) ≡ true
  pub meets_it : meets (kind_of r.kind) given o s r ≡ true
  pub meant : meaning_fault (kind_of r.kind) given o r ≡ None

pub is_meant : (given : Given) (o s : ℕ) (r : Relocation) → relocation_fault given o s r ≡ None → IsMeant given o s r
unfolding relocation_fault
is_meant given o s r e =
    let plain = or_else_left (plain_fault given o s r) (label_fault (kind_of r.kind) given o s r) e in
    let both = if_allowed (is_allowed given o s r) (meaning_fault (kind_of r.kind) given o r) plain in
    record {
      changes_it = and_left (changes (kind_of r.kind) (raw_at given (Code o s r.offset))) (meets (kind_of r.kind) given o s r) both.0;
      meets_it = and_right (changes (kind_of r.kind) (raw_at given (Code o s r.offset))) (meets (kind_of r.kind) given o s r) both.0;
      meant = both.1;
    }

-- ---- values

low_signed_by : (v a w : ℤ) → v +ℤ pos 0x800 ≡ a → v -ℤ (pos 0x1000 *ℤ int_div_euclid a (pos 0x1000)) ≡ w → IsSigned 12 w
low_signed_by v (pos a) (pos w) e h = omega (arith, ints, e, h)
low_signed_by v (pos a) (negsuc w) e h = omega (arith, ints, e, h)
low_signed_by v (negsuc a) (pos w) e h = omega (arith, ints, e, h)
low_signed_by v (negsuc a) (negsuc w) e h = omega (arith, ints, e, h)

-- a lower part has 12 bits
pub low_signed : (v : ℤ) → IsSigned 12 (low v)
low_signed v = low_signed_by v (v +ℤ pos 0x800) (low v) refl refl

upper_signed_by : (v a w : ℤ) → v +ℤ pos 0x800 ≡ a → pos 0x1000 *ℤ int_div_euclid a (pos 0x1000) ≡ w → is_high_low v ≡ true → IsSigned 32 w
upper_signed_by v (pos a) (pos w) e h fits = grind (arith, ints, e, h, fits)
upper_signed_by v (pos a) (negsuc w) e h fits = grind (arith, ints, e, h, fits)
upper_signed_by v (negsuc a) (pos w) e h fits = grind (arith, ints, e, h, fits)
upper_signed_by v (negsuc a) (negsuc w) e h fits = grind (arith, ints, e, h, fits)

-- an upper part in place has 32 bits
pub upper_signed : (v : ℤ) → is_high_low v ≡ true → IsSigned 32 (pos 0x1000 *ℤ high v)
upper_signed v fits = upper_signed_by v (v +ℤ pos 0x800) (pos 0x1000 *ℤ high v) refl refl fits

-- no relocation at such a place is refused
pub unrefused : (given : Given) (o s f : ℕ) (r : Relocation) → IsFaultless given o s f → slice_get (relocations_at given o s f) 0 ≡ Some r → refusal_code given o s r.offset ≡ None
unfolding refusal_code
unrefused given o s f r free first =
    let here = (lone given o s f r free first).here in
    subst (λ n. least (use_codes given o s n) ≡ None) (sym here) (ap least free.uses)
