-- A relocation that isn't refused gives a value that fits.
use Rattle.std.proofs.Common.{◌≡◌, ℕ, zero, suc, Bool, true, false, cond, List, [], ◌∷◌, Option, Some, None, refl, sym, ap, ◌∙◌, subst}
use Rattle.std.specs.Prelude.{slice_get, not, if◌then◌else◌}
use Rattle.std.specs.List.{filter, filter_map}
use Rattle.faults.specs.First.{◌or_else◌, where_true}
use Rattle.elf_objects.specs.declared.parts.Relocation.{Relocation}
use Rattle.elf_objects.specs.declared.parts.SectionKind.TheVariants as kinds
use Rattle.elf_objects.specs.Objects.{relocations_of, is_loaded_kind}
use Rattle.symbols.specs.Faults.{has_effect}
use Rattle.symbols.specs.Parts.{object_at, kind_at}
use Rattle.symbols.specs.Wanted.{Given}
use Rattle.relocs.specs.declared.kinds.Kind.{Kind}
use Rattle.relocs.specs.declared.kinds.Kind.TheVariants.{Branch, Jal, Call, GotHigh, PcHigh, PcLow, PcLowStore, High, Low, LowStore, Set32, Set64, Add, Subtract, Distance, Other}
use Rattle.relocs.specs.declared.fault.TheConstants.{VALUE_OUT_OF_RANGE, WRONG_RELOCATION}
use Rattle.relocs.specs.Kinds.{kind_of}
use Rattle.relocs.specs.Places.{Code}
use Rattle.relocs.specs.Words.{raw_at}
use Rattle.relocs.specs.Values.{is_high_low, address_fault}
use Rattle.relocs.specs.Pairs.{relocation_is_at, relocations_at, is_second}
use Rattle.relocs.specs.Operands.{symbol_place, relocation_value, is_allowed, meaning_fault, plain_fault, label_fault, relocation_fault, crowd_fault, codes_by, lesser, least, listed}
use Rattle.relocs.specs.CodeFaults.{operation_codes, refusal_code}
use Rattle.relocs.specs.Sites.{FitsOperand}
use Rattle.relocs.proofs.Least.{least-append, least_some}
use Rattle.relocs.proofs.Named.{eqb_self}

lesser_right : (a b : Option ℕ) → lesser a b ≡ None → b ≡ None
lesser_right None b e = e
lesser_right (Some a) None e = refl
lesser_right (Some a) (Some b) e = absurd cc

lesser_left : (a b : Option ℕ) → lesser a b ≡ None → a ≡ None
lesser_left None b e = refl
lesser_left (Some a) None e = absurd cc
lesser_left (Some a) (Some b) e = absurd cc

-- where no least code is, none of the relocations has one
none_of : {A : Type 0} (fault : A → Option ℕ) (test : A → Bool) (xs : List A) (i : ℕ) (x : A) → slice_get xs i ≡ Some x → test x ≡ true → least (filter_map fault (filter test xs)) ≡ None → fault x ≡ None
none_of fault test [] i x e t none = absurd cc
none_of fault test (y ∷ xs) zero x e t none = (let same : y ≡ x = cc in here same)
  where
    here : y ≡ x → fault x ≡ None
    here same =
        let there : test y ≡ true = ap test same ∙ t in
        let one : least (filter_map fault (cond true (y ∷ filter test xs) (filter test xs))) ≡ None = subst (λ b. least (filter_map fault (cond b (y ∷ filter test xs) (filter test xs))) ≡ None) there none in
        ap fault (sym same) ∙ lesser_left (fault y) (least (filter_map fault (filter test xs))) (sym (least_some (fault y) (filter_map fault (filter test xs))) ∙ one)
none_of fault test (y ∷ xs) (suc i) x e t none = none_of fault test xs i x e t (rest (test y) none)
  where
    rest : (b : Bool) → least (filter_map fault (cond b (y ∷ filter test xs) (filter test xs))) ≡ None → least (filter_map fault (filter test xs)) ≡ None
    rest true n = lesser_right (fault y) (least (filter_map fault (filter test xs))) (sym (least_some (fault y) (filter_map fault (filter test xs))) ∙ n)
    rest false n = n

or_else_left : (a b : Option ℕ) → (a or_else b) ≡ None → a ≡ None
or_else_left None b e = refl
or_else_left (Some a) b e = absurd cc

or_else_right : (a b : Option ℕ) → (a or_else b) ≡ None → b ≡ None
or_else_right None b e = e
or_else_right (Some a) b e = absurd cc

holds : (b : Bool) (code : ℕ) → where_true (not b) code ≡ None → b ≡ true
holds true code e = refl
holds false code e = absurd cc

plain_none : (given : Given) (o s : ℕ) (r : Relocation) → relocation_fault given o s r ≡ None → plain_fault given o s r ≡ None
unfolding relocation_fault
plain_none given o s r e = or_else_left (plain_fault given o s r) (label_fault (kind_of r.kind) given o s r) e

meaning_none : (b : Bool) (o : Option ℕ) → (if b then o else Some WRONG_RELOCATION) ≡ None → o ≡ None
meaning_none true o e = e
meaning_none false o e = absurd cc

fits_by : (given : Given) (o : ℕ) (r : Relocation) (k : Kind) → meaning_fault k given o r ≡ None → FitsOperand k given o r
fits_by given o r Branch e = tt
fits_by given o r Jal e = tt
fits_by given o r Call e = tt
fits_by given o r GotHigh e = tt
fits_by given o r PcHigh e = holds (is_high_low (relocation_value given o r)) VALUE_OUT_OF_RANGE (or_else_right (address_fault given (symbol_place given o r) r.addend) _ e)
fits_by given o r PcLow e = tt
fits_by given o r PcLowStore e = tt
fits_by given o r High e = holds (is_high_low (relocation_value given o r)) VALUE_OUT_OF_RANGE (or_else_right (address_fault given (symbol_place given o r) r.addend) _ e)
fits_by given o r Low e = tt
fits_by given o r LowStore e = tt
fits_by given o r Set32 e = tt
fits_by given o r Set64 e = tt
fits_by given o r (Add n) e = tt
fits_by given o r (Subtract n) e = tt
fits_by given o r Distance e = tt
fits_by given o r Other e = tt

uses_none : (given : Given) (o s offset : ℕ) → refusal_code given o s offset ≡ None → least (filter_map (relocation_fault given o s) (relocations_at given o s offset)) ≡ None
unfolding refusal_code
uses_none given o s offset e =
    let rs : List Relocation = relocations_at given o s offset in
    let operation : List ℕ = if is_second given (Code o s offset) then [] else operation_codes given o s offset (raw_at given (Code o s offset)) rs in
    let codes : List ℕ = codes_by (relocation_fault given o s) rs in
    let later = lesser_right (least operation) (least codes) (sym (least-append operation codes) ∙ e) in
    lesser_right (least (listed (crowd_fault rs))) (least (filter_map (relocation_fault given o s) rs)) (sym (least-append (listed (crowd_fault rs)) (filter_map (relocation_fault given o s) rs)) ∙ later)

pub fits_unrefused :
    (given : Given) (o s at : ℕ) (r : Relocation) → kind_at given.objects o s ≡ kinds.Code → slice_get (relocations_of (object_at given.objects o) s) at ≡ Some r
    → refusal_code given o s r.offset ≡ None → has_effect r.kind ≡ true → FitsOperand (kind_of r.kind) given o r
fits_unrefused given o s at r code here none effect =
    let at_own : relocation_is_at r.offset r ≡ true = rw (effect, eqb_self r.offset) refl in
    let least_none : least (filter_map (relocation_fault given o s) (filter (relocation_is_at r.offset) (relocations_of (object_at given.objects o) s))) ≡ None =
    subst (λ k. least (filter_map (relocation_fault given o s) (filter (relocation_is_at r.offset) (if is_loaded_kind k then relocations_of (object_at given.objects o) s else []))) ≡ None) code (uses_none given o s r.offset none) in
    let fault_none = none_of (relocation_fault given o s) (relocation_is_at r.offset) (relocations_of (object_at given.objects o) s) at r here at_own least_none in
    fits_by given o r (kind_of r.kind) (meaning_none (is_allowed given o s r) (meaning_fault (kind_of r.kind) given o r) (plain_none given o s r fault_none))
