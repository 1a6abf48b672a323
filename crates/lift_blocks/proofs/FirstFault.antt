-- The codes of faults at an offset of code, and the entries.
use Rattle.std.proofs.Common.{◌≡◌, ℕ, zero, suc, ◌+◌, ◌-◌, ◌<◌, ◌%◌, min, Bool, true, false, cond, List, [], ◌∷◌, ◌++◌, length, take, Option, Some, None, refl, sym, ap, ◌∙◌, arith}
use Rattle.std.specs.Prelude.{slice_get, if◌then◌else◌, ◌||◌, ◌&&◌, nat_eq, nat_le}
use Rattle.std.specs.List.{filter, list_any}
use Rattle.std.proofs.lemmas.Bool.{eqb-true}
use Rattle.std.proofs.lemmas.Option.{slice_get_within}
use Rattle.std.specs.Option.{option_map}
use Rattle.std.proofs.lemmas.List.Folds.{list_any-append}
use Rattle.faults.specs.First.{where_true}
use Rattle.faults.specs.Present.{broken, each_below}
use Rattle.elf_objects.specs.declared.parts.Relocation.{Relocation}
use Rattle.elf_objects.specs.declared.parts.SectionKind.TheVariants as kinds
use Rattle.elf_objects.specs.Objects.{relocations_of}
use Rattle.symbols.specs.declared.place.Place.{Place}
use Rattle.symbols.specs.declared.place.Place.TheVariants as names
use Rattle.symbols.specs.Faults.{has_effect}
use Rattle.symbols.specs.Parts.{object_at, kind_at}
use Rattle.symbols.specs.Resolution.{entry_place}
use Rattle.symbols.specs.Resolved.{Resolved, IsResolved}
use Rattle.symbols.specs.Wanted.{Given, kept_objects}
use Rattle.layout.specs.Slots.{is_same, is_among, with_place}
use Rattle.rv_decode.specs.declared.ops.RvOp.{RvOp}
use Rattle.rv_decode.specs.declared.ops.RvOp.TheVariants as rv
use Rattle.relocs.specs.declared.fault.TheConstants.{INTO_PAIR}
use Rattle.relocs.specs.Sites.{IsCodeSection}
use Rattle.relocs.specs.CodeFaults.{fault_at, fault_at_offset, operation_codes, is_entry_at, entry_codes, codes_at, use_codes, word_fault, refusal_code}
use Rattle.relocs.specs.Operands.{least, lesser}
use Rattle.relocs.specs.Pairs.{relocation_is_at, relocations_at, is_second, is_pair_at, is_none_of}
use Rattle.relocs.specs.Places.{Code, code_at}
use Rattle.relocs.specs.Words.{word_in, word_of_place, raw_at, decoded}
use Rattle.relocs.proofs.Finding.{filter_next}
use Rattle.relocs.proofs.Least.{least-append, least_with}
use Rattle.lift_blocks.specs.FirstFault.{has_entry, AreAligned, unaligned_offset, is_complete, is_bare}

-- ---- entries

-- the places of the first n entries are among these
abbrev pub EntriesBelow : Given → ℕ → List Place → Type 0
EntriesBelow given n places = (o s f : ℕ) → is_among places (names.Code o s f) ≡ list_any (is_entry_at o s f) (each_below n (λ e. entry_place given e ∷ []))

pub entries_none : (given : Given) (places : List Place) → places ≡ [] → EntriesBelow given 0 places
unfolding each_below
entries_none given places none o s f = ap (λ l. is_among l (names.Code o s f)) none

entry_same : (o s f : ℕ) (q : Place) → is_same (names.Code o s f) q ≡ is_entry_at o s f q
entry_same o s f (names.Code o' s' f') = refl
entry_same o s f (names.Bytes o' s' f') = refl
entry_same o s f names.Unloaded = refl
entry_same o s f (names.Import i) = refl
entry_same o s f (names.Number n) = refl
entry_same o s f names.Absent = refl

pub both_true : (a b : Bool) → (a && b) ≡ true → (a ≡ true) × (b ≡ true)
both_true true b e = (refl, e)
both_true false b e = absurd cc

same_code : (o s f : ℕ) (q : Place) → is_entry_at o s f q ≡ true → q ≡ names.Code o s f
same_code o s f (names.Code o' s' f') e =
    let front = both_true _ _ e in
    let object = both_true _ _ front.0 in
    let a = eqb-true o o' object.0 in
    let b = eqb-true s s' object.1 in
    let c = eqb-true f f' front.1 in
    cc
same_code o s f (names.Bytes o' s' f') e = absurd cc
same_code o s f names.Unloaded e = absurd cc
same_code o s f (names.Import i) e = absurd cc
same_code o s f (names.Number n) e = absurd cc
same_code o s f names.Absent e = absurd cc

or_false : (b : Bool) → (b || false) ≡ b
or_false true = refl
or_false false = refl

one_more : (places : List Place) (x : Place) (o s f : ℕ) → is_among (with_place places x) (names.Code o s f) ≡ (is_among places (names.Code o s f) || is_entry_at o s f x)
one_more places x o s f = by_test (is_among places x) refl
  where
    there : (b : Bool) → is_entry_at o s f x ≡ b → is_among places x ≡ true → is_among places (names.Code o s f) ≡ (is_among places (names.Code o s f) || b)
    there false g e = sym (or_false (is_among places (names.Code o s f)))
    there true g e = (let h : is_among places (names.Code o s f) ≡ true = ap (is_among places) (sym (same_code o s f x g)) ∙ e in rw h refl)

    by_test : (b : Bool) → is_among places x ≡ b → is_among (if b then places else places ++ x ∷ []) (names.Code o s f) ≡ (is_among places (names.Code o s f) || is_entry_at o s f x)
    by_test true e = there (is_entry_at o s f x) refl e
    by_test false e =
        list_any-append (is_same (names.Code o s f)) places (x ∷ [])
        ∙ ap (λ b. is_among places (names.Code o s f) || b) (or_false (is_same (names.Code o s f) x) ∙ entry_same o s f x)

pub entries_more : (given : Given) (n : ℕ) (places new : List Place) → EntriesBelow given n places → new ≡ with_place places (entry_place given n) → EntriesBelow given (n + 1) new
unfolding each_below
entries_more given n places new before is o s f =
    let next : n + 1 ≡ suc n = omega arith in
    ap (λ l. is_among l (names.Code o s f)) is ∙ one_more places (entry_place given n) o s f ∙ ap (λ b. b || is_entry_at o s f (entry_place given n)) (before o s f)
    ∙ ap (λ b. list_any (is_entry_at o s f) (each_below n (λ e. entry_place given e ∷ [])) || b) (sym (or_false (is_entry_at o s f (entry_place given n))))
    ∙ sym (list_any-append (is_entry_at o s f) (each_below n (λ e. entry_place given e ∷ [])) (entry_place given n ∷ []))
    ∙ ap (λ k. list_any (is_entry_at o s f) (each_below k (λ e. entry_place given e ∷ []))) (sym next)

-- ---- codes

least_where : (a b : Bool) (c : ℕ) → lesser (where_true a c) (where_true b c) ≡ where_true (a || b) c
least_where true true c = (let e : min c c ≡ c = omega arith in ap Some e)
least_where true false c = refl
least_where false b c = refl

least_broken : (b : Bool) (c : ℕ) → least (broken b c) ≡ where_true b c
least_broken true c = refl
least_broken false c = refl

and_or : (a b second : Bool) → ((a && second) || (b && second)) ≡ ((a || b) && second)
and_or true true true = refl
and_or true true false = refl
and_or true false true = refl
and_or true false false = refl
and_or false b second = refl

least_each :
    (o s f : ℕ) (second : Bool) (n : ℕ) (place : ℕ → Place)
    → least (each_below n (λ e. broken (is_entry_at o s f (place e) && second) INTO_PAIR)) ≡ where_true (list_any (is_entry_at o s f) (each_below n (λ e. place e ∷ [])) && second) INTO_PAIR
unfolding each_below
least_each o s f second zero place = refl
least_each o s f second (suc n) place =
    let codes = each_below n (λ e. broken (is_entry_at o s f (place e) && second) INTO_PAIR) in
    let places = each_below n (λ e. place e ∷ []) in
    least-append codes (broken (is_entry_at o s f (place n) && second) INTO_PAIR)
    ∙ ap (λ x. lesser x (least (broken (is_entry_at o s f (place n) && second) INTO_PAIR))) (least_each o s f second n place)
    ∙ ap (lesser (where_true (list_any (is_entry_at o s f) places && second) INTO_PAIR)) (least_broken (is_entry_at o s f (place n) && second) INTO_PAIR)
    ∙ least_where (list_any (is_entry_at o s f) places && second) (is_entry_at o s f (place n) && second) INTO_PAIR
    ∙ ap (λ b. where_true b INTO_PAIR) (and_or (list_any (is_entry_at o s f) places) (is_entry_at o s f (place n)) second)
    ∙ ap (λ b. where_true (b && second) INTO_PAIR) (ap (λ b. list_any (is_entry_at o s f) places || b) (sym (or_false (is_entry_at o s f (place n)))) ∙ sym (list_any-append (is_entry_at o s f) places (place n ∷ [])))

-- the least code of entries: there is one where an entry is the second word of a pair
pub least_entries : (given : Given) (o s f : ℕ) → least (entry_codes given o s f) ≡ where_true (has_entry given o s f && is_second given (Code o s f)) INTO_PAIR
least_entries given o s f = least_each o s f (is_second given (Code o s f)) (length given.wanted.entries) (entry_place given)

-- the least code of all: of the word, its operation and relocations, and entries
pub least_codes : (given : Given) (o s f : ℕ) → least (codes_at given o s f ++ entry_codes given o s f) ≡ lesser (lesser (word_fault (word_of_place given (Code o s f))) (refusal_code given o s f)) (least (entry_codes given o s f))
unfolding refusal_code
least_codes given o s f =
    least-append (codes_at given o s f) (entry_codes given o s f)
    ∙ ap (λ x. lesser x (least (entry_codes given o s f))) (least_with (word_fault (word_of_place given (Code o s f))) (use_codes given o s f))

-- ---- operations without relocations

-- such an operation has no fault of its own
pub complete_codes : (given : Given) (o s f : ℕ) (op : Option RvOp) → is_complete op ≡ true → operation_codes given o s f op [] ≡ []
complete_codes given o s f None e = refl
complete_codes given o s f (Some (rv.Lui rd value)) e = refl
complete_codes given o s f (Some (rv.Auipc rd value)) e = absurd cc
complete_codes given o s f (Some (rv.Jal rd offset)) e = absurd cc
complete_codes given o s f (Some (rv.Jalr rd rs1 imm)) e = refl
complete_codes given o s f (Some (rv.Branch cond rs1 rs2 offset)) e = absurd cc
complete_codes given o s f (Some (rv.Load width rd rs1 imm)) e = refl
complete_codes given o s f (Some (rv.Store width rs1 rs2 imm)) e = refl
complete_codes given o s f (Some (rv.OpImm op rd rs1 imm)) e = refl
complete_codes given o s f (Some (rv.Op op rd rs1 rs2)) e = refl
complete_codes given o s f (Some rv.Fence) e = refl
complete_codes given o s f (Some rv.Trap) e = refl

pub if_none : (b : Bool) (codes : List ℕ) → codes ≡ [] → (if b then [] else codes) ≡ []
if_none true codes e = refl
if_none false codes e = e

pub none_is : (rs : List Relocation) → is_none_of rs ≡ true → rs ≡ []
none_is [] e = refl
none_is (r ∷ rs) e = absurd cc

pub no_refusal : (given : Given) (o s f : ℕ) → is_bare given o s f ≡ true → refusal_code given o s f ≡ None
unfolding refusal_code
no_refusal given o s f e =
    let both = both_true (is_complete (raw_at given (Code o s f))) (is_none_of (relocations_at given o s f)) e in
    let none = none_is (relocations_at given o s f) both.1 in
    let operation = complete_codes given o s f (raw_at given (Code o s f)) both.0 in
    rw none (ap (λ l. least (l ++ [])) (if_none (is_second given (Code o s f)) (operation_codes given o s f (raw_at given (Code o s f)) []) operation))

-- ---- offsets that are no multiples of four

no_word : (code : Option (List ℕ)) (f : ℕ) → nat_eq (f % 4) 0 ≡ false → word_in code f ≡ None
no_word None f e = refl
no_word (Some bytes) f e = rw e refl

no_second : (given : Given) (o s f : ℕ) → nat_eq (f % 4) 0 ≡ false → is_second given (Code o s f) ≡ false
unfolding is_pair_at
no_second given o s f e = by_size (nat_le 4 f) refl
  where
    by_size : (b : Bool) → nat_le 4 f ≡ b → (b && is_pair_at given o s (f - 4)) ≡ false
    by_size false g = refl
    by_size true g =
        let odd : nat_eq ((f - 4) % 4) 0 ≡ false = grind (arith, e, g) in
        let none : raw_at given (Code o s (f - 4)) ≡ None = ap decoded (no_word (code_at given o s) (f - 4) odd) in
        rw none refl

pub each_empty : (n : ℕ) (is : ℕ → Bool) (second : Bool) → second ≡ false → each_below n (λ e. broken (is e && second) INTO_PAIR) ≡ []
unfolding each_below
each_empty zero is second e = refl
each_empty (suc n) is second e = rw (each_empty n is second e, e) (by_test (is n))
  where
    by_test : (b : Bool) → broken (b && false) INTO_PAIR ≡ []
    by_test true = refl
    by_test false = refl

no_codes : (given : Given) (o s f : ℕ) → nat_eq (f % 4) 0 ≡ false → relocations_at given o s f ≡ [] → (codes_at given o s f ++ entry_codes given o s f) ≡ []
no_codes given o s f e none =
    let word = no_word (code_at given o s) f e in
    let second = no_second given o s f e in
    let entries = each_empty (length given.wanted.entries) (λ k. is_entry_at o s f (entry_place given k)) (is_second given (Code o s f)) second in
    rw (word, second, none) (rw second at entries)

-- ---- relocations that are at no multiple of four

pub aligned_more :
    (table : List Relocation) (n limit new : ℕ) (r : Relocation) → slice_get table n ≡ Some r → AreAligned (take n table) limit → new ≡ min limit (unaligned_offset r)
    → AreAligned (take (n + 1) table) new
aligned_more table n limit new r here before is = record { below = each }
  where
    apart : (f : ℕ) → f < new → nat_eq (f % 4) 0 ≡ false → (b : Bool) → relocation_is_at f r ≡ b → cond b (r ∷ []) [] ≡ []
    apart f lt e false g = refl
    apart f lt e true g =
        let both = both_true (has_effect r.kind) (nat_eq r.offset f) g in
        let same = eqb-true r.offset f both.1 in
        let odd : nat_eq (r.offset % 4) 0 ≡ false = rw same e in
        let at : unaligned_offset r ≡ r.offset = rw (both.0, odd) refl in
        absurd (omega (arith, lt, is, at, same))

    each : (f : ℕ) → f < new → nat_eq (f % 4) 0 ≡ false → filter (relocation_is_at f) (take (n + 1) table) ≡ []
    each f lt e =
        let next : n + 1 ≡ suc n = omega arith in
        let earlier = before.below f (omega (arith, lt, is)) e in
        rw next (filter_next (relocation_is_at f) table n r here ∙ ap (λ l. l ++ cond (relocation_is_at f r) (r ∷ []) []) earlier ∙ apart f lt e (relocation_is_at f r) refl)

-- those of a section of code are loaded
loaded_none :
    (given : Given) (o s f limit : ℕ) → kind_at (kept_objects given) o s ≡ kinds.Code → AreAligned (relocations_of (object_at (kept_objects given) o) s) limit → f < limit
    → nat_eq (f % 4) 0 ≡ false → relocations_at given o s f ≡ []
loaded_none given o s f limit code aligned lt e = rw code (aligned.below f lt e)

-- so there is no fault where no relocation is, at no multiple of four
pub no_fault :
    (given : Given) (o s f limit : ℕ) → IsCodeSection given o s → AreAligned (relocations_of (object_at (kept_objects given) o) s) limit → f < limit → nat_eq (f % 4) 0 ≡ false
    → None ≡ fault_at_offset given o s f
no_fault given o s f limit section aligned lt e =
    sym (ap (λ l. option_map (fault_at o s f) (least l)) (no_codes given o s f e (loaded_none given o s f limit section.1 aligned lt e)))

-- the place of an entry, as it is kept
pub entry_is : (given : Given) (resolved : Resolved) (n : ℕ) (place : Place) → IsResolved given resolved → n < length given.wanted.entries → slice_get resolved.entries n ≡ Some place → place ≡ entry_place given n
entry_is given resolved n place is lt here = (let e = is.entries_are n lt in cc)

pub entry_within : (given : Given) (resolved : Resolved) (n : ℕ) → IsResolved given resolved → n < length given.wanted.entries → n < length resolved.entries
entry_within given resolved n is lt = slice_get_within resolved.entries n (entry_place given n) (is.entries_are n lt)
