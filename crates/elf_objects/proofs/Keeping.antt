-- What the parts of a file keep, since no fault is present in it.
use Rattle.std.proofs.Common.{◌≡◌, ◌≢◌, ◌<◌, ◌≤◌, ◌+◌, ◌-◌, ◌*◌, ◌==◌, nat_lt, nat_le, not, ◌&&◌, ◌||◌, ℕ, zero, suc, Bool, true, false, List, [], length, drop, Option, Some, None, IsTrue, if◌then◌else◌, inl, inr, ◌⊎◌, refl, subst, ◌∙◌, arith, length-drop, lit≤, lit<, eq-eqb}
use Rattle.std.specs.Int.{is_power_of_two}
use Rattle.std.specs.Option.{option_or}
use lib.Count.{ones, ones_in}
use Rattle.std.proofs.lemmas.Bool.Decides.{nat_tests}
use Rattle.std.proofs.lemmas.List.{length-take}
use Rattle.faults.specs.First.{where_true, first_below, least_below}
use Rattle.faults.specs.Present.{broken, each_below}
use Rattle.faults.proofs.Absent.{none-left, none-right, none-broken, none-part, none-each}
use Rattle.elf_objects.specs.declared.section_header.SectionHeader.{SectionHeader}
use Rattle.elf_objects.specs.declared.parts.SectionKind.{SectionKind}
use Rattle.elf_objects.specs.declared.parts.SectionKind.TheVariants.{Code, ReadOnly, Writable, Zero, Unloaded}
use Rattle.elf_objects.specs.declared.parts.SymbolIndex.{SymbolIndex}
use Rattle.elf_objects.specs.declared.parts.SymbolIndex.TheVariants as index_variant
use Rattle.elf_objects.specs.declared.parts.Section as borrowed_section
use Rattle.elf_objects.specs.declared.parts.Symbol as borrowed_symbol
use Rattle.elf_objects.specs.declared.parts.Relocation.{Relocation}
use Rattle.elf_objects.specs.declared.relocation_index.Part.{Part}
use Rattle.elf_objects.specs.Objects.{ShowsSection, ShowsSymbol}
use Rattle.elf_objects.specs.Headers.{header_of, section_count}
use Rattle.elf_objects.specs.Contents.{bytes_of, lies_past}
use Rattle.elf_objects.specs.Sections.{has_flag, is_unwinding, is_loaded, loaded_kind, section_kind, symbol_table, is_found, is_symbol_table}
use Rattle.elf_objects.specs.Symbols.{symbol_entry_count, symbol_entry, symbol_names, symbol_from, count_by_table, symbol_count, symbol_by_table, symbol_at, index_of}
use Rattle.elf_objects.specs.Widths.{width}
use Rattle.elf_objects.specs.Relocations.{entry_count, is_rela, is_rela_of, relocation_in}
use Rattle.elf_objects.specs.FileObject.{section_of, object_in}
use Rattle.elf_objects.specs.Rules.{is_bad_align, is_bad_section, is_unknown_form, is_unsupported, is_bad_symbol, is_out_of_range, is_bad_relocation}
use Rattle.elf_objects.specs.Faults.{faults_of, header_faults, name_faults, refusal, relocation_faults, section_faults, symbol_faults}
use Rattle.elf_objects.specs.Keeping.{KeepsSection, LiesWithin, KeepsSymbol, KeepsRelocation}
use Rattle.elf_objects.specs.Index.{LeadsTo}
use Rattle.elf_objects.proofs.BoolParts.{both-left, both-right, either-right, neither-left, neither-right, fails-right, not-false}
use Rattle.elf_objects.proofs.Records.{length-sections_of, length-symbols_of, slice_get-sections_of}
use Rattle.elf_objects.specs.declared.fault.TheConstants.{BAD_TABLE, BAD_SYMBOL, BAD_RELOCATION, UNSUPPORTED_SECTION}

-- no fault of a kind is present in a section
sections-hold : (b : List ℕ) → faults_of b ≡ [] → section_faults b ≡ []
unfolding faults_of
sections-hold b e = none-right (header_faults b) (section_faults b) e

table-holds : (b : List ℕ) (s : ℕ) → faults_of b ≡ [] → s < section_count b → is_bad_section b s ≡ false
table-holds b s e lt =
    let phase = none-left _ _ (sections-hold b e) in
    none-broken _ (refusal BAD_TABLE s 0) (none-each (section_count b) s (λ i. broken (is_bad_section b i) (refusal BAD_TABLE i 0)) phase lt)

supported-holds : (b : List ℕ) (s : ℕ) → faults_of b ≡ [] → s < section_count b → is_unsupported b s ≡ false
supported-holds b s e lt =
    let n = section_count b in
    let tables = each_below n (λ i. broken (is_bad_section b i) (refusal BAD_TABLE i 0)) in
    let phase = none-left _ _ (none-right tables _ (sections-hold b e)) in
    none-broken _ (refusal UNSUPPORTED_SECTION s 0) (none-each n s (λ i. broken (is_unsupported b i) (refusal UNSUPPORTED_SECTION i 0)) phase lt)

later-hold : (b : List ℕ) → faults_of b ≡ [] → (each_below (section_count b) (symbol_faults b) ≡ []) × (each_below (section_count b) (relocation_faults b) ≡ [])
later-hold b e =
    let n = section_count b in
    let tables = each_below n (λ s. broken (is_bad_section b s) (refusal BAD_TABLE s 0)) in
    let supported = each_below n (λ s. broken (is_unsupported b s) (refusal UNSUPPORTED_SECTION s 0)) in
    let names = each_below n (name_faults b) in
    let symbols = each_below n (symbol_faults b) in
    let both = none-right names _ (none-right supported _ (none-right tables _ (sections-hold b e))) in
    (none-left symbols _ both, none-right symbols _ both)

symbol-holds : (b : List ℕ) (s i : ℕ) → faults_of b ≡ [] → s < section_count b → is_symbol_table b s ≡ true → i < symbol_entry_count b → is_bad_symbol b i ≡ false
symbol-holds b s i e lt is small =
    let all = none-part (is_symbol_table b s) _ (none-each (section_count b) s (symbol_faults b) (later-hold b e).0 lt) is in
    none-broken _ (refusal BAD_SYMBOL s i) (none-each (symbol_entry_count b) i (λ k. broken (is_bad_symbol b k) (refusal BAD_SYMBOL s k)) all small)

relocation-holds : (b : List ℕ) (r k : ℕ) → faults_of b ≡ [] → r < section_count b → is_rela b r ≡ true → k < entry_count b r → is_bad_relocation b (header_of b r).info (relocation_in (bytes_of b (header_of b r)) (24 * k)) ≡ false
relocation-holds b r k e lt is small =
    let all = none-part (is_rela b r) _ (none-each (section_count b) r (relocation_faults b) (later-hold b e).1 lt) is in
    none-broken _ (refusal BAD_RELOCATION r k) (none-each (entry_count b r) k (λ i. broken (is_bad_relocation b (header_of b r).info (relocation_in (bytes_of b (header_of b r)) (24 * i))) (refusal BAD_RELOCATION r i)) all small)

-- What the entry of a relocation keeps

neither : (a c m n : ℕ) → (nat_le a c || nat_lt m n) ≡ false → (c < a) × (n ≤ m)
neither a c m n h =
    let left : c < a = grind (arith, nat_tests) in
    let right : n ≤ m = grind (arith, nat_tests) in
    (left, right)

not-bad : (b : List ℕ) (t : ℕ) (e : Relocation) → is_bad_relocation b t e ≡ false → (e.symbol < symbol_count b) × (e.offset + width e.kind ≤ (header_of b t).size)
not-bad b t e h = neither (symbol_count b) e.symbol (header_of b t).size (e.offset + width e.kind) h

of-rela : (b : List ℕ) (s r : ℕ) → is_rela_of b s r ≡ true → (is_rela b r ≡ true) × ((header_of b r).info ≡ s)
of-rela b s r h =
    let first : is_rela b r ≡ true = grind (arith, nat_tests) in
    let second : (header_of b r).info ≡ s = grind (arith, nat_tests) in
    (first, second)

rela-target : (b : List ℕ) (r : ℕ) → is_rela b r ≡ true → (header_of b r).info < section_count b
unfolding is_rela
rela-target b r e = grind (arith, nat_tests)

-- What a section keeps

abbrev kind_by : Bool → Bool → Bool → SectionKind
kind_by code writable filled =
    if code then Code else if writable then (if filled then Writable else Zero) else ReadOnly

-- a loaded section that doesn't begin as zeros has its bytes in the file
filled-kind : (code writable filled zeros : Bool) → (filled || zeros) ≡ true → (code && zeros) ≡ false → (zeros && not writable) ≡ false → kind_by code writable filled ≢ Zero → filled ≡ true
filled-kind code writable true zeros one exec read ne = refl
filled-kind code writable false false one exec read ne = cc
filled-kind true writable false true one exec read ne = cc
filled-kind false true false true one exec read ne = absurd (ne refl)
filled-kind false false false true one exec read ne = cc

-- a loaded section that begins as zeros has none
zero-kind : (code writable filled zeros : Bool) → (filled || zeros) ≡ true → kind_by code writable filled ≡ Zero → zeros ≡ true
zero-kind code writable filled true one e = refl
zero-kind code writable false false one e = cc
zero-kind true writable true false one e = cc
zero-kind false true true false one e = cc
zero-kind false false true false one e = cc

known-kind : (code writable filled : Bool) → kind_by code writable filled ≢ Unloaded
known-kind true writable filled = λ e. cc
known-kind false true true = λ e. cc
known-kind false true false = λ e. cc
known-kind false false filled = λ e. cc

loaded-kind : (loaded : Bool) (kind : SectionKind) → (if loaded then kind else Unloaded) ≢ Unloaded → loaded ≡ true
loaded-kind true kind ne = refl
loaded-kind false kind ne = absurd (ne refl)

pub kind-loaded : (b : List ℕ) (s : ℕ) → section_kind b s ≢ Unloaded → is_loaded b s ≡ true
unfolding section_kind
kind-loaded b s ne = loaded-kind (is_loaded b s) (loaded_kind (header_of b s)) ne

zero-loaded : (loaded : Bool) (kind : SectionKind) → (if loaded then kind else Unloaded) ≡ Zero → (loaded ≡ true) × (kind ≡ Zero)
zero-loaded true kind e = (refl, e)
zero-loaded false kind e = cc

-- the kind of a loaded section is that of its header
kind-of-loaded : (b : List ℕ) (s : ℕ) → is_loaded b s ≡ true → section_kind b s ≡ loaded_kind (header_of b s)
unfolding section_kind
kind-of-loaded b s e = rw e refl

-- the type and flags of a loaded section
loaded-form : (b : List ℕ) (s : ℕ) → is_loaded b s ≡ true →
    (has_flag (header_of b s).flags 2 ≡ true)
    × (((header_of b s).kind == 1 || (header_of b s).kind == 8) ≡ true)
    × (not (is_unwinding b s) ≡ true)
unfolding is_loaded
loaded-form b s e =
    let front = both-left _ _ e in
    (both-left _ _ front, both-right _ _ front, both-right _ _ e)

known-form : (b : List ℕ) (s : ℕ) → faults_of b ≡ [] → s < section_count b → is_loaded b s ≡ true → is_unknown_form (header_of b s) ≡ false
unfolding is_unsupported
known-form b s valid lt e =
    let form = loaded-form b s e in
    let all = supported-holds b s valid lt in
    let last = neither-right _ _ all in
    fails-right (has_flag (header_of b s).flags 2 && not (is_unwinding b s)) _ last (rw (form.0, form.2) refl)

no-past : (b : List ℕ) (h : SectionHeader) → lies_past b h ≡ false → length (bytes_of b h) ≡ h.size
unfolding bytes_of
no-past b h e =
    let within : (h.size ≡ 0) ⊎ (h.offset + h.size ≤ length b) = grind (arith, nat_tests) in
    let long = length-take h.size (drop h.offset b) in
    let rest = length-drop h.offset b in
    rw e (elim within [ inl none ↦ omega (arith, long, rest, none) | inr some ↦ omega (arith, long, rest, some) ])

past-holds : (b : List ℕ) (s : ℕ) → faults_of b ≡ [] → s < section_count b → ((header_of b s).kind == 1) ≡ true → lies_past b (header_of b s) ≡ false
unfolding is_bad_section
past-holds b s valid lt is =
    let h = header_of b s in
    let all = table-holds b s valid lt in
    let past : (not (h.kind == 0) && not (h.kind == 8) && lies_past b h) ≡ false =
    neither-right _ _ (neither-left _ _ (neither-left _ _ (neither-left _ _ all))) in
    let other : (not (h.kind == 0) && not (h.kind == 8)) ≡ true = grind (arith, nat_tests) in
    fails-right _ _ past other

align-holds : (b : List ℕ) (s : ℕ) → faults_of b ≡ [] → s < section_count b → is_loaded b s ≡ true → is_bad_align (header_of b s).align ≡ false
unfolding is_bad_section
align-holds b s valid lt e = fails-right (is_loaded b s) _ (neither-right _ _ (table-holds b s valid lt)) e

one-power : IsTrue (is_power_of_two 1)
unfolding ones ones_in
one-power = refl

align-positive : (align : ℕ) (unset : Bool) → (align == 0) ≡ unset → 0 < (if unset then 1 else align)
align-positive align true is = lit< tt
align-positive align false is = grind (arith, nat_tests)

align-power : (align : ℕ) (unset : Bool) → (align == 0) ≡ unset → (not unset && (not (is_power_of_two align) || nat_lt 4096 align)) ≡ false →
    IsTrue (is_power_of_two (if unset then 1 else align)) × ((if unset then 1 else align) ≤ 4096)
align-power align true is e = (one-power, lit≤ tt)
align-power align false is e =
    (let odd = not (is_power_of_two align) in
    let past = nat_lt 4096 align in
    let small : past ≡ false = neither-right odd past e in
    (not-false (is_power_of_two align) (neither-left odd past e), grind (arith, nat_tests)))

filled-content : (b : List ℕ) (s : ℕ) → faults_of b ≡ [] → s < section_count b → section_kind b s ≢ Unloaded → section_kind b s ≢ Zero → length (section_of b s).content ≡ (section_of b s).size
unfolding section_of
filled-content b s valid lt loaded filled =
    let h = header_of b s in
    let is = kind-loaded b s loaded in
    let form = loaded-form b s is in
    let known = known-form b s valid lt is in
    let ne : loaded_kind h ≢ Zero = rw (kind-of-loaded b s is) at filled in
    let progbits : (h.kind == 1) ≡ true =
    filled-kind (has_flag h.flags 4) (has_flag h.flags 1) (h.kind == 1) (h.kind == 8) form.1 (neither-right _ _ (neither-left _ _ known)) (neither-right _ _ known) ne in
    let there : (h.kind == 0 || h.kind == 8) ≡ false = grind (arith, nat_tests) in
    rw there (no-past b h (past-holds b s valid lt progbits))

zero-content : (b : List ℕ) (s : ℕ) → section_kind b s ≡ Zero → (section_of b s).content ≡ []
unfolding section_of section_kind
zero-content b s is =
    let h = header_of b s in
    let both = zero-loaded (is_loaded b s) (loaded_kind h) is in
    let form = loaded-form b s both.0 in
    let zeros : (h.kind == 8) ≡ true = zero-kind (has_flag h.flags 4) (has_flag h.flags 1) (h.kind == 1) (h.kind == 8) form.1 both.1 in
    let none : (h.kind == 0 || h.kind == 8) ≡ true = either-right (h.kind == 0) (h.kind == 8) zeros in
    rw none refl

section-align : (b : List ℕ) (s : ℕ) → faults_of b ≡ [] → s < section_count b → section_kind b s ≢ Unloaded → IsTrue (is_power_of_two (section_of b s).align) × ((section_of b s).align ≤ 4096)
unfolding section_of
section-align b s valid lt loaded =
    let align = (header_of b s).align in
    align-power align (align == 0) refl (align-holds b s valid lt (kind-loaded b s loaded))

positive-align : (b : List ℕ) (s : ℕ) → 0 < (section_of b s).align
unfolding section_of
positive-align b s = align-positive (header_of b s).align ((header_of b s).align == 0) refl

kind-section_of : (b : List ℕ) (s : ℕ) → (section_of b s).kind ≡ section_kind b s
unfolding section_of
kind-section_of b s = refl

pub section-keeps : (b : List ℕ) (s : ℕ) (borrowed : borrowed_section.Section) → faults_of b ≡ [] → s < section_count b → ShowsSection borrowed (section_of b s) → KeepsSection borrowed
section-keeps b s borrowed valid lt shows =
    let kind : borrowed.kind ≡ section_kind b s = shows.kind ∙ kind-section_of b s in
    record {
      positive = rw shows.align (positive-align b s);
      power = λ loaded. rw shows.align (section-align b s valid lt (rw kind at loaded)).0;
      aligned = λ loaded. rw shows.align (section-align b s valid lt (rw kind at loaded)).1;
      filled = λ loaded filled. rw (shows.content, shows.size) (filled-content b s valid lt (rw kind at loaded) (rw kind at filled));
      empty = λ zeros. rw shows.content (zero-content b s (rw kind at zeros));
    }

-- What a relocation keeps

rela-loaded : (b : List ℕ) (r : ℕ) → is_rela b r ≡ true → is_loaded b (header_of b r).info ≡ true
unfolding is_rela
rela-loaded b r e = both-right _ _ e

loaded-not : (b : List ℕ) (s : ℕ) → is_loaded b s ≡ true → section_kind b s ≢ Unloaded
loaded-not b s is = let h = header_of b s in rw (kind-of-loaded b s is) (known-kind (has_flag h.flags 4) (has_flag h.flags 1) (h.kind == 1))

keeps-relocation : (b : List ℕ) (s t : ℕ) (e : Relocation) → t ≡ s → t < section_count b → is_loaded b t ≡ true → is_bad_relocation b t e ≡ false → KeepsRelocation (object_in b) s e
unfolding section_of
keeps-relocation b s t e same lt loaded h =
    let fine = not-bad b t e h in
    let there : s < section_count b = rw same at lt in
    record {
      loaded = rw (slice_get-sections_of b s there) (loaded-not b s (rw same at loaded));
      named = rw (length-symbols_of b) fine.0;
      within = rw (slice_get-sections_of b s there) (subst (λ (k : ℕ). e.offset + width e.kind ≤ (header_of b k).size) same fine.1);
    }

-- the relocation to which the index leads
pub relocation-keeps : (b : List ℕ) (s at : ℕ) (part : Part) → faults_of b ≡ [] → LeadsTo b s at part →
    KeepsRelocation (object_in b) s (relocation_in (bytes_of b (header_of b part.section)) (24 * (at - part.before)))
relocation-keeps b s at part valid leads =
    let of = of-rela b s part.section leads.rela in
    keeps-relocation b s (header_of b part.section).info _ of.1 (rela-target b part.section of.0) (rela-loaded b part.section of.0)
    (relocation-holds b part.section (at - part.before) valid leads.section of.0 leads.within)

-- What a symbol keeps

or-none : (a b : Option ℕ) (t : ℕ) → option_or a b ≡ Some t → (a ≡ Some t) ⊎ (b ≡ Some t)
or-none None b t e = inr e
or-none (Some x) b t e = inl e

where-some : (is : Bool) (n t : ℕ) → where_true is n ≡ Some t → n ≡ t
where-some true n t e = cc
where-some false n t e = cc

least_below-within : (test : ℕ → Bool) (n t : ℕ) → first_below n (λ i. where_true (test i) i) ≡ Some t → t < n
least_below-within test zero t e = cc
least_below-within test (suc n) t e =
    elim (or-none (first_below n (λ i. where_true (test i) i)) (where_true (test n) n) t e) [
      | inl before ↦ (let lt = least_below-within test n t before in omega arith)
      | inr here ↦ (let same = where-some (test n) n t here in omega arith)
    ]

table-within : (b : List ℕ) (t : ℕ) → symbol_table b ≡ Some t → t < section_count b
unfolding symbol_table least_below
table-within b t e = least_below-within (λ s. (header_of b s).kind == 2) (section_count b) t e

is-found : (found : Option ℕ) (t : ℕ) → found ≡ Some t → is_found found t ≡ true
is-found None t e = cc
is-found (Some s) t e = (let same : s ≡ t = cc in eq-eqb s t same)

count-some : (b : List ℕ) (table : Option ℕ) (t : ℕ) → table ≡ Some t → count_by_table b table ≡ symbol_entry_count b
count-some b None t e = cc
count-some b (Some s) t e = refl

count-none : (b : List ℕ) (table : Option ℕ) → table ≡ None → count_by_table b table ≡ 1
count-none b None e = refl
count-none b (Some s) e = cc

symbol-some : (b : List ℕ) (table : Option ℕ) (i t : ℕ) → table ≡ Some t → symbol_by_table b table i ≡ symbol_from (symbol_names b) (symbol_entry b i)
symbol-some b None i t e = cc
symbol-some b (Some s) i t e = refl

-- symbol 0 is the only one without a symbol table
has-table : (b : List ℕ) (i : ℕ) (table : Option ℕ) → 0 < i → i < count_by_table b table → (t : ℕ) × (table ≡ Some t)
has-table b i None pos lt = absurd (omega arith)
has-table b i (Some t) pos lt = (t, refl)

-- what the entry of a symbol keeps
in-range : (b : List ℕ) (index : SymbolIndex) (value s : ℕ) → is_out_of_range b index value ≡ false → index ≡ index_variant.Section s → (s < section_count b) × (is_loaded b s ≡ true → value ≤ (header_of b s).size)
in-range b index value s e is =
    let h : (nat_le (section_count b) s || (is_loaded b s && nat_lt (header_of b s).size value)) ≡ false = rw is at e in
    let past = nat_le (section_count b) s in
    let after = is_loaded b s && nat_lt (header_of b s).size value in
    let first : past ≡ false = neither-left past after h in
    let second : after ≡ false = neither-right past after h in
    let there : s < section_count b = grind (arith, nat_tests) in
    (there, λ loaded. (let small : nat_lt (header_of b s).size value ≡ false = fails-right (is_loaded b s) _ second loaded in grind (arith, nat_tests)))

entry-in-range : (b : List ℕ) (i : ℕ) → 0 < i → is_bad_symbol b i ≡ false → is_out_of_range b (index_of (symbol_entry b i).index) (symbol_entry b i).value ≡ false
unfolding is_bad_symbol
entry-in-range b i pos e =
    let other : not (i == 0) ≡ true = grind (arith, nat_tests) in
    neither-right _ _ (fails-right (not (i == 0)) _ e other)

symbol-in-range : (b : List ℕ) (i : ℕ) → faults_of b ≡ [] → 0 < i → i < symbol_count b → is_out_of_range b (symbol_at b i).index (symbol_at b i).value ≡ false
unfolding symbol_count symbol_at
symbol-in-range b i valid pos lt =
    let table = has-table b i (symbol_table b) pos lt in
    let small : i < symbol_entry_count b = rw (count-some b (symbol_table b) table.0 table.1) at lt in
    let fine = symbol-holds b table.0 i valid (table-within b table.0 table.1) (is-found (symbol_table b) table.0 table.1) small in
    rw (symbol-some b (symbol_table b) i table.0 table.1) (entry-in-range b i pos fine)

lies-within : (b : List ℕ) (s value : ℕ) → (is_loaded b s ≡ true → value ≤ (header_of b s).size) → LiesWithin value (section_of b s)
unfolding section_of
lies-within b s value fits = λ loaded. fits (kind-loaded b s loaded)

pub symbol-keeps : (b : List ℕ) (i : ℕ) (borrowed : borrowed_symbol.Symbol) → faults_of b ≡ [] → 0 < i → i < symbol_count b → ShowsSymbol borrowed (symbol_at b i) → KeepsSymbol (object_in b) borrowed
symbol-keeps b i borrowed valid pos lt shows =
    let fine : is_out_of_range b borrowed.index borrowed.value ≡ false = rw (shows.index, shows.value) (symbol-in-range b i valid pos lt) in
    record {
      there = λ s is. rw (length-sections_of b) (in-range b borrowed.index borrowed.value s fine is).0;
      within = λ s is.
          let range = in-range b borrowed.index borrowed.value s fine is in
          rw (slice_get-sections_of b s range.0) (lies-within b s borrowed.value range.1);
    }
