-- The first fault by the rules one after another is the first of those present.
use Rattle.std.proofs.Common.{◌≡◌, ℕ, ◌*◌, Bool, cond, ◌||◌, List, [], ◌++◌, Option, Some, None, Result, Ok, Err, IfErr, OnOk, refl, sym, ◌∙◌}
use Rattle.std.specs.Result.{result_err}
use Rattle.faults.specs.First.{◌or_else◌, where_true, first_below}
use Rattle.faults.specs.Present.{broken, each_below, first_in}
use Rattle.faults.proofs.Heads.{first_in-append, first_in-broken, first_in-each, first_in-cond, none_in}
use Rattle.elf_objects.specs.Headers.{header_of, section_count}
use Rattle.elf_objects.specs.Contents.{bytes_of}
use Rattle.elf_objects.specs.Sections.{is_symbol_table}
use Rattle.elf_objects.specs.Symbols.{symbol_entry_count}
use Rattle.elf_objects.specs.Relocations.{is_rela, entry_count, relocation_in}
use Rattle.elf_objects.specs.Rules.{is_not_elf, is_wrong_kind, has_wrong_flags, is_table_missing, are_names_missing, is_bad_section, is_unsupported, is_section_unnamed, is_symbol_unnamed, is_bad_symbol, is_bad_relocation}
use Rattle.elf_objects.specs.Faults.{refusal, faults_of, header_faults, name_faults, symbol_faults, relocation_faults}
use Rattle.elf_objects.specs.FirstFaults.{header_refusal, name_refusal, symbol_name_refusal, symbol_refusal, relocation_refusal, entries_refusal, in_sections, table_refusal, form_refusal, early_refusal, sections_refusal}
use Rattle.elf_objects.specs.declared.fault.Refusal.{Refusal}
use Rattle.elf_objects.specs.declared.fault.TheConstants.{NOT_ELF, WRONG_KIND, WRONG_FLAGS, BAD_TABLE, BAD_NAME, BAD_SYMBOL, BAD_RELOCATION, UNSUPPORTED_SECTION}

-- one rule for each of several things
first-rule : (n : ℕ) (is : ℕ → Bool) (fault : ℕ → Refusal) → first_in (each_below n (λ i. broken (is i) (fault i))) ≡ first_below n (λ i. where_true (is i) (fault i))
first-rule n is fault = first_in-each n (λ i. broken (is i) (fault i)) (λ i. where_true (is i) (fault i)) (λ i. first_in-broken (is i) (fault i))

first-two : (xs ys : List Refusal) (a b : Option Refusal) → first_in xs ≡ a → first_in ys ≡ b → first_in (xs ++ ys) ≡ (a or_else b)
first-two xs ys a b e f = first_in-append xs ys ∙ rw (e, f) refl

first-part : (is : Bool) (xs : List Refusal) (a : Option Refusal) → first_in xs ≡ a → first_in (cond is xs []) ≡ cond is a None
first-part is xs a e = first_in-cond is xs ∙ rw e refl

first-header : (b : List ℕ) → first_in (header_faults b) ≡ header_refusal b
unfolding header_refusal
first-header b =
    first-two _ _ _ _ (first_in-broken (is_not_elf b) (refusal NOT_ELF 0 0))
    (first-two _ _ _ _ (first_in-broken (is_wrong_kind b) (refusal WRONG_KIND 0 0))
    (first-two _ _ _ _ (first_in-broken (has_wrong_flags b) (refusal WRONG_FLAGS 0 0))
    (first_in-broken (is_table_missing b || are_names_missing b) (refusal BAD_TABLE 0 0))))

first-name : (b : List ℕ) (s : ℕ) → first_in (name_faults b s) ≡ name_refusal b s
unfolding name_refusal symbol_name_refusal
first-name b s =
    first-two _ _ _ _ (first_in-broken (is_section_unnamed b s) (refusal BAD_NAME s 0))
    (first-part (is_symbol_table b s) _ _ (first-rule (symbol_entry_count b) (is_symbol_unnamed b) (λ i. refusal BAD_NAME s i)))

first-symbol : (b : List ℕ) (s : ℕ) → first_in (symbol_faults b s) ≡ symbol_refusal b s
unfolding symbol_refusal
first-symbol b s = first-part (is_symbol_table b s) _ _ (first-rule (symbol_entry_count b) (is_bad_symbol b) (λ i. refusal BAD_SYMBOL s i))

first-relocation : (b : List ℕ) (s : ℕ) → first_in (relocation_faults b s) ≡ relocation_refusal b s
unfolding relocation_refusal entries_refusal
first-relocation b s =
    let h = header_of b s in
    first-part (is_rela b s) _ _ (first-rule (entry_count b s) (λ k. is_bad_relocation b h.info (relocation_in (bytes_of b h) (24 * k))) (λ k. refusal BAD_RELOCATION s k))

-- the last of six rules counts where the first five are kept
last-counts : (h t f n s r : Option Refusal) → (h or_else t or_else f or_else n or_else s or_else r) ≡ ((h or_else t or_else f or_else n or_else s) or_else r)
last-counts (Some x) t f n s r = refl
last-counts None (Some x) f n s r = refl
last-counts None None (Some x) n s r = refl
last-counts None None None (Some x) s r = refl
last-counts None None None None (Some x) r = refl
last-counts None None None None None r = refl

first-fault : (b : List ℕ) → first_in (faults_of b) ≡ (early_refusal b or_else in_sections b (relocation_refusal b))
unfolding faults_of early_refusal sections_refusal
first-fault b =
    let n = section_count b in
    first-two _ _ _ _ (first-header b)
    (first-two _ _ _ _ (first-rule n (is_bad_section b) (λ s. refusal BAD_TABLE s 0))
    (first-two _ _ _ _ (first-rule n (is_unsupported b) (λ s. refusal UNSUPPORTED_SECTION s 0))
    (first-two _ _ _ _ (first_in-each n (name_faults b) (name_refusal b) (first-name b))
    (first-two _ _ _ _ (first_in-each n (symbol_faults b) (symbol_refusal b) (first-symbol b))
    (first_in-each n (relocation_faults b) (relocation_refusal b) (first-relocation b))))))
    ∙ last-counts (header_refusal b) (in_sections b (table_refusal b)) (in_sections b (form_refusal b)) (in_sections b (name_refusal b)) (in_sections b (symbol_refusal b)) (in_sections b (relocation_refusal b))

-- the first fault, where there is none but of relocations
pub rest-fault : (b : List ℕ) → early_refusal b ≡ None → in_sections b (relocation_refusal b) ≡ first_in (faults_of b)
rest-fault b early = sym (first-fault b ∙ rw early refl)

-- a fault that isn't one of relocations
early-fault : (b : List ℕ) (fault : Refusal) → early_refusal b ≡ Some fault → first_in (faults_of b) ≡ Some fault
early-fault b fault early = first-fault b ∙ rw early refl

-- what a check up to the symbols finds
pub early-first : {T : Type 0} (b : List ℕ) (result : Result T Refusal) → result_err result ≡ early_refusal b → IfErr result (λ refusal. first_in (faults_of b) ≡ Some refusal)
early-first b (Ok tables) is = tt
early-first b (Err refusal) is = early-fault b refusal (sym is)

pub early-none : {T : Type 0} (b : List ℕ) (result : Result T Refusal) → result_err result ≡ early_refusal b → OnOk result (early_refusal b ≡ None)
early-none b (Ok tables) is = sym is
early-none b (Err refusal) is = tt

pub no-fault : (b : List ℕ) → first_in (faults_of b) ≡ None → faults_of b ≡ []
no-fault b none = none_in _ none

pub ruleset order = (rest-fault, no-fault)
