-- Facts about each place of code, where the code has no fault.
use Rattle.std.proofs.Common.{◌≡◌, ℕ, ◌+◌, ◌<◌, Bool, true, false, List, [], ◌∷◌, ◌++◌, length, Option, Some, None, refl, sym, ap, ◌∙◌, subst, arith}
use Rattle.std.specs.Prelude.{slice_get, unwrap_or, if◌then◌else◌, not, ◌&&◌, ◌||◌, nat_eq, nat_le, ◌%◌, Result, Ok, Err}
use Rattle.std.specs.List.{list_any}
use Rattle.std.proofs.lemmas.Option.{slice_get_within}
use Rattle.faults.specs.Present.{broken, each_below}
use Rattle.faults.proofs.Absent.{none-broken, none-each}
use Rattle.elf_objects.specs.declared.parts.SectionKind.{SectionKind}
use Rattle.elf_objects.specs.declared.parts.SectionKind.TheVariants as kinds
use Rattle.elf_objects.specs.Objects.{Section, Object}
use Rattle.rv_decode.specs.declared.ops.RvOp.{RvOp}
use Rattle.rv_decode.specs.declared.ops.WordFault.{WordFault}
use Rattle.rv_decode.specs.declared.ops.WordFault.TheVariants.{BadWord, BadRegister, Ecall, LoadToZero}
use Rattle.symbols.specs.Parts.{object_at, no_object, kind_of}
use Rattle.symbols.specs.Wanted.{Given, kept_objects}
use Rattle.layout.specs.Sections.{is_code}
use Rattle.relocs.specs.Places.{Code, code_if, code_at}
use Rattle.relocs.specs.Sites.{IsCodeSection}
use Rattle.relocs.specs.Words.{is_code_offset, is_offset_in, word_of_place}
use Rattle.relocs.specs.Pairs.{is_place, is_second}
use Rattle.relocs.specs.Operands.{listed}
use Rattle.relocs.specs.CodeFaults.{code_of_word, word_fault, use_codes, codes_at, entry_codes, fault_at, faults_with, faults_at, section_faults, code_faults}
use Rattle.lift_blocks.specs.PlacedOps.{IsFaultless}
use Rattle.relocs.proofs.AllPlaces.{place_is}
use Rattle.relocs.proofs.CodeLimit.{AreCodes, use_code}

pub and_left : (a b : Bool) → (a && b) ≡ true → a ≡ true
and_left true b e = refl
and_left false b e = e

pub and_right : (a b : Bool) → (a && b) ≡ true → b ≡ true
and_right true b e = e
and_right false b e = absurd cc

-- ---- codes that are not there

same_code : (c : ℕ) → nat_eq c c ≡ true
same_code c = grind arith

head_absent : (c : ℕ) (rest : List ℕ) → list_any (nat_eq c) (c ∷ rest) ≡ false → ⊥
head_absent c rest e = by_test (nat_eq c c) (same_code c) e
  where
    by_test : (b : Bool) → b ≡ true → (b || list_any (nat_eq c) rest) ≡ false → ⊥
    by_test true s e = absurd cc
    by_test false s e = absurd cc

no_codes : (codes more : List ℕ) → AreCodes codes → ((c : ℕ) → c < 32 → list_any (nat_eq c) (codes ++ more) ≡ false) → codes ≡ []
no_codes [] more f none = refl
no_codes (c ∷ codes) more f none = absurd (head_absent c (codes ++ more) (none c f.0))

word_small : (fault : WordFault) → code_of_word fault < 32
word_small BadWord = omega arith
word_small BadRegister = omega arith
word_small Ecall = omega arith
word_small LoadToZero = omega arith

no_word_fault : (w : Option (Result RvOp WordFault)) (more : List ℕ) → ((c : ℕ) → c < 32 → list_any (nat_eq c) (listed (word_fault w) ++ more) ≡ false) → word_fault w ≡ None
no_word_fault None more none = refl
no_word_fault (Some (Ok op)) more none = refl
no_word_fault (Some (Err fault)) more none = absurd (head_absent (code_of_word fault) more (none (code_of_word fault) (word_small fault)))

no_use : (w : Option ℕ) (codes more : List ℕ) → w ≡ None → AreCodes codes → ((c : ℕ) → c < 32 → list_any (nat_eq c) ((listed w ++ codes) ++ more) ≡ false) → codes ≡ []
no_use None codes more e f none = no_codes codes more f none
no_use (Some code) codes more e f none = absurd cc

codes_absent : (codes : List ℕ) (o s f : ℕ) → faults_with codes o s f ≡ [] → (c : ℕ) → c < 32 → list_any (nat_eq c) codes ≡ false
codes_absent codes o s f e c lt =
    none-broken (list_any (nat_eq c) codes) (fault_at o s f c) (none-each 32 c (λ code. broken (list_any (nat_eq code) codes) (fault_at o s f code)) e lt)

append_assoc_word : (w : Option ℕ) (codes more : List ℕ) (c : ℕ) → list_any (nat_eq c) ((listed w ++ codes) ++ more) ≡ list_any (nat_eq c) (listed w ++ (codes ++ more))
append_assoc_word None codes more c = refl
append_assoc_word (Some code) codes more c = refl

-- ---- sections of code

is_the_code : (kind : SectionKind) → is_code kind ≡ true → kind ≡ kinds.Code
is_the_code kinds.Code e = refl
is_the_code kinds.ReadOnly e = absurd cc
is_the_code kinds.Writable e = absurd cc
is_the_code kinds.Zero e = absurd cc
is_the_code kinds.Unloaded e = absurd cc

section_of_code : (there : Option Section) (bytes : List ℕ) → code_if true there ≡ Some bytes → (section : Section) × (there ≡ Some section) × (section.kind ≡ kinds.Code)
section_of_code None bytes e = absurd cc
section_of_code (Some section) bytes e = by_kind (is_code section.kind) refl e
  where
    by_kind : (b : Bool) → is_code section.kind ≡ b → (if b then Some section.content else None) ≡ Some bytes → (other : Section) × (Some section ≡ Some other) × (other.kind ≡ kinds.Code)
    by_kind true k e = (section, refl, is_the_code section.kind k)
    by_kind false k e = absurd cc

object_there : (objects : List Object) (o s : ℕ) (section : Section) (there : Option Object) → slice_get objects o ≡ there → slice_get (unwrap_or there no_object).sections s ≡ Some section → o < length objects
object_there objects o s section None e h = absurd cc
object_there objects o s section (Some object) e h = slice_get_within objects o object e

pub code_section : (given : Given) (o s : ℕ) (bytes : List ℕ) → code_at given o s ≡ Some bytes → IsCodeSection given o s
code_section given o s bytes e =
    let found = section_of_code (slice_get (object_at (kept_objects given) o).sections s) bytes e in (
      record {
        object_in = object_there (kept_objects given) o s found.0 (slice_get (kept_objects given) o) refl found.1;
        section_in = slice_get_within (object_at (kept_objects given) o).sections s found.0 found.1;
      },
      ap kind_of found.1 ∙ found.2,
    )

-- ---- a place of code

faults_none : (given : Given) (o s f : ℕ) (bytes : List ℕ) → code_faults given ≡ [] → IsCodeSection given o s → code_at given o s ≡ Some bytes → f < length bytes + 1 → faults_at given o s f ≡ []
unfolding code_faults
faults_none given o s f bytes none section code within =
    let object = none-each (length (kept_objects given)) o (λ o. each_below (length (object_at (kept_objects given) o).sections) (λ s. section_faults given o s (code_at given o s))) none section.0.object_in in
    let here = none-each (length (object_at (kept_objects given) o).sections) s (λ s. section_faults given o s (code_at given o s)) object section.0.section_in in
    none-each (length bytes + 1) f (faults_at given o s) (subst (λ c. section_faults given o s c ≡ []) code here) within

some_bytes : (f : ℕ) (code : Option (List ℕ)) → is_offset_in code f ≡ true → (bytes : List ℕ) × (code ≡ Some bytes) × (is_code_offset (length bytes) f ≡ true)
some_bytes f None e = absurd cc
some_bytes f (Some bytes) e = (bytes, refl, e)

offset_within : (f size : ℕ) → is_code_offset size f ≡ true → f < size + 1
offset_within f size e = (let le = and_right (nat_eq (f % 4) 0) (nat_le f size) e in grind (arith, le))

not_true : (b : Bool) → not b ≡ true → b ≡ false
not_true true e = absurd cc
not_true false e = refl

-- each place of code is without faults, where the code is
pub faultless : (given : Given) (o s f : ℕ) → code_faults given ≡ [] → is_place given (Code o s f) ≡ true → IsFaultless given o s f
faultless given o s f none place =
    let both = sym (place_is given o s f) ∙ place in
    let found = some_bytes f (code_at given o s) (and_right (not (is_second given (Code o s f))) (is_offset_in (code_at given o s) f) both) in
    let section = code_section given o s found.0 found.1 in
    let absent = codes_absent (codes_at given o s f ++ entry_codes given o s f) o s f (faults_none given o s f found.0 none section found.1 (offset_within f (length found.0) found.2)) in
    let word = no_word_fault (word_of_place given (Code o s f)) (use_codes given o s f ++ entry_codes given o s f)
    (λ c lt. sym (append_assoc_word (word_fault (word_of_place given (Code o s f))) (use_codes given o s f) (entry_codes given o s f) c) ∙ absent c lt) in
    record {
      section = section;
      first = not_true (is_second given (Code o s f)) (and_left (not (is_second given (Code o s f))) (is_offset_in (code_at given o s) f) both);
      bytes = found.0;
      code = found.1;
      offset = found.2;
      word = word;
      uses = no_use (word_fault (word_of_place given (Code o s f))) (use_codes given o s f) (entry_codes given o s f) word (use_code given o s f) absent;
    }
