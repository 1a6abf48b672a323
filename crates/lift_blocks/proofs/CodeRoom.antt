-- Code sections are small where the layout has no fault, and their operations are in range.
use Rattle.std.proofs.Common.{◌≡◌, ℕ, zero, suc, ◌+◌, ◌-◌, ◌≤◌, ◌^◌, Bool, true, false, List, [], ◌∷◌, length, Option, Some, None, refl, ap, ◌∙◌, subst, arith}
use Rattle.std.specs.Prelude.{slice_get, unwrap_or, if◌then◌else◌, nat_eq, nat_le, nat_lt, ◌%◌, Result, Ok, Err, IfOk, IfSome}
use Rattle.std.proofs.lemmas.Bool.{ltb-false}
use Rattle.faults.specs.Present.{broken}
use Rattle.faults.proofs.Absent.{none-right, none-broken}
use Rattle.elf_objects.specs.declared.parts.SectionKind.{SectionKind}
use Rattle.elf_objects.specs.declared.parts.SectionKind.TheVariants as kinds
use Rattle.elf_objects.specs.Objects.{Section, Object}
use Rattle.rv_decode.specs.declared.ops.RvOp.{RvOp}
use Rattle.rv_decode.specs.declared.ops.WordFault.{WordFault}
use Rattle.rv_decode.specs.Operations.{IsOp}
use Rattle.rv_decode.proofs.OperationRanges.{operation_is_op}
use Rattle.symbols.specs.Parts.{no_object}
use Rattle.symbols.specs.Wanted.{Given, kept_objects}
use Rattle.layout.specs.declared.fault.TheConstants.{READ_ONLY_TOO_LARGE, WRITABLE_TOO_LARGE, ZERO_TOO_LARGE, CODE_TOO_LARGE}
use Rattle.layout.specs.Addresses.{read_only_len, writable_len, zero_pages}
use Rattle.layout.specs.Sections.{is_code, extent_by}
use Rattle.layout.specs.Faults.{layout_faults, whole, extent_if, code_size_of, code_size_in, code_size}
use Rattle.relocs.specs.Places.{Code, code_if, code_at}
use Rattle.relocs.specs.Words.{word_at, word_or_trap, is_code_offset, word_in, decoded, raw_at}
use Rattle.relocs.specs.CodeFaults.{word_fault}
use Rattle.lift_blocks.specs.PlacedOps.{IsFaultless}
use Rattle.lift_blocks.proofs.Faultless.{and_right}

-- ---- sizes

extent_of_code : (kind : SectionKind) (section : Section) → is_code kind ≡ true → extent_by kind section ≡ length section.content
extent_of_code kinds.Code section e = refl
extent_of_code kinds.ReadOnly section e = absurd cc
extent_of_code kinds.Writable section e = absurd cc
extent_of_code kinds.Zero section e = absurd cc
extent_of_code kinds.Unloaded section e = absurd cc

section_size : (sections : List Section) (s : ℕ) (section : Section) → slice_get sections s ≡ Some section → is_code section.kind ≡ true → length section.content ≤ code_size_of sections
unfolding code_size_of
section_size [] s section e k = absurd cc
section_size (x ∷ sections) zero section e k =
    let same : x ≡ section = cc in
    let size : extent_if (is_code x.kind) x ≡ length section.content = rw (same, k) (extent_of_code section.kind section k) in
    omega (arith, size)
section_size (x ∷ sections) (suc s) section e k = (let rest = section_size sections s section e k in omega (arith, rest))

object_size : (objects : List Object) (o : ℕ) (object : Object) → slice_get objects o ≡ Some object → code_size_of object.sections ≤ code_size_in objects
unfolding code_size_in
object_size [] o object e = absurd cc
object_size (x ∷ objects) zero object e =
    let same : x ≡ object = cc in
    let size : code_size_of x.sections ≡ code_size_of object.sections = ap (λ y. code_size_of y.sections) same in
    omega (arith, size)
object_size (x ∷ objects) (suc o) object e = (let rest = object_size objects o object e in omega (arith, rest))

few_bytes : (given : Given) → layout_faults given ≡ [] → code_size given ≤ 2 ^ 24
few_bytes given none =
    let after_first = none-right (broken (nat_lt (2 ^ 24 - 1) (read_only_len given)) (whole READ_ONLY_TOO_LARGE)) _ none in
    let after_second = none-right (broken (nat_lt (2 ^ 24 - 1) (writable_len given)) (whole WRITABLE_TOO_LARGE)) _ after_first in
    let after_third = none-right (broken (nat_lt 65535 (zero_pages given)) (whole ZERO_TOO_LARGE)) _ after_second in
    ltb-false (2 ^ 24) (code_size given) (none-broken (nat_lt (2 ^ 24) (code_size given)) (whole CODE_TOO_LARGE) after_third)

-- a section of code has few bytes
pub code_small : (given : Given) (o s : ℕ) (bytes : List ℕ) → layout_faults given ≡ [] → code_at given o s ≡ Some bytes → length bytes ≤ 2 ^ 24
code_small given o s bytes none code = by_object (slice_get (kept_objects given) o) refl code
  where
    by_kind : (sections : List Section) (section : Section) (b : Bool) → is_code section.kind ≡ b → slice_get sections s ≡ Some section → (if b then Some section.content else None) ≡ Some bytes → length bytes ≤ code_size_of sections
    by_kind sections section true k e c =
        let same : section.content ≡ bytes = cc in
        subst (λ l. length l ≤ code_size_of sections) same (section_size sections s section e k)
    by_kind sections section false k e c = absurd cc

    by_section : (sections : List Section) (there : Option Section) → slice_get sections s ≡ there → code_if true there ≡ Some bytes → length bytes ≤ code_size_of sections
    by_section sections None e c = absurd cc
    by_section sections (Some section) e c = by_kind sections section (is_code section.kind) refl e c

    by_object : (there : Option Object) → slice_get (kept_objects given) o ≡ there → code_if true (slice_get (unwrap_or there no_object).sections s) ≡ Some bytes → length bytes ≤ 2 ^ 24
    by_object None e c = absurd cc
    by_object (Some object) e c =
        let size = by_section object.sections (slice_get object.sections s) refl c in
        let whole_size = object_size (kept_objects given) o object e in
        let few = few_bytes given none in
        omega (arith, size, whole_size, few)

-- so a place of code has a small offset
pub offset_small : (given : Given) (o s f : ℕ) → layout_faults given ≡ [] → IsFaultless given o s f → f ≤ 2 ^ 24
offset_small given o s f none free =
    let few = code_small given o s free.bytes none free.code in
    let within = and_right (nat_eq (f % 4) 0) (nat_le f (length free.bytes)) free.offset in
    grind (arith, few, within)

-- ---- words

either_is : (b : Bool) (x y : Result RvOp WordFault) → IfOk x IsOp → IfOk y IsOp → IfOk (if b then x else y) IsOp
either_is true x y f g = f
either_is false x y f g = g

fetched_is_op : (bytes : List ℕ) (f : ℕ) → IfOk (word_or_trap bytes f) IsOp
unfolding word_or_trap
fetched_is_op bytes f = either_is (nat_eq f (length bytes)) _ _ tt (either_is (nat_le (f + 4) (length bytes)) _ _ (operation_is_op (word_at bytes f)) tt)

result_is_op : (word : Result RvOp WordFault) → IfOk word IsOp → IfSome (decoded (Some word)) IsOp
result_is_op (Ok op) h = h
result_is_op (Err fault) h = tt

word_is_op : (f : ℕ) (code : Option (List ℕ)) → IfSome (decoded (word_in code f)) IsOp
word_is_op f None = tt
word_is_op f (Some bytes) = by_offset (is_code_offset (length bytes) f)
  where
    by_offset : (b : Bool) → IfSome (decoded (if b then Some (word_or_trap bytes f) else None)) IsOp
    by_offset true = result_is_op (word_or_trap bytes f) (fetched_is_op bytes f)
    by_offset false = tt

-- registers and immediates of the operation at an offset are in range
pub raw_is_op : (given : Given) (o s f : ℕ) → IfSome (raw_at given (Code o s f)) IsOp
raw_is_op given o s f = word_is_op f (code_at given o s)

some_op : (word : Result RvOp WordFault) → word_fault (Some word) ≡ None → (op : RvOp) × (decoded (Some word) ≡ Some op)
some_op (Ok op) e = (op, refl)
some_op (Err fault) e = absurd cc

-- there is an operation at each place
pub raw_is_there : (given : Given) (o s f : ℕ) → IsFaultless given o s f → (op : RvOp) × (raw_at given (Code o s f) ≡ Some op)
raw_is_there given o s f free =
    let here : word_in (code_at given o s) f ≡ Some (word_or_trap free.bytes f) = rw (free.code, free.offset) refl in
    let word = some_op (word_or_trap free.bytes f) (subst (λ w. word_fault w ≡ None) here free.word) in
    (word.0, ap decoded here ∙ word.1)

pub ruleset words = (offset_small, raw_is_op, raw_is_there)
