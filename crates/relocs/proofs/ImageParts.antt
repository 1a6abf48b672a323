-- The bytes of a part of data: as many as its sections take, and they grow section by section.
use Rattle.std.proofs.Common.{◌≡◌, ℕ, zero, suc, ◌+◌, ◌-◌, ◌<◌, ◌≤◌, Bool, true, false, List, [], ◌∷◌, ◌++◌, length, take, replicate, Option, Some, None, refl, sym, ap, ◌∙◌, arith, length-append}
use Rattle.std.specs.Prelude.{slice_get, unwrap_or, IsSomeAnd, OnOk, Result, Ok, Err, fold}
use Rattle.std.proofs.lemmas.List.{length-replicate}
use Rattle.elf_objects.specs.declared.parts.Relocation.{Relocation}
use Rattle.elf_objects.specs.declared.parts.SectionKind.{SectionKind}
use Rattle.elf_objects.specs.declared.parts.SectionKind.TheVariants as kinds
use Rattle.elf_objects.specs.Objects.{Section, Object, relocations_in, relocations_of}
use Rattle.elf_objects.specs.Objects.{ShowsSection}
use Rattle.elf_objects.specs.declared.parts.Section as view
use Rattle.symbols.specs.Faults.{has_effect}
use Rattle.symbols.specs.Parts.{object_at, no_object}
use Rattle.symbols.specs.Wanted.{Given}
use Rattle.layout.specs.Sections.{extent}
use Rattle.layout.specs.Addresses.{aligned, end_if, end_of_sections, end_of_objects, end_before, address_in, address_by}
use Rattle.layout.specs.Laws.{AlignedIsLeast}
use Rattle.layout.specs.Steps.{section_at, no_section}
use Rattle.layout.proofs.Steps.{end_of_sections-more, end_of_objects-more}
use Rattle.relocs.specs.declared.part.Part.{Part}
use Rattle.relocs.specs.declared.part.Part.TheVariants.{ReadOnly, Writable}
use Rattle.relocs.specs.Values.{base_of}
use Rattle.relocs.specs.Data.{relocated_by, patched_by, section_bytes}
use Rattle.relocs.specs.Images.{placed_after, with_section, with_sections, with_objects, sections_image, holds, start_of}
use Rattle.relocs.proofs.Putting.{length-put_bytes}
use Rattle.relocs.proofs.Search.{past_le}

-- ---- relocations change no length

relocated_length : (given : Given) (o s : ℕ) (bytes : List ℕ) (r : Relocation) → length (relocated_by given o s bytes r) ≡ length bytes
unfolding patched_by
relocated_length given o s bytes r = by_test (has_effect r.kind) refl
  where
    by_test : (b : Bool) → has_effect r.kind ≡ b → length (relocated_by given o s bytes r) ≡ length bytes
    by_test true e = rw e (length-put_bytes _ bytes r.offset)
    by_test false e = rw e refl

folded_length : (given : Given) (o s : ℕ) (bytes : List ℕ) (relocations : List Relocation) → length (fold (relocated_by given o s) bytes relocations) ≡ length bytes
folded_length given o s bytes [] = refl
folded_length given o s bytes (r ∷ relocations) = folded_length given o s (relocated_by given o s bytes r) relocations ∙ relocated_length given o s bytes r

pub section_length : (given : Given) (o s : ℕ) (section : Section) → length (section_bytes given o s section) ≡ length section.content
unfolding section_bytes
section_length given o s section = folded_length given o s section.content section.relocations

-- ---- sections of a part have their bytes in the file

pub part_has_bytes : (part : Part) (section : Section) → holds part section.kind ≡ true → extent section ≡ length section.content
part_has_bytes part section e = by_kind part section.kind refl e
  where
    by_kind : (part : Part) (kind : SectionKind) → section.kind ≡ kind → holds part kind ≡ true → extent section ≡ length section.content
    by_kind ReadOnly kinds.Code k f = absurd cc
    by_kind ReadOnly kinds.ReadOnly k f = rw k refl
    by_kind ReadOnly kinds.Writable k f = absurd cc
    by_kind ReadOnly kinds.Zero k f = absurd cc
    by_kind ReadOnly kinds.Unloaded k f = absurd cc
    by_kind Writable kinds.Code k f = absurd cc
    by_kind Writable kinds.ReadOnly k f = absurd cc
    by_kind Writable kinds.Writable k f = rw k refl
    by_kind Writable kinds.Zero k f = absurd cc
    by_kind Writable kinds.Unloaded k f = absurd cc

-- ---- where a part ends

pub placed_end :
    (aligned_is_least : AlignedIsLeast) (start align : ℕ) (bytes piece : List ℕ)
    → start + length (placed_after start bytes align piece) ≡ aligned (start + length bytes) align + length piece
placed_end aligned_is_least start align bytes piece =
    let at : ℕ = start + length bytes in
    let after : at ≤ aligned at align = (aligned_is_least at align).after in
    let zeros : List ℕ = replicate (aligned at align - at) 0 in
    omega (arith, after, length-append (bytes ++ zeros) piece, length-append bytes zeros, length-replicate {A = ℕ} (aligned at align - at) 0)

-- ---- parts of lists

pub object_here : (objects : List Object) (o : ℕ) → o < length objects → slice_get objects o ≡ Some (object_at objects o)
object_here objects o lt = by_found (slice_get objects o) refl
  where
    by_found : (x : Option Object) → slice_get objects o ≡ x → slice_get objects o ≡ Some (unwrap_or (slice_get objects o) no_object)
    by_found None e = (let past = past_le objects o e in absurd (omega (arith, past, lt)))
    by_found (Some object) e = rw e refl

take_whole : {A : Type 0} (xs : List A) → take (length xs) xs ≡ xs
take_whole [] = refl
take_whole (x ∷ xs) = ap (λ l. x ∷ l) (take_whole xs)

take_more_than : {A : Type 0} (n : ℕ) (xs : List A) → length xs ≤ n → take n xs ≡ xs
take_more_than zero [] le = refl
take_more_than zero (x ∷ xs) le = absurd (omega (arith, le))
take_more_than (suc n) [] le = refl
take_more_than (suc n) (x ∷ xs) le = ap (λ l. x ∷ l) (take_more_than n xs (omega (arith, le)))

-- a section of the part has its address after those before it
base_there : (given : Given) (part : Part) (o s : ℕ) (x : Section) → slice_get (object_at given.objects o).sections s ≡ Some x → holds part x.kind ≡ true
    → base_of given o s ≡ aligned (end_before (holds part) (start_of given part) given o s) x.align
base_there given part o s x here h = ap (λ y. unwrap_or (address_in given o s y) 0) here ∙ by_kind part x.kind refl h
  where
    by_kind : (part : Part) (kind : SectionKind) → x.kind ≡ kind → holds part kind ≡ true → unwrap_or (address_by x.kind given o s x) 0 ≡ aligned (end_before (holds part) (start_of given part) given o s) x.align
    by_kind ReadOnly kinds.Code k f = absurd cc
    by_kind ReadOnly kinds.ReadOnly k f = rw k refl
    by_kind ReadOnly kinds.Writable k f = absurd cc
    by_kind ReadOnly kinds.Zero k f = absurd cc
    by_kind ReadOnly kinds.Unloaded k f = absurd cc
    by_kind Writable kinds.Code k f = absurd cc
    by_kind Writable kinds.ReadOnly k f = absurd cc
    by_kind Writable kinds.Writable k f = rw k refl
    by_kind Writable kinds.Zero k f = absurd cc
    by_kind Writable kinds.Unloaded k f = absurd cc

module _ (aligned_is_least : AlignedIsLeast) (given : Given) (part : Part) where
  section_end :
      (start : ℕ) (bytes : List ℕ) (o s : ℕ) (section : Section)
      → start + length (with_section (holds part section.kind) given start bytes o s section) ≡ end_if (holds part section.kind) (start + length bytes) section
  section_end start bytes o s section = by_kind (holds part section.kind) refl
    where
      by_kind : (b : Bool) → holds part section.kind ≡ b → start + length (with_section b given start bytes o s section) ≡ end_if b (start + length bytes) section
      by_kind false e = refl
      by_kind true e =
          placed_end aligned_is_least start section.align bytes (section_bytes given o s section)
          ∙ ap (λ (n : ℕ). aligned (start + length bytes) section.align + n) (section_length given o s section ∙ sym (part_has_bytes part section e))

  pub sections_end :
      (start : ℕ) (bytes : List ℕ) (o n : ℕ) → n ≤ length (object_at given.objects o).sections
      → start + length (with_sections (holds part) given start bytes o n) ≡ end_of_sections (holds part) (start + length bytes) (take n (object_at given.objects o).sections)
  unfolding with_sections end_of_sections
  sections_end start bytes o zero le = refl
  sections_end start bytes o (suc n) le =
      let sections : List Section = (object_at given.objects o).sections in
      let one : n + 1 ≡ suc n = omega arith in
      section_end start (with_sections (holds part) given start bytes o n) o n (section_at sections n)
      ∙ ap (λ (at : ℕ). end_if (holds part (section_at sections n).kind) at (section_at sections n)) (sections_end start bytes o n (omega (arith, le)))
      ∙ sym (end_of_sections-more (holds part) (start + length bytes) sections n (omega (arith, le)))
      ∙ ap (λ (m : ℕ). end_of_sections (holds part) (start + length bytes) (take m sections)) one

  pub objects_end :
      (start n : ℕ) → n ≤ length given.objects
      → start + length (with_objects (holds part) given start n) ≡ end_of_objects (holds part) start (take n given.objects)
  unfolding with_objects end_of_objects
  objects_end start zero le = omega arith
  objects_end start (suc n) le =
      let one : n + 1 ≡ suc n = omega arith in
      let object : Object = object_at given.objects n in
      let here : slice_get given.objects n ≡ Some object = object_here given.objects n (omega (arith, le)) in
      sections_end start (with_objects (holds part) given start n) n (length object.sections) (omega arith)
      ∙ ap (λ l. end_of_sections (holds part) (start + length (with_objects (holds part) given start n)) l) (take_whole object.sections)
      ∙ ap (λ (at : ℕ). end_of_sections (holds part) at object.sections) (objects_end start n (omega (arith, le)))
      ∙ sym (end_of_objects-more (holds part) start given.objects n object here)
      ∙ ap (λ (m : ℕ). end_of_objects (holds part) start (take m given.objects)) one

  -- the bytes before a section end where the sections before it do
  pub before_section :
      (o s : ℕ) (old items : List ℕ) → s ≤ length (object_at given.objects o).sections
      → start_of given part + length old ≡ end_of_objects (holds part) (start_of given part) (take o given.objects)
      → items ≡ with_sections (holds part) given (start_of given part) old o s
      → start_of given part + length items ≡ end_before (holds part) (start_of given part) given o s
  before_section o s old items le before is =
      ap (λ (l : List ℕ). start_of given part + length l) is
      ∙ sections_end (start_of given part) old o s le
      ∙ ap (λ (at : ℕ). end_of_sections (holds part) at (take s (object_at given.objects o).sections)) before

  -- and those before an object where the objects before it do
  pub before_object :
      (o : ℕ) (items : List ℕ) → o ≤ length given.objects → items ≡ with_objects (holds part) given (start_of given part) o
      → start_of given part + length items ≡ end_of_objects (holds part) (start_of given part) (take o given.objects)
  before_object o items le is = ap (λ (l : List ℕ). start_of given part + length l) is ∙ objects_end (start_of given part) o le

  -- a section that was added at its address
  pub section_added :
      (o s : ℕ) (old items new content : List ℕ) (x : Section) (address start : ℕ)
      → slice_get (object_at given.objects o).sections s ≡ Some x → holds part x.kind ≡ true
      → start_of given part + length old ≡ end_before (holds part) (start_of given part) given o s
      → address ≡ base_of given o s → start ≡ start_of given part
      → items ≡ take (address - start) old ++ replicate (address - start - length old) 0
      → content ≡ x.content
      → new ≡ items ++ fold (relocated_by given o s) content (relocations_of (object_at given.objects o) s)
      → new ≡ with_section (holds part (section_at (object_at given.objects o).sections s).kind) given (start_of given part) old o s (section_at (object_at given.objects o).sections s)
  unfolding section_bytes
  section_added o s old items new content x address start here holds_it before address_is start_is items_are content_is new_is =
      let at : ℕ = start_of given part + length old in
      let the_section : section_at (object_at given.objects o).sections s ≡ x = ap (λ y. unwrap_or y no_section) here in
      let aligned_there : address ≡ aligned at x.align =
      address_is ∙ base_there given part o s x here holds_it ∙ ap (λ (n : ℕ). aligned n x.align) (sym before) in
      let after : at ≤ aligned at x.align = (aligned_is_least at x.align).after in
      let zeros : address - start - length old ≡ aligned at x.align - at = omega (arith, aligned_there, start_is, after) in
      let whole : take (address - start) old ≡ old = take_more_than (address - start) old (omega (arith, aligned_there, start_is, after)) in
      let relocations : relocations_of (object_at given.objects o) s ≡ x.relocations = ap relocations_in here in
      new_is
      ∙ ap (λ (l : List ℕ). l ++ fold (relocated_by given o s) content (relocations_of (object_at given.objects o) s)) (items_are ∙ ap (λ (l : List ℕ). l ++ replicate (address - start - length old) 0) whole ∙ ap (λ (n : ℕ). old ++ replicate n 0) zeros)
      ∙ ap (λ (l : List ℕ). old ++ replicate (aligned at x.align - at) 0 ++ fold (relocated_by given o s) l (relocations_of (object_at given.objects o) s)) content_is
      ∙ ap (λ l. old ++ replicate (aligned at x.align - at) 0 ++ fold (relocated_by given o s) x.content l) relocations
      ∙ rw (the_section, holds_it) refl

  -- a part ends where its sections do
  pub image_end : (start : ℕ) → start + length (sections_image (holds part) given start) ≡ end_of_objects (holds part) start given.objects
  image_end start = objects_end start (length given.objects) (omega arith) ∙ ap (λ l. end_of_objects (holds part) start l) (take_whole given.objects)

-- what follows where a call did not fail
pub on_ok : {A E : Type 0} (r : Result A E) {P Q : Type 0} → (P → Q) → OnOk r P → OnOk r Q
on_ok (Ok x) f p = f p
on_ok (Err e) f p = tt

-- the section that was borrowed
pub section_viewed : (o : Option Section) (view : view.Section) → IsSomeAnd o (ShowsSection view) → (x : Section) × (o ≡ Some x) × ShowsSection view x
section_viewed None view h = absurd h
section_viewed (Some x) view h = (x, refl, h)

-- a section more, and an object more
pub sections_more :
    (given : Given) (part : Part) (o s : ℕ) (old items new : List ℕ) → items ≡ with_sections (holds part) given (start_of given part) old o s
    → new ≡ with_section (holds part (section_at (object_at given.objects o).sections s).kind) given (start_of given part) items o s (section_at (object_at given.objects o).sections s)
    → new ≡ with_sections (holds part) given (start_of given part) old o (s + 1)
unfolding with_sections
sections_more given part o s old items new is more =
    let section : Section = section_at (object_at given.objects o).sections s in
    let one : s + 1 ≡ suc s = omega arith in
    more ∙ ap (λ (l : List ℕ). with_section (holds part section.kind) given (start_of given part) l o s section) is
    ∙ ap (λ (n : ℕ). with_sections (holds part) given (start_of given part) old o n) (sym one)

pub objects_more :
    (given : Given) (part : Part) (o : ℕ) (items new : List ℕ) → items ≡ with_objects (holds part) given (start_of given part) o
    → new ≡ with_sections (holds part) given (start_of given part) items o (length (object_at given.objects o).sections)
    → new ≡ with_objects (holds part) given (start_of given part) (o + 1)
unfolding with_objects
objects_more given part o items new is more =
    let one : o + 1 ≡ suc o = omega arith in
    more ∙ ap (λ (l : List ℕ). with_sections (holds part) given (start_of given part) l o (length (object_at given.objects o).sections)) is
    ∙ ap (λ (n : ℕ). with_objects (holds part) given (start_of given part) n) (sym one)
