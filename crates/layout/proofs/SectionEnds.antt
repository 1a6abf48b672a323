-- Where sections end: never below where they begin, and after a prefix of them where the others end that begin there.
use Rattle.std.proofs.Common.{◌≡◌, ℕ, zero, suc, ◌≤◌, min, Bool, true, false, List, [], ◌∷◌, ◌++◌, take, drop, refl, ◌∙◌, ap, arith, inl, inr}
use Rattle.std.proofs.lemmas.List.{take-append-drop}
use Rattle.std.proofs.lemmas.Bool.{cases_lt}
use Rattle.elf_objects.specs.declared.parts.SectionKind.{SectionKind}
use Rattle.elf_objects.specs.Objects.{Section, Object}
use Rattle.layout.specs.Addresses.{aligned, end_of_slots, end_if, end_of_sections, end_of_objects}

pub aligned-after : (at align : ℕ) → at ≤ aligned at align
aligned-after at align = omega arith

pub end_if-after : (b : Bool) (at : ℕ) (section : Section) → at ≤ end_if b at section
end_if-after true at section = omega (arith, aligned-after at section.align)
end_if-after false at section = omega arith

-- sections end at or after where they begin
pub end_of_sections-after : (is_of : SectionKind → Bool) (at : ℕ) (sections : List Section) → at ≤ end_of_sections is_of at sections
unfolding end_of_sections
end_of_sections-after is_of at [] = omega arith
end_of_sections-after is_of at (section ∷ sections) = omega (arith, end_if-after (is_of section.kind) at section, end_of_sections-after is_of (end_if (is_of section.kind) at section) sections)

pub end_of_objects-after : (is_of : SectionKind → Bool) (at : ℕ) (objects : List Object) → at ≤ end_of_objects is_of at objects
unfolding end_of_objects
end_of_objects-after is_of at [] = omega arith
end_of_objects-after is_of at (object ∷ objects) = omega (arith, end_of_sections-after is_of at object.sections, end_of_objects-after is_of (end_of_sections is_of at object.sections) objects)

-- the sections of a list are those of a prefix and of the rest
pub end_of_sections-append : (is_of : SectionKind → Bool) (at : ℕ) (xs ys : List Section) → end_of_sections is_of at (xs ++ ys) ≡ end_of_sections is_of (end_of_sections is_of at xs) ys
unfolding end_of_sections
end_of_sections-append is_of at [] ys = refl
end_of_sections-append is_of at (section ∷ xs) ys = end_of_sections-append is_of (end_if (is_of section.kind) at section) xs ys

pub end_of_objects-append : (is_of : SectionKind → Bool) (at : ℕ) (xs ys : List Object) → end_of_objects is_of at (xs ++ ys) ≡ end_of_objects is_of (end_of_objects is_of at xs) ys
unfolding end_of_objects
end_of_objects-append is_of at [] ys = refl
end_of_objects-append is_of at (object ∷ xs) ys = end_of_objects-append is_of (end_of_sections is_of at object.sections) xs ys

-- a prefix ends at or before all of them
pub end_of_sections-prefix : (is_of : SectionKind → Bool) (at n : ℕ) (sections : List Section) → end_of_sections is_of at (take n sections) ≤ end_of_sections is_of at sections
end_of_sections-prefix is_of at n sections =
    let whole = ap (end_of_sections is_of at) (take-append-drop n sections) in
    omega (arith, whole, end_of_sections-append is_of at (take n sections) (drop n sections), end_of_sections-after is_of (end_of_sections is_of at (take n sections)) (drop n sections))

pub end_of_objects-prefix : (is_of : SectionKind → Bool) (at n : ℕ) (objects : List Object) → end_of_objects is_of at (take n objects) ≤ end_of_objects is_of at objects
end_of_objects-prefix is_of at n objects =
    let whole = ap (end_of_objects is_of at) (take-append-drop n objects) in
    omega (arith, whole, end_of_objects-append is_of at (take n objects) (drop n objects), end_of_objects-after is_of (end_of_objects is_of at (take n objects)) (drop n objects))

-- an end that is kept up to a limit gives the further ends up to that limit
pub min-after : (limit : ℕ) (end : ℕ → ℕ) → ((at : ℕ) → at ≤ end at) → (at : ℕ) → min (end (min at limit)) limit ≡ min (end at) limit
min-after limit end after at = elim (cases_lt at limit) [
  | inl lt ↦ (let e : min at limit ≡ at = omega arith in ap (λ x. min (end x) limit) e)
  | inr ge ↦ (let e : min at limit ≡ limit = omega arith in ap (λ x. min (end x) limit) e ∙ omega (arith, after limit, after at))
]

-- slots end at or after where they may begin
pub end_of_slots-after : (at slots : ℕ) → at ≤ end_of_slots at slots
end_of_slots-after at zero = omega arith
end_of_slots-after at (suc n) = omega (arith, aligned-after at 8)

-- and so do those after an end that is kept up to a limit
pub slots_end-after : (limit at slots end last : ℕ) → end ≤ limit → last ≡ min (end_of_slots end slots) limit → end ≤ last
slots_end-after limit at slots end last le is = omega (arith, is, le, end_of_slots-after end slots)
