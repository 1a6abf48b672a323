-- The bytes of slots, one after another.
use Rattle.std.proofs.Common.{◌≡◌, ℕ, zero, suc, ◌+◌, List, [], ◌∷◌, ◌++◌, take, Some, refl, ap, sym, ◌∙◌, arith, append_assoc}
use Rattle.std.specs.Prelude.{slice_get, pos}
use Rattle.std.specs.List.{flat_map}
use Rattle.std.specs.Int.{w64, to_le_bytes}
use Rattle.numbers.proofs.BytesLaws.{le_bytes_little}
use Rattle.symbols.specs.declared.place.Place.{Place}
use Rattle.symbols.specs.Wanted.{Given}
use Rattle.relocs.specs.Values.{value_of, bits_of}
use Rattle.relocs.specs.Images.{slot_bytes}

append_nil : {A : Type 0} (xs : List A) → xs ++ [] ≡ xs
append_nil [] = refl
append_nil (x ∷ xs) = ap (λ l. x ∷ l) (append_nil xs)

flat_next : {A : Type 0} (f : A → List ℕ) (xs : List A) (i : ℕ) (x : A) → slice_get xs i ≡ Some x → flat_map f (take (suc i) xs) ≡ flat_map f (take i xs) ++ f x
flat_next f [] i x e = absurd cc
flat_next f (y ∷ xs) zero x e = (let same : y ≡ x = cc in rw same (append_nil (f x)))
flat_next f (y ∷ xs) (suc i) x e = ap (λ l. f y ++ l) (flat_next f xs i x e) ∙ sym (append_assoc (f y) (flat_map f (take i xs)) (f x))

-- a slot more
pub slots_more :
    (given : Given) (places : List Place) (i : ℕ) (place : Place) (old items new bytes : List ℕ) → slice_get places i ≡ Some place
    → items ≡ old ++ flat_map (slot_bytes given) (take i places) → bytes ≡ to_le_bytes w64 (bits_of (value_of given place (pos 0))) → new ≡ items ++ bytes
    → new ≡ old ++ flat_map (slot_bytes given) (take (i + 1) places)
slots_more given places i place old items new bytes here was bytes_are is =
    let next : i + 1 ≡ suc i = omega arith in
    is ∙ ap (λ l. l ++ bytes) was ∙ append_assoc old (flat_map (slot_bytes given) (take i places)) bytes
    ∙ ap (λ l. old ++ (flat_map (slot_bytes given) (take i places) ++ l)) (bytes_are ∙ le_bytes_little (bits_of (value_of given place (pos 0))))
    ∙ ap (λ l. old ++ l) (sym (flat_next (slot_bytes given) places i place here))
    ∙ ap (λ n. old ++ flat_map (slot_bytes given) (take n places)) (sym next)
