-- What follows from the meaning of a name: where its definition is, or that there is none.
use Rattle.std.proofs.Common.{◌≡◌, ℕ, zero, suc, ◌<◌, Bool, true, false, ◌&&◌, subst, length, List, Option, Some, None, refl, ◌∙◌, ap, arith}
use Rattle.std.specs.Option.{option_map}
use Rattle.faults.specs.First.{◌or_else◌, where_true, first_below}
use Rattle.elf_objects.specs.declared.parts.Binding.{Binding}
use Rattle.elf_objects.specs.declared.parts.Binding.TheVariants.{Global, Weak}
use Rattle.elf_objects.specs.Objects.{Object}
use Rattle.symbols.specs.declared.names.Meaning.{Meaning}
use Rattle.symbols.specs.declared.names.Meaning.TheVariants.{Defined, Imported}
use Rattle.symbols.specs.Parts.{symbol_at, symbol_count}
use Rattle.symbols.specs.Wanted.{Given, import_of}
use Rattle.symbols.specs.Resolution.{Definition, definition_at, first_in_object, first_definition, definition_of, is_definition}
use Rattle.symbols.specs.Names.{defined, imported_as, meaning_of, defined_there, IsDefinedBy, IsMeaning}
use Rattle.symbols.specs.Parts.{same}

-- what is found first is found somewhere
pub first_below-holds : {A : Type 0} (P : A → Type 0) (n : ℕ) (f : ℕ → Option A) → ((i : ℕ) (x : A) → i < n → f i ≡ Some x → P x) → (x : A) → first_below n f ≡ Some x → P x
first_below-holds P zero f each x e = cc
first_below-holds {A} P (suc n) f each x e = by (first_below n f) refl (λ y. first_below-holds P n f (λ i z lt is. each i z (omega arith) is) y)
  where
    by : (o : Option A) → first_below n f ≡ o → ((y : A) → first_below n f ≡ Some y → P y) → P x
    by None none below = each n x (omega arith) (rw none at e)
    by (Some y) some below = below x (some ∙ (rw some at e))

-- the definition is at its numbers
pub record DefinitionIsThere (objects : List Object) (d : Definition) : Type 0 where
  pub object_in : d.object < length objects
  pub number_in : d.number < symbol_count objects d.object
  pub is : d ≡ defined_there objects d.object d.number

DefinitionIsThere-definition_at : (objects : List Object) (binding : Binding) (name : List ℕ) (object number : ℕ) (d : Definition) → object < length objects → number < symbol_count objects object
    → definition_at objects binding name object number ≡ Some d → DefinitionIsThere objects d
DefinitionIsThere-definition_at objects binding name object number d object_in number_in e = by (is_definition binding number (symbol_at objects object number) && same name (symbol_at objects object number).name) e
  where
    by : (b : Bool) → where_true b (defined_there objects object number) ≡ Some d → DefinitionIsThere objects d
    by true found = (let k : defined_there objects object number ≡ d = cc in subst (DefinitionIsThere objects) k (record { object_in = object_in; number_in = number_in; is = refl }))
    by false found = cc

DefinitionIsThere-first : (objects : List Object) (binding : Binding) (name : List ℕ) (d : Definition) → first_definition objects binding name ≡ Some d → DefinitionIsThere objects d
DefinitionIsThere-first objects binding name d e =
    first_below-holds (DefinitionIsThere objects) (length objects) (first_in_object objects binding name)
    (λ object x object_in here. first_below-holds (DefinitionIsThere objects) (symbol_count objects object) (definition_at objects binding name object) (λ number y number_in found. DefinitionIsThere-definition_at objects binding name object number y object_in number_in found) x here)
    d e

pub DefinitionIsThere-definition_of : (given : Given) (name : List ℕ) (d : Definition) → definition_of given name ≡ Some d → DefinitionIsThere given.objects d
DefinitionIsThere-definition_of given name d e = by (first_definition given.objects Global name) refl
  where
    by : (o : Option Definition) → first_definition given.objects Global name ≡ o → DefinitionIsThere given.objects d
    by None none = DefinitionIsThere-first given.objects Weak name d (rw none at e)
    by (Some x) some = DefinitionIsThere-first given.objects Global name d (some ∙ (rw some at e))

-- what the table has for a name is what the name means
pub is_meaning : (given : Given) (name : List ℕ) (m : Option Meaning) → meaning_of given name ≡ m → IsMeaning given name m
is_meaning given name m e = by (definition_of given name) refl (import_of given.wanted name) refl e (DefinitionIsThere-definition_of given name)
  where
    defined_by : (d : Definition) (object number : ℕ) → d.object ≡ object → d.number ≡ number → definition_of given name ≡ Some d → DefinitionIsThere given.objects d → IsDefinedBy given name object number
    defined_by d object number o n is s = record {
      object_in = subst (λ k. k < length given.objects) o s.object_in;
      number_in = rw (← o, ← n) s.number_in;
      definition_is = is ∙ ap Some (s.is ∙ (λ j. defined_there given.objects (o j) (n j)));
    }

    at_definition : (d : Definition) → definition_of given name ≡ Some d → (m : Option Meaning) → Some (defined d) ≡ m → DefinitionIsThere given.objects d → IsMeaning given name m
    at_definition d is None means s = cc
    at_definition d is (Some (Defined object number)) means s = (let o : d.object ≡ object = cc in let n : d.number ≡ number = cc in defined_by d object number o n is s)
    at_definition d is (Some (Imported at)) means s = cc

    at_import : (i : Option ℕ) → definition_of given name ≡ None → import_of given.wanted name ≡ i → (m : Option Meaning) → imported_as i ≡ m → IsMeaning given name m
    at_import None none is None means = (none, is)
    at_import None none is (Some x) means = cc
    at_import (Some at) none is None means = cc
    at_import (Some at) none is (Some (Defined object number)) means = cc
    at_import (Some at) none is (Some (Imported k)) means = (none, is ∙ (let same_number : at ≡ k = cc in ap Some same_number))

    by : (o : Option Definition) → definition_of given name ≡ o → (i : Option ℕ) → import_of given.wanted name ≡ i → (option_map defined o or_else imported_as i) ≡ m → ((d : Definition) → definition_of given name ≡ Some d → DefinitionIsThere given.objects d) → IsMeaning given name m
    by (Some d) is i imports means is_there = at_definition d is m means (is_there d is)
    by None is i imports means is_there = at_import i is imports m means
