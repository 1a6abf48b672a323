-- How a table of names grows: by a definition, and by those of a loop.
use Rattle.std.proofs.Common.{◌≡◌, ℕ, ◌+◌, Bool, true, false, List, Option, Some, None, IsSomeAnd, refl, sym, ◌∙◌, ap, add-one}
use Rattle.std.specs.Option.{option_map}
use Rattle.faults.specs.First.{◌or_else◌, where_true, first_below}
use Rattle.elf_objects.specs.declared.parts.Binding.{Binding}
use Rattle.elf_objects.specs.Objects.{Object}
use Rattle.symbols.specs.declared.names.Meaning.{Meaning}
use Rattle.symbols.specs.declared.names.Meaning.TheVariants.{Defined, Imported}
use Rattle.symbols.specs.Parts.{same, symbol_at}
use Rattle.symbols.specs.Wanted.{Wanted, Import, import_name_at, name_of}
use Rattle.symbols.specs.Resolution.{is_definition, definition_at}
use Rattle.symbols.specs.Names.{Adds, added, defined, meaning_in}
use Rattle.symbols.proofs.Lookups.{meaning_in-added}

pub option_map-where_true : {A B : Type 0} (f : A → B) (b : Bool) (x : A) → option_map f (where_true b x) ≡ where_true b (f x)
option_map-where_true f true x = refl
option_map-where_true f false x = refl

pub or_else_assoc : {A : Type 0} (a b c : Option A) → ((a or_else b) or_else c) ≡ (a or_else (b or_else c))
or_else_assoc None b c = refl
or_else_assoc (Some x) b c = refl

pub option_map-or_else : {A B : Type 0} (f : A → B) (a b : Option A) → option_map f (a or_else b) ≡ (option_map f a or_else option_map f b)
option_map-or_else f None b = refl
option_map-or_else f (Some x) b = refl

-- the name of a definition is added
pub Adds-definition : (old new : List (List ℕ × Meaning)) (objects : List Object) (binding : Binding) (object number : ℕ)
    → is_definition binding number (symbol_at objects object number) ≡ true
    → new ≡ added old (symbol_at objects object number).name (Defined object number)
    → Adds old new (λ name. option_map defined (definition_at objects binding name object number))
Adds-definition old new objects binding object number is e name =
    let other = (symbol_at objects object number).name in
    ap (λ names. meaning_in names name) e ∙ meaning_in-added old name other (Defined object number)
    ∙ ap (λ m. meaning_in old name or_else m) (rw is (sym (option_map-where_true defined (same name other) (record { object = object; number = number; symbol = symbol_at objects object number }))))

-- what is added in two steps
pub Adds-both : (old mid new : List (List ℕ × Meaning)) (f g : List ℕ → Option Meaning) → Adds old mid f → Adds mid new g → Adds old new (λ name. f name or_else g name)
Adds-both old mid new f g first next name = next name ∙ ap (λ m. m or_else g name) (first name) ∙ or_else_assoc (meaning_in old name) (f name) (g name)

-- and in a loop that goes up
pub Adds-below : {D : Type 0} (into : D → Meaning) (old mid new : List (List ℕ × Meaning)) (f : List ℕ → ℕ → Option D) (at : ℕ)
    → Adds old mid (λ name. option_map into (first_below at (f name))) → Adds mid new (λ name. option_map into (f name at))
    → Adds old new (λ name. option_map into (first_below (at + 1) (f name)))
Adds-below into old mid new f at before step name =
    Adds-both old mid new (λ n. option_map into (first_below at (f n))) (λ n. option_map into (f n at)) before step name
    ∙ ap (λ m. meaning_in old name or_else m) (sym (option_map-or_else into (first_below at (f name)) (f name at)) ∙ rw add-one refl)

-- the name of an import is added
pub Adds-import : (old new : List (List ℕ × Meaning)) (wanted : Wanted) (at : ℕ) → new ≡ added old (import_name_at wanted at) (Imported at)
    → Adds old new (λ name. option_map Imported (where_true (same name (import_name_at wanted at)) at))
Adds-import old new wanted at e name =
    let other = import_name_at wanted at in
    ap (λ names. meaning_in names name) e ∙ meaning_in-added old name other (Imported at) ∙ ap (λ m. meaning_in old name or_else m) (sym (option_map-where_true Imported (same name other) at))

-- the borrowed name of an import is the import's
pub borrowed_name : (import : Option Import) (name : List ℕ) → IsSomeAnd import (λ one. name ≡ one.name) → name ≡ name_of import
borrowed_name None name is = absurd is
borrowed_name (Some one) name is = is
