-- A link has at most one first fault, and none where it has no fault.
use Rattle.std.proofs.Common.{◌≡◌, List, [], Some, None, sym, ap, ◌∙◌, inl, inr}
use Rattle.faults.specs.Present.{first_in}
use Rattle.elf_objects.specs.declared.fault.Fault.{Fault}
use Rattle.symbols.specs.Wanted.{Given}
use Rattle.link_core.specs.Faults.{HasNone, IsFirst}

none_first : {A : Type 0} (listed : List Fault) (fault : Fault) → listed ≡ [] → first_in listed ≡ Some fault → A
none_first listed fault none first = (let absent : first_in listed ≡ None = ap first_in none in absurd cc)

module _ (listed : List Fault) (given : Given) where
  pub one_first : (a b : Fault) → IsFirst listed given a → IsFirst listed given b → a ≡ b
  one_first a b (inl f) (inl g) = cc
  one_first a b (inl f) (inr g) = none_first listed a g.none_listed f
  one_first a b (inr f) (inl g) = none_first listed b f.none_listed g
  one_first a b (inr f) (inr g) = f.is ∙ sym g.is

  pub not_both : (fault : Fault) → HasNone listed given → IsFirst listed given fault → ⊥
  not_both fault none (inl f) = none_first listed fault none.none_listed f
  not_both fault none (inr f) = none.small f.large
