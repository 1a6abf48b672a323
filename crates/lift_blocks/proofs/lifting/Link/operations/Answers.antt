use Rattle.std.proofs.Common.{◌≡◌, ◌∙◌, length, Option, Some, None, IsSome, refl, sym, ap, subst, arith}
use Rattle.std.specs.Prelude.{slice_get}
use Rattle.std.proofs.lemmas.List.{length-map}
use Rattle.faults.proofs.Heads.{none_in}
use Rattle.elf_objects.specs.declared.fault.Fault.{Fault}
use Rattle.symbols.specs.Wanted.{Wanted}
use Rattle.relocs.specs.CodeFaults.{code_faults}
use Rattle.lift_blocks.specs.Kept.{site_of}
use Rattle.lift_blocks.proofs.AllOperations.{few_needed}
use Rattle.lift_blocks.proofs.lifting.Link.operations.Goals as goal

none_is : (o : Option Fault) → ((x : Fault) → o ≡ Some x → ⊥) → o ≡ None
none_is None h = refl
none_is (Some x) h = absurd (h x refl)

pub operations-requires : goal.operations-requires
operations-requires g c = (
  record {
    sources_are = c.new-sources.ensures.sources;
    by_offset = subst IsSome (sym c.new-sources.ensures.tables) refl;
    map_is = c.requires.1.1.1.1;
    wanted_is = c.requires.0.wanted_is;
    hosts_are = λ i one e. c.numbers_are_small.ensures.each i one (ap (λ (w : Wanted). slice_get w.imports i) c.requires.0.wanted_is ∙ e);
    few = omega (arith, few_needed g.given, ap length c.requires.1.1.0.are, length-map c.args.places.now site_of, c.requires.1.1.1.0);
    no_fault = none_in (code_faults g.given) (sym c.in_ok-fault.ensures ∙ none_is c.in_ok-fault.fault c.in_default.not-Some);
  },
  (c.requires.1.1.0.are, record { ascend = c.requires.1.1.0.ascend; few = omega (arith, length-map c.args.places.now site_of, c.requires.1.1.1.0) }),
)
