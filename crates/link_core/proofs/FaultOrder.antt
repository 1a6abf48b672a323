-- The first fault of a link, from those of its phases in their order.
use Rattle.std.proofs.Common.{◌≡◌, ℕ, ◌^◌, ◌<◌, List, [], ◌++◌, Some, None, refl, sym, ap, ◌∙◌, subst, inl, inr, arith, length}
use Rattle.std.specs.Prelude.{Result, MatchResult}
use Rattle.std.specs.List.{filter_map}
use Rattle.faults.specs.First.{◌or_else◌}
use Rattle.faults.specs.Present.{first_in}
use Rattle.faults.proofs.Heads.{first_in-append, none_in}
use Rattle.elf_objects.specs.declared.fault.Fault.{Fault}
use Rattle.elf_objects.specs.Objects.{Object}
use Rattle.elf_objects.specs.Reading.{object_of}
use Rattle.symbols.specs.Wanted.{Wanted, Given}
use Rattle.symbols.specs.Faults.{symbol_faults, Refuses as SymbolsRefuse}
use Rattle.symbols.specs.declared.fault.SymbolFault.{SymbolFault}
use Rattle.symbols.specs.declared.fault.SymbolFault.TheVariants as symbol
use Rattle.layout.specs.declared.fault.LayoutFault.{LayoutFault}
use Rattle.layout.specs.declared.fault.LayoutFault.TheVariants as layout
use Rattle.layout.specs.Faults.{whole, layout_faults, Refuses as LayoutRefuses}
use Rattle.relocs.specs.CodeFaults.{code_faults}
use Rattle.relocs.specs.Data.{data_faults}
use Rattle.relocs.specs.Images.{Refuses as DataRefuses}
use Rattle.relocs.specs.declared.fault.RelocFault.{RelocFault}
use Rattle.relocs.specs.declared.fault.RelocFault.TheVariants as relocated
use Rattle.lift_blocks.specs.Listed.{Lifted, IsLifted}
use Rattle.lift_blocks.specs.Laws.{LiftedIsOne}
use Rattle.lift_blocks.specs.Kept.{Refuses as CodeRefuses}
use Rattle.lift_blocks.specs.declared.fault.LiftFault.{LiftFault}
use Rattle.lift_blocks.specs.declared.fault.LiftFault.TheVariants as lifting
use Rattle.lower.specs.Lowering.{lowered_blocks}
use Rattle.pvm_ops.specs.BlockList.{BlockList}
use Rattle.jump_table.specs.Assembly.{code_of}
use Rattle.jump_table.specs.Lengths.{IsWide}
use Rattle.jump_table.specs.Assembling.{Assembles, AssembledCode, IsTooLarge as BlocksAreTooLarge}
use Rattle.link_core.specs.Faults.{object_faults, input_of, content_faults, given_faults, IsTooLarge, HasNone, IsFirst, HasNoFault, HasFirstFault, Refuses}
use Rattle.link_core.specs.Linked.{Linked, HoldsLinked}
use Rattle.link_core.specs.LinkFaults.{of_symbols, of_layout, of_code, of_data}
use Rattle.link_core.specs.declared.link_fault.LinkFault.{LinkFault}
use Rattle.link_core.specs.declared.link_fault.LinkFault.TheVariants.{Bad, Memory}

-- the first fault of an earlier phase is the first of all
first_before : (earlier later : List Fault) (fault : Fault) → first_in earlier ≡ Some fault → first_in (earlier ++ later) ≡ Some fault
first_before earlier later fault e = first_in-append earlier later ∙ ap (λ x. x or_else first_in later) e

pub refused_before : (earlier later : List Fault) (given : Given) (fault : LinkFault) → Refuses (λ f. first_in earlier ≡ Some f) fault → Refuses (IsFirst (earlier ++ later) given) fault
refused_before earlier later given (Bad fault) first = inl (first_before earlier later fault first)
refused_before earlier later given Memory first = tt

-- where the earlier phases have no fault, what holds of the later ones holds of all
pub none_before : {T : Type 0} (Q : T → Type 0) (earlier later : List Fault) (given : Given) (result : Result T LinkFault) → earlier ≡ []
    → MatchResult result (λ x. HasNone later given × Q x) (Refuses (IsFirst later given)) → MatchResult result (λ x. HasNone (earlier ++ later) given × Q x) (Refuses (IsFirst (earlier ++ later) given))
none_before Q earlier later given result none holds = rw none holds

-- the first fault of symbols, as that of the link
pub symbols_refused : (given : Given) (fault : SymbolFault) → SymbolsRefuse fault (symbol_faults given) → Refuses (λ f. first_in (symbol_faults given) ≡ Some f) (of_symbols fault)
symbols_refused given (symbol.Bad fault) first = first
symbols_refused given symbol.Memory first = tt

-- that of the layout, of code and of data
pub layout_refused : (given : Given) (fault : LayoutFault) → LayoutRefuses given fault → Refuses (λ f. first_in (layout_faults given) ≡ Some f) (of_layout fault)
layout_refused given (layout.Bad fault) first = first
layout_refused given layout.Memory first = tt

code_refused : (given : Given) (fault : LiftFault) → CodeRefuses given fault → Refuses (λ f. first_in (code_faults given) ≡ Some f) (of_code fault)
code_refused given (lifting.Bad fault) first = first
code_refused given lifting.Memory first = tt

data_refused : (given : Given) (fault : RelocFault) → DataRefuses given fault → Refuses (λ f. first_in (data_faults given) ≡ Some f) (of_data fault)
data_refused given (relocated.Bad fault) first = first
data_refused given relocated.Memory first = tt

pub layout_first : (given : Given) (fault : LinkFault) → symbol_faults given ≡ [] → Refuses (λ f. first_in (layout_faults given) ≡ Some f) fault → Refuses (IsFirst (given_faults given) given) fault
layout_first given fault none first = rw none (refused_before (layout_faults given) (content_faults given) given fault first)

module _ (given : Given) where
  -- of what the sections hold a fault of code is refused first
  pub code_first : (fault : LiftFault) → CodeRefuses given fault → Refuses (IsFirst (content_faults given) given) (of_code fault)
  code_first fault refused = refused_before (code_faults given) (data_faults given) given (of_code fault) (code_refused given fault refused)

  -- then one of data
  pub data_first : (fault : RelocFault) → code_faults given ≡ [] → DataRefuses given fault → Refuses (IsFirst (content_faults given) given) (of_data fault)
  data_first fault code refused = rw code (data_refused_first (of_data fault) (data_refused given fault refused))
    where
      data_refused_first : (fault : LinkFault) → Refuses (λ f. first_in (data_faults given) ≡ Some f) fault → Refuses (IsFirst (data_faults given) given) fault
      data_refused_first (Bad fault) first = inl first
      data_refused_first Memory first = tt

  none_listed : code_faults given ≡ [] → data_faults given ≡ [] → content_faults given ≡ []
  none_listed code in_data = rw (code, in_data) refl

  module _ (lifted : Lifted) (is_lifted : IsLifted given lifted) where
    -- and then too large a program
    pub size_first : (fault : Fault) → code_faults given ≡ [] → data_faults given ≡ [] → BlocksAreTooLarge (lowered_blocks lifted) → fault ≡ whole 32 → IsFirst (content_faults given) given fault
    size_first fault code in_data large is =
        inr (record {
          none_listed = none_listed code in_data;
          large = record { lifted = lifted; is_lifted = is_lifted; large = large };
          is = is;
        })

    pub size_refused : (list : BlockList) (fault : LinkFault) → list ≡ lowered_blocks lifted → code_faults given ≡ [] → data_faults given ≡ []
        → Refuses (λ f. BlocksAreTooLarge list × (f ≡ whole 32)) fault → Refuses (IsFirst (content_faults given) given) fault
    size_refused list (Bad fault) e code in_data refused = size_first fault code in_data (subst BlocksAreTooLarge e refused.0) refused.1
    size_refused list Memory e code in_data refused = tt

    -- a program that is written is not too large
    not_too_large : LiftedIsOne → (program : AssembledCode) → Assembles (lowered_blocks lifted) program → ¬ IsTooLarge given
    not_too_large lifted_is_one program assembled = λ (too : IsTooLarge given).
        let same : too.lifted ≡ lifted = lifted_is_one given too.lifted lifted too.is_lifted is_lifted in
        let wide : IsWide (lowered_blocks too.lifted) assembled.lengths = subst (λ l. IsWide (lowered_blocks l) assembled.lengths) (sym same) assembled.are_lengths.wide in
        let size : length (code_of assembled.lengths (lowered_blocks too.lifted)).bytes ≡ length program.code.bytes =
        ap (λ l. length (code_of assembled.lengths (lowered_blocks l)).bytes) same ∙ sym (ap (λ c. length c.bytes) assembled.code) in
        absurd (omega (arith, too.large assembled.lengths wide, size, assembled.size))

    pub has_none : LiftedIsOne → (program : AssembledCode) → code_faults given ≡ [] → data_faults given ≡ [] → Assembles (lowered_blocks lifted) program → HasNone (content_faults given) given
    has_none lifted_is_one program code in_data assembled = record { none_listed = none_listed code in_data; small = not_too_large lifted_is_one program assembled }

-- where symbols and the layout have no fault, what holds of the sections' content holds of all
pub content_last : (given i : Given) (result : Result Linked LinkFault) → i ≡ given → symbol_faults given ≡ [] → layout_faults given ≡ []
    → MatchResult result (λ l. HasNone (content_faults i) i × HoldsLinked i l) (Refuses (IsFirst (content_faults i) i))
    → MatchResult result (λ l. HasNone (given_faults given) given × HoldsLinked given l) (Refuses (IsFirst (given_faults given) given))
content_last given i result e none lockstep holds =
    none_before (HoldsLinked given) (symbol_faults given) (layout_faults given ++ content_faults given) given result none
    (none_before (HoldsLinked given) (layout_faults given) (content_faults given) given result lockstep
    (subst (λ g. MatchResult result (λ l. HasNone (content_faults g) g × HoldsLinked g l) (Refuses (IsFirst (content_faults g) g))) e holds))

-- the given of objects and wanted names
abbrev pub given_with : List Object → Wanted → Given
given_with objects wanted = record { objects = objects; wanted = wanted }

-- the first fault of the objects is that of the link
pub object_first : (files : List (List ℕ)) (wanted : Wanted) (fault : LinkFault) → Refuses (λ f. first_in (object_faults files) ≡ Some f) fault → Refuses (HasFirstFault files wanted) fault
unfolding HasFirstFault
object_first files wanted fault first = refused_before (object_faults files) (given_faults (input_of files wanted)) (input_of files wanted) fault first

-- where files have no fault, what holds of their objects holds of them
pub objects_last : (files : List (List ℕ)) (wanted : Wanted) (objects : List Object) (result : Result Linked LinkFault) → objects ≡ filter_map object_of files → object_faults files ≡ []
    → MatchResult result (λ l. HasNone (given_faults (given_with objects wanted)) (given_with objects wanted) × HoldsLinked (given_with objects wanted) l) (Refuses (IsFirst (given_faults (given_with objects wanted)) (given_with objects wanted)))
    → MatchResult result (λ l. HasNoFault files wanted × HoldsLinked (input_of files wanted) l) (Refuses (HasFirstFault files wanted))
unfolding HasNoFault HasFirstFault
objects_last files wanted objects result e none holds =
    none_before (HoldsLinked (input_of files wanted)) (object_faults files) (given_faults (input_of files wanted)) (input_of files wanted) result none
    (subst (λ os. MatchResult result (λ l. HasNone (given_faults (given_with os wanted)) (given_with os wanted) × HoldsLinked (given_with os wanted) l) (Refuses (IsFirst (given_faults (given_with os wanted)) (given_with os wanted)))) e holds)
