-- The program of a generated object isn't too large.
use Rattle.std.proofs.Common.{◌≡◌, ℕ, zero, suc, ◌*◌, ◌≤◌, List, [], ◌∷◌, length, map, Some, None, refl, sym, ap, ◌∙◌, subst, arith}
use Rattle.std.specs.Prelude.{slice_get}
use Rattle.std.proofs.lemmas.List.{append-nil, length-append}
use Rattle.runs.specs.Joined.{joined}
use Rattle.pvm_ops.specs.declared.instr.Instr.{Instr}
use Rattle.pvm_ops.specs.Spelling.{spelling}
use Rattle.pvm_ops.proofs.Lengths.{length-spelling}
use Rattle.jump_table.specs.Assembly.{Member, members_of, words}
use Rattle.jump_table.specs.Lengths.{IsWide}
use Rattle.jump_table.specs.Assembling.{IsTooLarge as BlocksAreTooLarge}
use Rattle.jump_table.proofs.BlockStarts.{code_size}
use Rattle.lift_blocks.specs.Laws.{LiftedIsOne}
use Rattle.lower.specs.Lowering.{lowered_blocks}
use Rattle.lower.proofs.Lists.{from_map}
use Rattle.link_core.specs.Faults.{IsTooLarge, HasNoFault}
use Rattle.generated_runs.specs.Inputs.{given_of}
use Rattle.generated_runs.specs.Lifted.{lifted}
use Rattle.generated_runs.specs.Program.{instructions, program}
use Rattle.generated_runs.specs.Laws.{GeneratedIsGiven, NothingIsListed, GeneratedIsLifted, GeneratedIsLowered, GeneratedHasNoFault}

-- an instruction has at most 25 bytes
words-small : (len : ℕ) (is : List Instr) → len ≤ 4 → length (joined (words (map (λ i. record { instr = i; len = len; target = None }) is))) ≤ 25 * length is
words-small len [] le = omega arith
words-small len (i ∷ is) le =
    let rest = words-small len is le in
    omega (arith, length-append (spelling i len) (joined (words (map (λ i. record { instr = i; len = len; target = None }) is))), (length-spelling i len le).1)

module _ (seed count : ℕ) where
  -- the instructions, with offsets of no bytes
  pub members-are : (lengths : List ℕ) (len : ℕ) → lengths ≡ len ∷ [] → members_of lengths (program seed count) ≡ map (λ i. record { instr = i; len = len; target = None }) (instructions seed count)
  members-are lengths len is = ap (λ ls. members_of ls (program seed count)) is ∙ append-nil _

  wide : IsWide (program seed count) (0 ∷ [])
  wide = record {
    few = few;
    fits = λ number target m there is.
        (let from = from_map (λ (i : Instr). record { instr = i; len = 0; target = None }) (instructions seed count) number m (ap (λ (ms : List Member). slice_get ms number) (sym (members-are (0 ∷ []) 0 refl)) ∙ there) in
        let none : m.target ≡ None = ap (λ (m : Member). m.target) (sym from.is) in
        absurd cc);
  }
    where
      few : (block len : ℕ) → slice_get (0 ∷ []) block ≡ Some len → len ≤ 4
      few zero len is = (let same : 0 ≡ len = cc in omega (arith, same))
      few (suc block) len is = absurd cc

  small : (lowered_is : GeneratedIsLowered) → count ≤ 1000000 → BlocksAreTooLarge (program seed count) → ⊥
  small lowered_is few large =
      let size = code_size (0 ∷ []) (program seed count) in
      let ms = ap (λ (ms : List Member). length (joined (words ms))) (members-are (0 ∷ []) 0 refl) in
      omega (arith, large (0 ∷ []) wide, size, ms, words-small 0 (instructions seed count) (omega arith), lowered_is.size seed count, few)

  not-too_large : (stack : ℕ) → GeneratedIsLifted → GeneratedIsLowered → LiftedIsOne → count ≤ 1000000 → IsTooLarge (given_of seed count stack) → ⊥
  not-too_large stack is_lifted is_lowered one few too_large =
      let same : too_large.lifted ≡ lifted seed count = one (given_of seed count stack) too_large.lifted (lifted seed count) too_large.is_lifted (is_lifted seed count stack few) in
      small is_lowered few (subst BlocksAreTooLarge (ap lowered_blocks same ∙ is_lowered.program_is seed count) too_large.large)

pub generated-has_no_fault : GeneratedIsGiven → NothingIsListed → GeneratedIsLifted → GeneratedIsLowered → LiftedIsOne → GeneratedHasNoFault
unfolding HasNoFault
generated-has_no_fault given_is unlisted is_lifted is_lowered one seed count stack few = record {
  none_listed = unlisted seed count stack few;
  small = λ too_large. not-too_large seed count stack is_lifted is_lowered one few (subst IsTooLarge (given_is seed count stack few) too_large);
}
