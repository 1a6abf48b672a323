-- The operations of words that need nothing else and have no relocation.
use Rattle.std.proofs.Common.{◌≡◌, ℕ, ◌+◌, true, false, List, [], Option, Some, None, ℤ, refl, sym, ap, ◌∙◌, subst}
use Rattle.std.specs.Prelude.{IfSome}
use Rattle.rv_decode.specs.declared.ops.RvOp.{RvOp}
use Rattle.rv_decode.specs.declared.ops.RvOp.TheVariants as rv
use Rattle.rv_decode.specs.Operations.{IsOp}
use Rattle.symbols.specs.Wanted.{Given}
use Rattle.relocs.specs.declared.operand.Operand.TheVariants.{Nothing}
use Rattle.relocs.specs.AddressMap.{needed_places}
use Rattle.relocs.specs.Operands.{holds_auipc}
use Rattle.relocs.specs.Pairs.{relocations_at}
use Rattle.relocs.specs.Places.{CodePlace, Code}
use Rattle.relocs.specs.Words.{raw_at}
use Rattle.lift_blocks.specs.FirstFault.{is_alone}
use Rattle.lift_blocks.specs.Fits.{PlainFits}
use Rattle.lift_blocks.specs.Operations.{Plain, placed_op, operation_in, operation_at, target_from}
use Rattle.lift_blocks.proofs.CodeRoom.{raw_is_op}
use Rattle.lift_blocks.proofs.Linking.{no_pair_at}
use Rattle.lift_blocks.proofs.PlainRows.{plain_fits}

alone_placed : (needed : List CodePlace) (next : CodePlace) (aim : ℤ → CodePlace) (op : RvOp) → is_alone (Some op) ≡ true → placed_op needed next aim Nothing op ≡ Plain op
alone_placed needed next aim (rv.Lui rd value) e = refl
alone_placed needed next aim (rv.Auipc rd value) e = absurd cc
alone_placed needed next aim (rv.Jal rd offset) e = absurd cc
alone_placed needed next aim (rv.Jalr rd rs1 imm) e = absurd cc
alone_placed needed next aim (rv.Branch cond rs1 rs2 offset) e = absurd cc
alone_placed needed next aim (rv.Load width rd rs1 imm) e = refl
alone_placed needed next aim (rv.Store width rs1 rs2 imm) e = refl
alone_placed needed next aim (rv.OpImm op rd rs1 imm) e = refl
alone_placed needed next aim (rv.Op op rd rs1 rs2) e = refl
alone_placed needed next aim rv.Fence e = refl
alone_placed needed next aim rv.Trap e = refl

alone_fits : (op : RvOp) → is_alone (Some op) ≡ true → IsOp op → PlainFits op
alone_fits (rv.Lui rd value) e i = plain_fits (rv.Lui rd value) Nothing refl i tt
alone_fits (rv.Auipc rd value) e i = absurd cc
alone_fits (rv.Jal rd offset) e i = absurd cc
alone_fits (rv.Jalr rd rs1 imm) e i = absurd cc
alone_fits (rv.Branch cond rs1 rs2 offset) e i = absurd cc
alone_fits (rv.Load width rd rs1 imm) e i = plain_fits (rv.Load width rd rs1 imm) Nothing refl i tt
alone_fits (rv.Store width rs1 rs2 imm) e i = plain_fits (rv.Store width rs1 rs2 imm) Nothing refl i tt
alone_fits (rv.OpImm op rd rs1 imm) e i = plain_fits (rv.OpImm op rd rs1 imm) Nothing refl i tt
alone_fits (rv.Op op rd rs1 rs2) e i = i
alone_fits rv.Fence e i = tt
alone_fits rv.Trap e i = tt

alone_auipc : (op : Option RvOp) → is_alone op ≡ true → holds_auipc op ≡ false
alone_auipc None e = absurd cc
alone_auipc (Some (rv.Lui rd value)) e = refl
alone_auipc (Some (rv.Auipc rd value)) e = absurd cc
alone_auipc (Some (rv.Jal rd offset)) e = absurd cc
alone_auipc (Some (rv.Jalr rd rs1 imm)) e = absurd cc
alone_auipc (Some (rv.Branch cond rs1 rs2 offset)) e = absurd cc
alone_auipc (Some (rv.Load width rd rs1 imm)) e = refl
alone_auipc (Some (rv.Store width rs1 rs2 imm)) e = refl
alone_auipc (Some (rv.OpImm op rd rs1 imm)) e = refl
alone_auipc (Some (rv.Op op rd rs1 rs2)) e = refl
alone_auipc (Some rv.Fence) e = refl
alone_auipc (Some rv.Trap) e = refl

-- the operation at a place of such a word is the word's
pub plain_is : (given : Given) (o s f : ℕ) (op : RvOp) → raw_at given (Code o s f) ≡ Some op → is_alone (Some op) ≡ true → relocations_at given o s f ≡ [] → operation_at given (Code o s f) ≡ Some (Plain op)
unfolding operation_in
plain_is given o s f op raw alone none =
    let no_pair = no_pair_at given o s f (alone_auipc (raw_at given (Code o s f)) (ap is_alone raw ∙ alone)) in
    let next = Code o s (f + 4) in
    rw (none, no_pair, raw) (ap Some (alone_placed (needed_places given) next (target_from given o s f Nothing) op alone))

pub plain_value : (given : Given) (o s f : ℕ) (op : Option RvOp) → op ≡ raw_at given (Code o s f) → is_alone op ≡ true → relocations_at given o s f ≡ [] → IfSome op (λ op. operation_at given (Code o s f) ≡ Some (Plain op))
plain_value given o s f None raw alone none = tt
plain_value given o s f (Some op) raw alone none = plain_is given o s f op (sym raw) alone none

pub plain_fits_in : (given : Given) (o s f : ℕ) (op : Option RvOp) → op ≡ raw_at given (Code o s f) → is_alone op ≡ true → IfSome op PlainFits
plain_fits_in given o s f None raw alone = tt
plain_fits_in given o s f (Some op) raw alone = alone_fits op alone (subst (λ x. IfSome x IsOp) (sym raw) (raw_is_op given o s f))

pub ruleset plain_words = (plain_value, plain_fits_in)
