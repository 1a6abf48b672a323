-- Which operations keep no place in a register.
use Rattle.std.proofs.Common.{◌≡◌, ℕ, ◌+◌, Bool, false, Option, Some, None, refl}
use Rattle.std.specs.Prelude.{◌&&◌}
use Rattle.rv_decode.specs.declared.ops.RvOp.{RvOp}
use Rattle.rv_decode.specs.declared.ops.RvOp.TheVariants as rv
use Rattle.symbols.specs.Wanted.{Given}
use Rattle.relocs.specs.AddressMap.{link_of, link_at}
use Rattle.relocs.specs.Operands.{holds_auipc}
use Rattle.relocs.specs.Pairs.{joins, is_pair_at}
use Rattle.relocs.specs.Places.{CodePlace, Code}
use Rattle.relocs.specs.Words.{raw_at}
use Rattle.lift_blocks.specs.CodeList.{may_link}

no_pair : (op second : Option RvOp) (bare call : Bool) → may_link op ≡ false → ((joins op second && bare) && call) ≡ false
no_pair None second bare call e = refl
no_pair (Some (rv.Auipc rd value)) second bare call e = absurd cc
no_pair (Some (rv.Lui rd value)) second bare call e = refl
no_pair (Some (rv.Jal rd offset)) second bare call e = refl
no_pair (Some (rv.Jalr rd rs1 imm)) second bare call e = refl
no_pair (Some (rv.Branch c rs1 rs2 offset)) second bare call e = refl
no_pair (Some (rv.Load w rd rs1 imm)) second bare call e = refl
no_pair (Some (rv.Store w rs1 rs2 imm)) second bare call e = refl
no_pair (Some (rv.OpImm op rd rs1 imm)) second bare call e = refl
no_pair (Some (rv.Op op rd rs1 rs2)) second bare call e = refl
no_pair (Some rv.Fence) second bare call e = refl
no_pair (Some rv.Trap) second bare call e = refl

no_link_of : (next : CodePlace) (op : Option RvOp) → may_link op ≡ false → link_of next op ≡ None
no_link_of next None e = refl
no_link_of next (Some (rv.Jal rd offset)) e = absurd cc
no_link_of next (Some (rv.Jalr rd rs1 imm)) e = absurd cc
no_link_of next (Some (rv.Lui rd value)) e = refl
no_link_of next (Some (rv.Auipc rd value)) e = refl
no_link_of next (Some (rv.Branch c rs1 rs2 offset)) e = refl
no_link_of next (Some (rv.Load w rd rs1 imm)) e = refl
no_link_of next (Some (rv.Store w rs1 rs2 imm)) e = refl
no_link_of next (Some (rv.OpImm op rd rs1 imm)) e = refl
no_link_of next (Some (rv.Op op rd rs1 rs2)) e = refl
no_link_of next (Some rv.Fence) e = refl
no_link_of next (Some rv.Trap) e = refl

-- an operation that may keep none, with which no pair begins, keeps none
pub no_link : (given : Given) (o s offset : ℕ) → may_link (raw_at given (Code o s offset)) ≡ false → link_at given (Code o s offset) ≡ None
unfolding is_pair_at
no_link given o s offset e =
    let alone : is_pair_at given o s offset ≡ false = no_pair (raw_at given (Code o s offset)) (raw_at given (Code o s (offset + 4))) _ _ e in
    rw alone (no_link_of (Code o s (offset + 4)) (raw_at given (Code o s offset)) e)

no_auipc : (op second : Option RvOp) (bare call : Bool) → holds_auipc op ≡ false → ((joins op second && bare) && call) ≡ false
no_auipc None second bare call e = refl
no_auipc (Some (rv.Auipc rd value)) second bare call e = absurd cc
no_auipc (Some (rv.Lui rd value)) second bare call e = refl
no_auipc (Some (rv.Jal rd offset)) second bare call e = refl
no_auipc (Some (rv.Jalr rd rs1 imm)) second bare call e = refl
no_auipc (Some (rv.Branch c rs1 rs2 offset)) second bare call e = refl
no_auipc (Some (rv.Load w rd rs1 imm)) second bare call e = refl
no_auipc (Some (rv.Store w rs1 rs2 imm)) second bare call e = refl
no_auipc (Some (rv.OpImm op rd rs1 imm)) second bare call e = refl
no_auipc (Some (rv.Op op rd rs1 rs2)) second bare call e = refl
no_auipc (Some rv.Fence) second bare call e = refl
no_auipc (Some rv.Trap) second bare call e = refl

-- a pair begins with an auipc
pub no_pair_at : (given : Given) (o s offset : ℕ) → holds_auipc (raw_at given (Code o s offset)) ≡ false → is_pair_at given o s offset ≡ false
unfolding is_pair_at
no_pair_at given o s offset e = no_auipc (raw_at given (Code o s offset)) (raw_at given (Code o s (offset + 4))) _ _ e
