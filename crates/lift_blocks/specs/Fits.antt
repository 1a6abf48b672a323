-- Operations that instructions of the PVM can hold: with its registers, and with immediates and links of their sizes.
use Rattle.std.specs.Prelude.{ℕ, ◌<◌, ◌^◌, ℤ}
use Rattle.rv_decode.specs.declared.ops.Reg.{Reg}
use Rattle.rv_decode.specs.declared.ops.Reg.TheVariants.{Zero, R}
use Rattle.rv_decode.specs.declared.ops.AluImm.{AluImm}
use Rattle.rv_decode.specs.declared.ops.AluImm.TheVariants.{Slli, Srli, Srai, Slliw, Srliw, Sraiw}
use Rattle.rv_decode.specs.declared.ops.RvOp.{RvOp}
use Rattle.rv_decode.specs.declared.ops.RvOp.TheVariants as rv
use Rattle.rv_decode.specs.Operations.{IsReg, IsWritten, IsSigned, IsAmount}
use Rattle.lift_blocks.specs.Operations.{Operation, Plain, Branch, Jal, Jalr, Pair, HostCall, Sbrk}

-- an immediate of 32 bits, or an amount to shift by
abbrev pub IsOperand : AluImm → ℤ → Type 0
IsOperand Slli imm = IsAmount 64 imm
IsOperand Srli imm = IsAmount 64 imm
IsOperand Srai imm = IsAmount 64 imm
IsOperand Slliw imm = IsAmount 32 imm
IsOperand Srliw imm = IsAmount 32 imm
IsOperand Sraiw imm = IsAmount 32 imm
IsOperand op imm = IsSigned 32 imm

-- an operation that is no jump and no branch, with immediates of 32 bits, as relocations leave them
abbrev pub PlainFits : RvOp → Type 0
PlainFits (rv.Lui rd value) = IsReg rd × IsSigned 32 value
PlainFits (rv.Auipc rd value) = IsReg rd × IsSigned 32 value
PlainFits (rv.Load width rd rs1 imm) = IsWritten rd × IsReg rs1 × IsSigned 32 imm
PlainFits (rv.Store width rs1 rs2 imm) = IsReg rs1 × IsReg rs2 × IsSigned 32 imm
PlainFits (rv.OpImm op rd rs1 imm) = IsReg rd × IsReg rs1 × IsOperand op imm
PlainFits (rv.Op op rd rs1 rs2) = IsReg rd × IsReg rs1 × IsReg rs2
PlainFits rv.Fence = Unit {0}
PlainFits rv.Trap = Unit {0}
PlainFits op = ⊥

-- a link of 31 bits, if there is one
abbrev pub IsLink : Reg → ℕ → Type 0
IsLink Zero link = Unit {0}
IsLink (R d) link = link < 2 ^ 31

-- an operation that instructions can hold; a jalr on x0 has the 12 bits of its word
abbrev pub FitsInstructions : {Target : Type 0} → Operation Target → Type 0
FitsInstructions (Plain op) = PlainFits op
FitsInstructions (Branch cond rs1 rs2 target) = IsReg rs1 × IsReg rs2
FitsInstructions (Jal rd link target) = IsReg rd × IsLink rd link
FitsInstructions (Jalr rd Zero imm link) = IsReg rd × IsSigned 12 imm × IsLink rd link
FitsInstructions (Jalr rd (R a) imm link) = IsReg rd × (a < 13) × IsSigned 32 imm × IsLink rd link
FitsInstructions (Pair temp rd link target) = IsReg temp × IsReg rd × IsLink rd link
FitsInstructions (HostCall number) = number < 2 ^ 31
FitsInstructions Sbrk = Unit {0}
