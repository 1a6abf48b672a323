-- Words with the values of their relocations, which instructions can hold.
use Rattle.std.proofs.Common.{◌≡◌, true, ℤ, pos, negsuc, arith}
use Rattle.rv_decode.specs.declared.ops.AluImm.{AluImm}
use Rattle.rv_decode.specs.declared.ops.AluImm.TheVariants.{Addi, Slti, Sltiu, Xori, Ori, Andi, Slli, Srli, Srai, Addiw, Slliw, Srliw, Sraiw}
use Rattle.rv_decode.specs.declared.ops.RvOp.{RvOp}
use Rattle.rv_decode.specs.declared.ops.RvOp.TheVariants as rv
use Rattle.rv_decode.specs.Operations.{IsSigned, IsImmediate, IsOp}
use Rattle.relocs.specs.declared.operand.Operand.{Operand}
use Rattle.relocs.specs.declared.operand.Operand.TheVariants.{Nothing, Value, Target}
use Rattle.relocs.specs.Kinds.{is_addition}
use Rattle.lift_blocks.specs.Fits.{IsOperand, PlainFits}
use Rattle.lift_blocks.specs.Operations.{value_or, upper_or}
use Rattle.lift_blocks.specs.PlacedOps.{is_plain, with_operand, HasBits, HasUpper, HasAddend, CanTake}
use Rattle.lift_blocks.proofs.Relocated.{upper_signed}

-- a number of 12 bits has 32
pub wider : (v : ℤ) → IsSigned 12 v → IsSigned 32 v
wider (pos n) h = omega (arith, h)
wider (negsuc n) h = omega (arith, h)

pub bits_or : (operand : Operand) (own : ℤ) → HasBits 12 operand → IsSigned 12 own → IsSigned 32 (value_or operand own)
bits_or Nothing own h i = wider own i
bits_or (Value v) own h i = wider v h
bits_or (Target place) own h i = wider own i

wide_or : (operand : Operand) (own : ℤ) → HasBits 32 operand → IsSigned 32 own → IsSigned 32 (value_or operand own)
wide_or Nothing own h i = i
wide_or (Value v) own h i = h
wide_or (Target place) own h i = i

upper_fits : (operand : Operand) (own : ℤ) → HasUpper operand → IsSigned 32 own → IsSigned 32 (upper_or operand own)
upper_fits Nothing own h i = i
upper_fits (Value v) own h i = upper_signed v h
upper_fits (Target place) own h i = i

own_immediate : (op : AluImm) (imm : ℤ) → IsImmediate op imm → IsOperand op imm
own_immediate Addi imm h = wider imm h
own_immediate Slti imm h = wider imm h
own_immediate Sltiu imm h = wider imm h
own_immediate Xori imm h = wider imm h
own_immediate Ori imm h = wider imm h
own_immediate Andi imm h = wider imm h
own_immediate Slli imm h = h
own_immediate Srli imm h = h
own_immediate Srai imm h = h
own_immediate Addiw imm h = wider imm h
own_immediate Slliw imm h = h
own_immediate Srliw imm h = h
own_immediate Sraiw imm h = h

added : (op : AluImm) (v : ℤ) → is_addition op ≡ true → IsSigned 12 v → IsOperand op v
added Addi v e h = wider v h
added Addiw v e h = wider v h
added op v e h = absurd cc

addend_or : (op : AluImm) (operand : Operand) (imm : ℤ) → HasAddend op operand → IsImmediate op imm → IsOperand op (value_or operand imm)
addend_or op Nothing imm h i = own_immediate op imm i
addend_or op (Value v) imm h i = added op v h.0 h.1
addend_or op (Target place) imm h i = own_immediate op imm i

-- a value that is added has 12 bits
pub addend_bits : (op : AluImm) (operand : Operand) → HasAddend op operand → HasBits 12 operand
addend_bits op Nothing h = tt
addend_bits op (Value v) h = h.1
addend_bits op (Target place) h = tt

pub plain_fits : (op : RvOp) (operand : Operand) → is_plain op ≡ true → IsOp op → CanTake op operand → PlainFits (with_operand operand op)
plain_fits (rv.Lui rd value) operand e i h = (i.0, wide_or operand value h i.1)
plain_fits (rv.Auipc rd value) operand e i h = (i.0, upper_fits operand value h i.1)
plain_fits (rv.Jal rd offset) operand e i h = absurd cc
plain_fits (rv.Jalr rd rs1 imm) operand e i h = absurd cc
plain_fits (rv.Branch cond rs1 rs2 offset) operand e i h = absurd cc
plain_fits (rv.Load width rd rs1 imm) operand e i h = (i.0, i.1, bits_or operand imm h i.2)
plain_fits (rv.Store width rs1 rs2 imm) operand e i h = (i.0, i.1, bits_or operand imm h i.2)
plain_fits (rv.OpImm op rd rs1 imm) operand e i h = (i.0, i.1, addend_or op operand imm h i.2)
plain_fits (rv.Op op rd rs1 rs2) operand e i h = i
plain_fits rv.Fence operand e i h = tt
plain_fits rv.Trap operand e i h = tt

pub ruleset rows = (plain_fits, addend_bits)
