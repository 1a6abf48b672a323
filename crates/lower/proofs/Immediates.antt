-- The immediates of words, and what can be lowered with them.
use Rattle.std.proofs.Common.{ℕ, ◌^◌, ◌<◌, ◌≤◌, ℤ, pos, negsuc, arith}
use Rattle.numbers.specs.Words.{word_of}
use Rattle.rv_decode.specs.declared.ops.AluImm.{AluImm}
use Rattle.rv_decode.specs.declared.ops.AluImm.TheVariants.{Addi, Slti, Sltiu, Xori, Ori, Andi, Slli, Srli, Srai, Addiw, Slliw, Srliw, Sraiw}
use Rattle.rv_decode.specs.declared.ops.RvOp.TheVariants as rv
use Rattle.rv_decode.specs.Operations.{IsSigned, IsAmount, IsImmediate}
use Rattle.lower.specs.Laws.{WordsAreLowerable}
use Rattle.lift_blocks.specs.Fits.{IsOperand}

-- an immediate is a word
pub word_fits : (imm : ℤ) → IsSigned 32 imm → word_of imm < 2 ^ 64
word_fits (pos n) h = omega arith
word_fits (negsuc n) h = omega arith

-- an immediate of 12 bits has 32
pub wider : (imm : ℤ) → IsSigned 12 imm → IsSigned 32 imm
wider (pos n) h = omega arith
wider (negsuc n) h = omega arith

-- the immediate of a word can be lowered
immediate_is_operand : (op : AluImm) (imm : ℤ) → IsImmediate op imm → IsOperand op imm
immediate_is_operand Addi imm h = wider imm h
immediate_is_operand Slti imm h = wider imm h
immediate_is_operand Sltiu imm h = wider imm h
immediate_is_operand Xori imm h = wider imm h
immediate_is_operand Ori imm h = wider imm h
immediate_is_operand Andi imm h = wider imm h
immediate_is_operand Slli imm h = h
immediate_is_operand Srli imm h = h
immediate_is_operand Srai imm h = h
immediate_is_operand Addiw imm h = wider imm h
immediate_is_operand Slliw imm h = h
immediate_is_operand Srliw imm h = h
immediate_is_operand Sraiw imm h = h

-- and so what can be lowered has an immediate of 32 bits
amount_is_signed : (bits : ℕ) (imm : ℤ) → bits ≤ 64 → IsAmount bits imm → IsSigned 32 imm
amount_is_signed bits (pos n) le h = omega arith
amount_is_signed bits (negsuc n) le h = absurd h

pub operand_is_signed : (op : AluImm) (imm : ℤ) → IsOperand op imm → IsSigned 32 imm
operand_is_signed Addi imm h = h
operand_is_signed Slti imm h = h
operand_is_signed Sltiu imm h = h
operand_is_signed Xori imm h = h
operand_is_signed Ori imm h = h
operand_is_signed Andi imm h = h
operand_is_signed Slli imm h = amount_is_signed 64 imm (omega arith) h
operand_is_signed Srli imm h = amount_is_signed 64 imm (omega arith) h
operand_is_signed Srai imm h = amount_is_signed 64 imm (omega arith) h
operand_is_signed Addiw imm h = h
operand_is_signed Slliw imm h = amount_is_signed 32 imm (omega arith) h
operand_is_signed Srliw imm h = amount_is_signed 32 imm (omega arith) h
operand_is_signed Sraiw imm h = amount_is_signed 32 imm (omega arith) h

-- a word's operation can be lowered alone, where it is no jump and no branch
pub words_are_lowerable : WordsAreLowerable
words_are_lowerable (rv.Lui rd value) h = (h.0, h.1)
words_are_lowerable (rv.Auipc rd value) h = (h.0, h.1)
words_are_lowerable (rv.Load width rd rs1 imm) h = (h.0, h.1, wider imm h.2)
words_are_lowerable (rv.Store width rs1 rs2 imm) h = (h.0, h.1, wider imm h.2)
words_are_lowerable (rv.OpImm op rd rs1 imm) h = (h.0, h.1, immediate_is_operand op imm h.2)
words_are_lowerable (rv.Op op rd rs1 rs2) h = h
words_are_lowerable rv.Fence h = tt
words_are_lowerable rv.Trap h = tt
words_are_lowerable op h = tt
