-- The words of a generated text: one of eight instructions on a2 to a5 each, chosen by a generator of random numbers.
use Rattle.std.specs.Prelude.{ℕ, ◌+◌, ◌*◌, ◌%◌, ◌^◌, ◌==◌, if◌then◌else◌}
use Rattle.numbers.specs.Words.{field}

-- the number after one, of a linear congruential generator modulo 2^64
abbrev pub next : ℕ → ℕ
next x = (x * 6364136223846793005 + 1442695040888963407) % 2 ^ 64

-- an instruction of two registers, and of a register and an immediate (RISC-V unprivileged manual, base instruction formats)
abbrev pub r_type : ℕ → ℕ → ℕ → ℕ → ℕ → ℕ
r_type funct7 funct3 rd rs1 rs2 = funct7 * 2 ^ 25 + rs2 * 2 ^ 20 + rs1 * 2 ^ 15 + funct3 * 2 ^ 12 + rd * 2 ^ 7 + 51

abbrev pub i_type : ℕ → ℕ → ℕ → ℕ → ℕ → ℕ
i_type opcode funct3 rd rs1 immediate = immediate * 2 ^ 20 + rs1 * 2 ^ 15 + funct3 * 2 ^ 12 + rd * 2 ^ 7 + opcode

-- The instruction of a kind from 0 to 7 with these registers and this immediate: addi, add, sub, xor, mul, sltu, srliw, divu.
unfoldable pub instruction : ℕ → ℕ → ℕ → ℕ → ℕ → ℕ
instruction kind rd rs1 rs2 immediate =
    if kind == 0 then i_type 19 0 rd rs1 immediate
    else (if kind == 1 then r_type 0 0 rd rs1 rs2
    else (if kind == 2 then r_type 32 0 rd rs1 rs2
    else (if kind == 3 then r_type 0 4 rd rs1 rs2
    else (if kind == 4 then r_type 1 0 rd rs1 rs2
    else (if kind == 5 then r_type 0 3 rd rs1 rs2
    else (if kind == 6 then i_type 27 5 rd rs1 (immediate % 32)
    else r_type 1 5 rd rs1 rs2))))))

-- one of the registers a2 to a5, which are x12 to x15
abbrev pub register : ℕ → ℕ
register number = 12 + number

-- the word that a number of the generator chooses
abbrev pub word_of : ℕ → ℕ
word_of x = instruction (field 33 3 x) (register (field 36 2 x)) (register (field 38 2 x)) (register (field 40 2 x)) (field 42 11 x)

-- the return to the caller, `jalr x0, 0(ra)`
abbrev pub return_word : ℕ
return_word = 32871
