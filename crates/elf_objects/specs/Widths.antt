-- How many bytes a relocation changes (RISC-V ELF psABI, "Relocations").
use Rattle.std.specs.Prelude.{ℕ, ◌==◌, ◌||◌, if◌then◌else◌}

-- by the number of its type: 8 bytes for a pair of instructions (CALL, CALL_PLT) and for data of 64 bits (64, ADD64,
-- SUB64), none for a mark (NONE, RELAX, ALIGN), 1 and 2 for data of 8 and 16 bits, and 4 for all others
abbrev pub width : ℕ → ℕ
width kind =
    if kind == 18 || kind == 19 || kind == 2 || kind == 36 || kind == 40 then 8 else
    if kind == 0 || kind == 51 || kind == 43 then 0 else
    if kind == 33 || kind == 37 then 1 else
    if kind == 34 || kind == 38 then 2 else 4
