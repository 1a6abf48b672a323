-- The text of a program: a line on its sizes, a line for each instruction, and a line for each entry of its jump table.
use Rattle.std.specs.Prelude.{ℕ, ◌+◌, ◌-◌, List, [], ◌++◌, length, slice_index, if◌then◌else◌, codes, decimal}
use Rattle.std.specs.Fmt.{signed_decimal}
use Rattle.std.specs.List.{slice_range}
use Rattle.faults.specs.Present.{each_below}
use Rattle.numbers.specs.Words.{sum_64}
use Rattle.arithmetic.specs.Words.{signed}
use Rattle.pvm_ops.specs.Listing.{Listing, is_marked, run_before}
use Rattle.pvm_ops.specs.Opcodes.{is_known, form_of, name_of}
use Rattle.pvm_ops.specs.Fetch.{fetch_of}
use Rattle.pvm_ops.specs.declared.forms.Form.{Form}
use Rattle.pvm_ops.specs.declared.forms.Form.TheVariants.{N, X, RE, XY, O, RX, RXY, RXO, RR, RRX, RRO, RRXY, RRR}
use Rattle.pvm_ops.specs.declared.instr.Instr.{Instr}
use Rattle.blob_codec.specs.Grammar.{Program}
use Rattle.disasm.specs.Digits.{hex, hex_digits}

-- a register, as ` r7`
abbrev pub register : ℕ → List ℕ
register n = codes " r" ++ decimal n

-- an immediate, as a signed number
abbrev pub immediate : ℕ → List ℕ
immediate x = codes " " ++ signed_decimal (signed x)

-- the position to which an offset leads from the instruction's own, as a signed number
abbrev pub target : ℕ → ℕ → List ℕ
target at offset = codes " @" ++ signed_decimal (signed (sum_64 at offset))

-- the operands of an instruction by its form: destinations first
abbrev pub operands : Form → ℕ → Instr → List ℕ
operands N at i = []
operands X at i = immediate i.x
operands RE at i = register i.a ++ immediate i.x
operands XY at i = immediate i.x ++ immediate i.y
operands O at i = target at i.x
operands RX at i = register i.a ++ immediate i.x
operands RXY at i = register i.a ++ immediate i.x ++ immediate i.y
operands RXO at i = register i.a ++ immediate i.x ++ target at i.y
operands RR at i = register i.d ++ register i.a
operands RRX at i = register i.a ++ register i.b ++ immediate i.x
operands RRO at i = register i.a ++ register i.b ++ target at i.x
operands RRXY at i = register i.a ++ register i.b ++ immediate i.x ++ immediate i.y
operands RRR at i = register i.d ++ register i.a ++ register i.b

-- the name and the operands of the instruction that is marked at a position
unfoldable pub instruction : Listing → ℕ → List ℕ
instruction code at =
    let op = slice_index code.bytes at in
    if is_known op then codes " " ++ name_of op ++ operands (form_of op) at (fetch_of code at).instr else codes " unknown"

-- the next marked position after one, or the end of the code
unfoldable pub end_of : Listing → ℕ → ℕ
end_of code at = at + 1 + run_before (is_marked code) (at + 1) (length code.bytes - (at + 1))

-- the line of a marked position: itself in eight hexadecimal digits, the bytes up to the next, and the instruction
unfoldable pub line : Listing → ℕ → List ℕ
line code at =
    hex_digits 8 at ++ codes " " ++ hex (slice_range code.bytes at (end_of code at)) ++ (instruction code at ++ codes "\n")

-- the line of a position, where it is marked
abbrev pub line_at : Listing → ℕ → List ℕ
line_at code at = if is_marked code at then line code at else []

-- the line of an entry of the jump table: its number and its position
unfoldable pub entry_line : Program → ℕ → List ℕ
entry_line p entry = codes "table " ++ decimal entry ++ codes " " ++ decimal (slice_index p.table entry) ++ codes "\n"

-- the line on the sizes: how many bytes of code, how many entries, and how many bytes an entry takes
unfoldable pub size_line : Program → List ℕ
size_line p =
    codes "code " ++ decimal (length p.code.bytes)
    ++ codes " table " ++ decimal (length p.table)
    ++ codes " width " ++ decimal p.width
    ++ codes "\n"

-- the whole text
abbrev pub disassembly : Program → List ℕ
disassembly p =
    size_line p ++ each_below (length p.code.bytes) (line_at p.code) ++ each_below (length p.table) (entry_line p)
