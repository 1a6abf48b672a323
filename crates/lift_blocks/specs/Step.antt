-- What the operations of the objects do: one step of the source machine (RISC-V unprivileged manual).
-- A place takes the part of the program counter. A code address is a number of the address map.
use Rattle.std.specs.Prelude.{ℕ, ◌+◌, ◌%◌, ◌^◌, List, Bool, true, false, Option, Some, None, if◌then◌else◌}
use Rattle.numbers.specs.Words.{word_of}
use Rattle.arithmetic.specs.Operations.{binary, holds}
use Rattle.rv_decode.specs.declared.ops.Reg.{Reg}
use Rattle.rv_decode.specs.declared.ops.Reg.TheVariants.{Zero, R}
use Rattle.rv_decode.specs.declared.ops.LoadWidth.{LoadWidth}
use Rattle.rv_decode.specs.declared.ops.LoadWidth.TheVariants.{Lb, Lh, Lw, Ld, Lbu, Lhu, Lwu}
use Rattle.rv_decode.specs.declared.ops.StoreWidth.{StoreWidth}
use Rattle.rv_decode.specs.declared.ops.StoreWidth.TheVariants.{Sb, Sh, Sw, Sd}
use Rattle.rv_decode.specs.declared.ops.RvOp.{RvOp}
use Rattle.rv_decode.specs.declared.ops.RvOp.TheVariants as rv
use Rattle.runs.specs.Turn.{Turn}
use Rattle.runs.specs.Machine.{Outcome, Next, Jump, Call, Ends, At}
use Rattle.runs.specs.Numbers.{jump_by}
use Rattle.runs.specs.Lockstep.{Fetched, step_at}
use Rattle.runs.specs.World.{World, in_world}
use Rattle.machine_state.specs.State.{State, register, with_register}
use Rattle.machine_state.specs.Ends.{Event, End, Host, halt, panic, rules}
use Rattle.machine_state.specs.Heap.{sbrk}
use Rattle.page_memory.specs.Outcomes.{loads, stores}
use Rattle.symbols.specs.Wanted.{Given}
use Rattle.relocs.specs.Places.{CodePlace}
use Rattle.relocs.specs.Pairs.{next_place}
use Rattle.relocs.specs.AddressMap.{needed_places}
use Rattle.lift_blocks.specs.Arithmetic.{of_alu_imm, of_alu, of_cond}
use Rattle.lift_blocks.specs.Operations.{Operation, Plain, Branch, Jal, Jalr, Pair, HostCall, Sbrk, operation_at}

-- x0 reads as 0, and a write to it does nothing
abbrev pub value : State → Reg → ℕ
value s Zero = 0
value s (R n) = register s n

abbrev pub with_value : State → Reg → ℕ → State
with_value s Zero x = s
with_value s (R n) x = with_register s n x

-- how many bytes a load takes, and whether its register takes their sign
abbrev pub load_bytes : LoadWidth → ℕ
load_bytes Lb = 1
load_bytes Lh = 2
load_bytes Lw = 4
load_bytes Ld = 8
load_bytes Lbu = 1
load_bytes Lhu = 2
load_bytes Lwu = 4

abbrev pub load_has_sign : LoadWidth → Bool
load_has_sign Lb = true
load_has_sign Lh = true
load_has_sign Lw = true
load_has_sign Ld = false
load_has_sign Lbu = false
load_has_sign Lhu = false
load_has_sign Lwu = false

-- how many bytes a store writes
abbrev pub store_bytes : StoreWidth → ℕ
store_bytes Sb = 1
store_bytes Sh = 2
store_bytes Sw = 4
store_bytes Sd = 8

-- What an operation that is no jump does. An auipc adds its value to 0 in place of the program counter: one whose
-- address matters is relocated, and its value is then what its register takes.
abbrev pub plain_does : {Target : Type 0} → RvOp → State → Outcome Target State End
plain_does (rv.Lui rd x) s = Next (with_value s rd (word_of x))
plain_does (rv.Auipc rd x) s = Next (with_value s rd (word_of x))
plain_does (rv.OpImm op rd rs1 imm) s = Next (with_value s rd (binary (of_alu_imm op) (value s rs1) (word_of imm)))
plain_does (rv.Op op rd rs1 rs2) s = Next (with_value s rd (binary (of_alu op) (value s rs1) (value s rs2)))
plain_does (rv.Load width rd rs1 imm) s = loads (λ x. with_value s rd x) (load_has_sign width) (load_bytes width) (value s rs1 + word_of imm) s
plain_does (rv.Store width rs1 rs2 imm) s = stores (store_bytes width) (value s rs1 + word_of imm) (value s rs2) s
plain_does rv.Fence s = Next s
plain_does op s = Ends (panic s)

-- What an operation does, where numbers name the places of a table. A jalr takes its target before it writes its
-- link, modulo 2^32; one to 2^32 - 2^16 halts, and one to what is no number of the table panics. An sbrk takes its size
-- from a0 and leaves there where the heap ended, as a call of a function does.
abbrev pub op_does : {Target : Type 0} → List Target → Operation Target → State → Outcome Target State End
op_does table (Plain op) s = plain_does op s
op_does table (Branch cond rs1 rs2 target) s = if holds (of_cond cond) (value s rs1) (value s rs2) then Jump target s else Next s
op_does table (Jal rd link target) s = Jump target (with_value s rd link)
op_does table (Jalr rd rs1 imm link) s = jump_by halt panic table ((value s rs1 + word_of imm) % 2 ^ 32) (with_value s rd link)
op_does table (Pair temp rd link target) s = Jump target (with_value (with_value s temp 0) rd link)
op_does table (HostCall number) s = Call number s
op_does table Sbrk s = Next (sbrk s 7 (register s 7))

abbrev pub after : Given → CodePlace → Option (Operation CodePlace) → Option (Fetched (Operation CodePlace) CodePlace)
after given p None = None
after given p (Some op) = Some (record { instr = op; next = next_place given p })

-- the operation at a place, and the place after it
abbrev pub fetch_op : Given → CodePlace → Option (Fetched (Operation CodePlace) CodePlace)
fetch_op given p = after given p (operation_at given p)

-- one step of the objects, with the host's answer where they call the host
abbrev pub source_step : {Held : Type 0} → Host Held → Given → At CodePlace (World State Held) → Turn (At CodePlace (World State Held)) Event End
source_step host given = step_at (rules host) (in_world (op_does (needed_places given))) (fetch_op given)
