-- Where relocations may be and what they name (RISC-V ELF psABI, "Relocations").
use Rattle.std.specs.Prelude.{ℕ, Bool, true, false, not, ◌&&◌, ◌||◌, ◌==◌, if◌then◌else◌}
use Rattle.elf_objects.specs.declared.parts.SectionKind.{SectionKind}
use Rattle.elf_objects.specs.declared.parts.SectionKind.TheVariants as kinds
use Rattle.elf_objects.specs.declared.parts.Relocation.{Relocation}
use Rattle.rv_decode.specs.declared.ops.AluImm.{AluImm}
use Rattle.rv_decode.specs.declared.ops.AluImm.TheVariants.{Addi, Addiw}
use Rattle.rv_decode.specs.declared.ops.RvOp.{RvOp}
use Rattle.rv_decode.specs.declared.ops.RvOp.TheVariants as rv
use Rattle.symbols.specs.Faults.{has_effect}
use Rattle.relocs.specs.declared.kinds.Kind.{Kind}
use Rattle.relocs.specs.declared.kinds.Kind.TheVariants.{Branch, Jal, Call, GotHigh, PcHigh, PcLow, PcLowStore, High, Low, LowStore, Set32, Set64, Add, Subtract, Distance, Other}

-- what a relocation changes, by the number of its type
unfoldable pub kind_of : ℕ → Kind
kind_of kind =
    if kind == 16 then Branch else
    if kind == 17 then Jal else
    if kind == 18 || kind == 19 then Call else
    if kind == 20 then GotHigh else
    if kind == 23 then PcHigh else
    if kind == 24 then PcLow else
    if kind == 25 then PcLowStore else
    if kind == 26 then High else
    if kind == 27 then Low else
    if kind == 28 then LowStore else
    if kind == 1 then Set32 else
    if kind == 2 then Set64 else
    if kind == 33 then Add 1 else
    if kind == 34 then Add 2 else
    if kind == 35 then Add 4 else
    if kind == 36 then Add 8 else
    if kind == 37 then Subtract 1 else
    if kind == 38 then Subtract 2 else
    if kind == 39 then Subtract 4 else
    if kind == 40 then Subtract 8 else
    if kind == 57 then Distance else Other

abbrev pub is_branch : RvOp → Bool
is_branch (rv.Branch cond rs1 rs2 offset) = true
is_branch op = false

abbrev pub is_jal : RvOp → Bool
is_jal (rv.Jal rd offset) = true
is_jal op = false

abbrev pub is_auipc : RvOp → Bool
is_auipc (rv.Auipc rd value) = true
is_auipc op = false

abbrev pub is_lui : RvOp → Bool
is_lui (rv.Lui rd value) = true
is_lui op = false

abbrev pub is_store : RvOp → Bool
is_store (rv.Store width rs1 rs2 imm) = true
is_store op = false

abbrev pub is_addition : AluImm → Bool
is_addition Addi = true
is_addition Addiw = true
is_addition op = false

-- addi, addiw, a load or jalr
abbrev pub has_low_immediate : RvOp → Bool
has_low_immediate (rv.OpImm op rd rs1 imm) = is_addition op
has_low_immediate (rv.Load width rd rs1 imm) = true
has_low_immediate (rv.Jalr rd rs1 imm) = true
has_low_immediate op = false

-- The operations that a relocation of a kind may change. (CALL needs the jalr after its auipc as well, and GOT_HI20 the
-- addend 0: `Pairs` and `Operands` say so.)
abbrev pub may_change : Kind → RvOp → Bool
may_change Branch op = is_branch op
may_change Jal op = is_jal op
may_change Call op = is_auipc op
may_change GotHigh op = is_auipc op
may_change PcHigh op = is_auipc op
may_change PcLow op = has_low_immediate op
may_change PcLowStore op = is_store op
may_change High op = is_lui op
may_change Low op = has_low_immediate op
may_change LowStore op = is_store op
may_change kind op = false

abbrev pub is_data_kind : Kind → Bool
is_data_kind Set32 = true
is_data_kind Set64 = true
is_data_kind (Add bytes) = true
is_data_kind (Subtract bytes) = true
is_data_kind Distance = true
is_data_kind kind = false

-- the sections that a relocation of a kind may change as data: those of zeros have no bytes to change
abbrev pub may_change_data : Kind → SectionKind → Bool
may_change_data kind kinds.ReadOnly = is_data_kind kind
may_change_data kind kinds.Writable = is_data_kind kind
may_change_data kind section = false

-- how many bytes of data a relocation of a kind changes
abbrev pub data_width : Kind → ℕ
data_width Set32 = 4
data_width Set64 = 8
data_width (Add bytes) = bytes
data_width (Subtract bytes) = bytes
data_width Distance = 4
data_width kind = 0

abbrev pub is_call : Kind → Bool
is_call Call = true
is_call kind = false

-- it gives a target: a place to go to, which needs no number
abbrev pub gives_target : Kind → Bool
gives_target Branch = true
gives_target Jal = true
gives_target Call = true
gives_target kind = false

-- it gives the upper part of a value to an auipc
abbrev pub is_pc_high : Kind → Bool
is_pc_high GotHigh = true
is_pc_high PcHigh = true
is_pc_high kind = false

-- it gives the lower part of an auipc's value, and its symbol names the auipc
abbrev pub is_pc_low : Kind → Bool
is_pc_low PcLow = true
is_pc_low PcLowStore = true
is_pc_low kind = false

-- It names an address: what its symbol stands for is a value that the program can hold.
abbrev pub names_address : Relocation → Bool
names_address r = has_effect r.kind && not (gives_target (kind_of r.kind)) && not (is_pc_low (kind_of r.kind))

-- it names a target
abbrev pub names_target : Relocation → Bool
names_target r = gives_target (kind_of r.kind)
