-- Other names for targets change neither whether an operation goes on, nor whether it ends its block, and its target alone.
use Rattle.std.proofs.Common.{◌≡◌, refl}
use Rattle.std.specs.Option.{option_map}
use Rattle.lift_blocks.specs.Operations.{Operation, Plain, Branch, Jal, Jalr, Pair, HostCall, Sbrk, rename}
use Rattle.lift_blocks.specs.Listed.{can_go_on, ends_block, target_of}

pub goes_renamed : {Target Other : Type 0} (name : Target → Other) (op : Operation Target) → can_go_on (rename name op) ≡ can_go_on op
goes_renamed name (Plain op) = refl
goes_renamed name (Branch cond rs1 rs2 target) = refl
goes_renamed name (Jal rd link target) = refl
goes_renamed name (Jalr rd rs1 imm link) = refl
goes_renamed name (Pair temp rd link target) = refl
goes_renamed name (HostCall number) = refl
goes_renamed name Sbrk = refl

pub ends_renamed : {Target Other : Type 0} (name : Target → Other) (op : Operation Target) → ends_block (rename name op) ≡ ends_block op
ends_renamed name (Plain op) = refl
ends_renamed name (Branch cond rs1 rs2 target) = refl
ends_renamed name (Jal rd link target) = refl
ends_renamed name (Jalr rd rs1 imm link) = refl
ends_renamed name (Pair temp rd link target) = refl
ends_renamed name (HostCall number) = refl
ends_renamed name Sbrk = refl

pub target_renamed : {Target Other : Type 0} (name : Target → Other) (op : Operation Target) → target_of (rename name op) ≡ option_map name (target_of op)
target_renamed name (Plain op) = refl
target_renamed name (Branch cond rs1 rs2 target) = refl
target_renamed name (Jal rd link target) = refl
target_renamed name (Jalr rd rs1 imm link) = refl
target_renamed name (Pair temp rd link target) = refl
target_renamed name (HostCall number) = refl
target_renamed name Sbrk = refl
