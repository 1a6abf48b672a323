use Rattle.std.proofs.Common.{◌≡◌, ℕ, ◌-◌, ◌^◌, ◌<◌, [], ◌∷◌, Some, None, refl, arith}
use Rattle.pvm_ops.specs.declared.instr.Instr.{Instr}
use Rattle.pvm_ops.specs.Opcodes.{is_known, form_of}
use Rattle.pvm_ops.specs.BlockList.{Block, BlockList}
use Rattle.jump_table.specs.Assembly.{instrs_of}
use Rattle.jump_table.specs.Laws.{IsPlaceable, IsBlock, IsAssemblable}
use Rattle.jump_table.proofs.Blocks.{all_at}
use Rattle.jump_table.proofs.tests.count_down.Goals as goal

abbrev add : Instr
add = record { op = 149; a = 8; b = 8; d = 0; x = 2 ^ 64 - 1; y = 0 }

abbrev branch : Instr
branch = record { op = 82; a = 8; b = 0; d = 0; x = 0; y = 0 }

abbrev leave : Instr
leave = record { op = 50; a = 0; b = 0; d = 0; x = 0; y = 0 }

abbrev blocks : BlockList
blocks = record { blocks = record { instrs = add ∷ branch ∷ []; target = Some 0 } ∷ record { instrs = leave ∷ []; target = None } ∷ []; entries = 0 ∷ []; needed = 1 ∷ [] }

add_placeable : IsPlaceable add
unfolding is_known form_of
add_placeable = record { known = refl; encodable = record { a = omega arith; b = omega arith; d = omega arith; offset = omega arith; unused = refl; fit = refl } }

branch_placeable : IsPlaceable branch
unfolding is_known form_of
branch_placeable = record { known = refl; encodable = record { a = omega arith; b = omega arith; d = omega arith; offset = omega arith; unused = refl; fit = (refl, refl) } }

leave_placeable : IsPlaceable leave
unfolding is_known form_of
leave_placeable = record { known = refl; encodable = record { a = omega arith; b = omega arith; d = omega arith; offset = omega arith; unused = refl; fit = refl } }

loop_block : IsBlock (record { instrs = add ∷ branch ∷ []; target = Some 0 })
unfolding form_of
loop_block = record { front = add ∷ []; last = branch; is = refl; plain = (refl, tt); targeted = refl }

leave_block : IsBlock (record { instrs = leave ∷ []; target = None })
unfolding form_of
leave_block = record { front = []; last = leave; is = refl; plain = tt; targeted = refl }

assemblable : IsAssemblable blocks
assemblable = record {
  instrs = λ number i e. all_at IsPlaceable (instrs_of blocks) number i (add_placeable, (branch_placeable, (leave_placeable, tt))) e;
  blocks = λ block b e. all_at IsBlock blocks.blocks block b (loop_block, (leave_block, tt)) e;
  targets = λ block target b e f. all_at (λ (b : Block). (target : ℕ) → b.target ≡ Some target → target < 2) blocks.blocks block b ((λ to h. (let same : 0 ≡ to = cc in omega arith)), ((λ to h. absurd cc), tt)) e target f;
  entries = λ entry block e. all_at (λ (b : ℕ). b < 2) blocks.entries entry block (omega arith, tt) e;
  needed = λ place block e. all_at (λ (b : ℕ). b < 2) blocks.needed place block (omega arith, tt) e;
}

pub returns-clause-assemblable : goal.returns-clause-assemblable
returns-clause-assemblable c =
    rw (c.in_ok-add_needed.ensures.ok, c.in_ok-add_entry.ensures.ok, c.in_ok-push-3.ensures.ok, c.in_ok-begin-2.ensures.ok, c.aim.ensures, c.in_ok-push-2.ensures.ok, c.in_ok-push.ensures.ok, c.in_ok-begin.ensures.ok, c.new-blocks.ensures) assemblable
