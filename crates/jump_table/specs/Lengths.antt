-- How many bytes each offset takes: the shortest lengths that are wide enough for the distances in the code that they make.
use Rattle.std.specs.Prelude.{◌≡◌, ℕ, zero, suc, ◌+◌, ◌*◌, ◌^◌, ◌≤◌, ◌<◌, List, length, true, Some, slice_get, slice_index}
use Rattle.pvm_ops.specs.Opcodes.{form_of}
use Rattle.pvm_ops.specs.Offsets.{has_offset}
use Rattle.pvm_ops.specs.BlockList.{BlockList}
use Rattle.jump_table.specs.Assembly.{Member, members_of, instr_position, start_of}

-- The distance from a position to another fits a length: no bytes if it is 0, else l bytes if it is
-- -2^(8l-1) to 2^(8l-1) - 1.
abbrev pub FitsIn : ℕ → ℕ → ℕ → Type 0
FitsIn zero from to = from ≡ to
FitsIn (suc l) from to = (from ≤ to + 2 ^ (8 * l + 7)) × (to < from + 2 ^ (8 * l + 7))

-- Lengths of at most four bytes, one for each block, are wide enough: each distance in the code that they make fits its
-- length.
pub record IsWide (list : BlockList) (lengths : List ℕ) : Type 0 where
  pub few : (block len : ℕ) → slice_get lengths block ≡ Some len → len ≤ 4
  pub fits : (number target : ℕ) (m : Member) → slice_get (members_of lengths list) number ≡ Some m → m.target ≡ Some target → has_offset (form_of m.instr.op) ≡ true
      → FitsIn m.len (instr_position lengths list number) (start_of lengths list target)

-- lengths that are nowhere longer than others
abbrev pub Below : List ℕ → List ℕ → Type 0
Below lengths others = (block : ℕ) → slice_index lengths block ≤ slice_index others block

-- The lengths of a list's offsets: they are wide enough, and nowhere longer than any others that are. A block without an
-- offset has length 0, since its length counts for nothing.
pub record AreLengths (list : BlockList) (lengths : List ℕ) : Type 0 where
  pub count : length lengths ≡ length list.blocks
  pub wide : IsWide list lengths
  pub least : (others : List ℕ) → IsWide list others → Below lengths others
