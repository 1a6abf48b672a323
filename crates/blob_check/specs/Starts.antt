-- Where the blocks of a code start (JAM Gray Paper 0.7.0, appendix A.3).
use Rattle.std.specs.Prelude.{ℕ, zero, suc, ◌+◌, List, [], ◌∷◌, Bool, false, ◌&&◌, ◌||◌, nat_le, nat_eq, slice_index}
use Rattle.std.specs.List.{list_any}
use Rattle.pvm_ops.specs.Listing.{Listing, is_marked, skip}
use Rattle.pvm_ops.specs.Opcodes.{is_known}

-- the opcodes that end a block, from the first to the last of each range
abbrev pub terminators : List (ℕ × ℕ)
terminators = (0, 1) ∷ (40, 40) ∷ (50, 50) ∷ (80, 90) ∷ (170, 175) ∷ (180, 180) ∷ []

-- an instruction of the opcode ends its block: traps, jumps, branches and fallthrough
abbrev pub is_terminator : ℕ → Bool
is_terminator op = list_any (λ r. nat_le r.0 op && nat_le op r.1) terminators

-- a terminator is at the first position, and the instruction after it would be at the second
unfoldable pub leads : Listing → ℕ → ℕ → Bool
leads code at from = is_marked code from && is_terminator (slice_index code.bytes from) && nat_eq (from + 1 + skip code from) at

-- some number below n passes the test
unfoldable pub any_below : (ℕ → Bool) → ℕ → Bool
any_below p zero = false
any_below p (suc n) = p n || any_below p n

-- a block starts at the position: an instruction of a known opcode is marked there, and the position is 0 or follows a terminator
abbrev pub is_start : Listing → ℕ → Bool
is_start code at = is_marked code at && is_known (slice_index code.bytes at) && (nat_eq at 0 || any_below (leads code at) at)
