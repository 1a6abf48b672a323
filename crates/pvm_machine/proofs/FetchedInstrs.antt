-- Where an instruction is, and where none is.
use Rattle.std.proofs.Common.{◌≡◌, ℕ, true, false, refl, Some, None}
use Rattle.std.specs.Prelude.{IsTrue, slice_index}
use Rattle.pvm_ops.specs.declared.instr.Instr.{Instr}
use Rattle.pvm_ops.specs.Listing.{Listing, is_marked}
use Rattle.pvm_ops.specs.Opcodes.{is_known}
use Rattle.pvm_ops.specs.Fetch.{fetch_of}
use Rattle.pvm_machine.specs.Step.{instr_at}

-- the instruction that is fetched where one of a known opcode is marked is there
pub instr_is_there : (code : Listing) (at : ℕ) (i : Instr) (next : ℕ) → is_marked code at ≡ true → IsTrue (is_known (slice_index code.bytes at)) → fetch_of code at ≡ record { instr = i; next = next } → instr_at code at ≡ Some (record { instr = record { instr = i; at = at }; next = next })
unfolding instr_at
instr_is_there code at i next marked known fetched = rw (marked, known, fetched) refl

-- no instruction is where nothing is marked
pub none_is_there : (code : Listing) (at : ℕ) → is_marked code at ≡ false → instr_at code at ≡ None
unfolding instr_at
none_is_there code at unmarked = rw unmarked refl
