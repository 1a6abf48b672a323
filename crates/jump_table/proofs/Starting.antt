-- Where blocks start, from what is fetched.
use Rattle.std.proofs.Common.{◌≡◌, ℕ, zero, suc, ◌+◌, ◌<◌, Bool, true, List, refl, sym, ap, ◌∙◌, arith, nat_eq, inl, inr}
use Rattle.std.specs.Prelude.{slice_index}
use Rattle.std.proofs.Math.Bool.{or-true}
use Rattle.std.proofs.lemmas.Bool.{cases_lt}
use Rattle.std.proofs.lemmas.Bool.Decides.{nat_tests}
use Rattle.pvm_ops.specs.declared.instr.Instr.{Instr}
use Rattle.pvm_ops.specs.declared.forms.Form.{Form}
use Rattle.pvm_ops.specs.declared.forms.Form.TheVariants.{N, X, RE, XY, O, RX, RXY, RXO, RR, RRX, RRO, RRXY, RRR}
use Rattle.pvm_ops.specs.Listing.{Listing, skip}
use Rattle.pvm_ops.specs.Opcodes.{form_of}
use Rattle.pvm_ops.specs.Fetch.{fetch_of, operands}
use Rattle.blob_check.specs.Starts.{is_terminator, leads, any_below, is_start}
use Rattle.jump_table.specs.Laws.{Fetches}

-- the operands do not change the opcode
operands_op : (bytes : List ℕ) (at op e : ℕ) (f : Form) → (operands bytes at op e f).op ≡ op
operands_op bytes at op e N = refl
operands_op bytes at op e X = refl
operands_op bytes at op e RE = refl
operands_op bytes at op e XY = refl
operands_op bytes at op e O = refl
operands_op bytes at op e RX = refl
operands_op bytes at op e RXY = refl
operands_op bytes at op e RXO = refl
operands_op bytes at op e RR = refl
operands_op bytes at op e RRX = refl
operands_op bytes at op e RRO = refl
operands_op bytes at op e RRXY = refl
operands_op bytes at op e RRR = refl

-- the byte at an instruction is its opcode
fetched_op : (code : Listing) (at : ℕ) (i : Instr) (next : ℕ) → Fetches code at i next → slice_index code.bytes at ≡ i.op
unfolding fetch_of
fetched_op code at i next h =
    let both = rw (h.marked, h.known) at h.fetched in
    sym (operands_op code.bytes at (slice_index code.bytes at) (skip code at) (form_of (slice_index code.bytes at))) ∙ ap (λ f. f.instr.op) both

-- the position after an instruction is where its operands end
fetched_next : (code : Listing) (at : ℕ) (i : Instr) (next : ℕ) → Fetches code at i next → at + 1 + skip code at ≡ next
unfolding fetch_of
fetched_next code at i next h =
    let both = rw (h.marked, h.known) at h.fetched in
    ap (λ f. f.next) both

-- an instruction that ends its block leads to the position after it
terminator_leads : (code : Listing) (from : ℕ) (i : Instr) (at : ℕ) → Fetches code from i at → is_terminator i.op ≡ true → leads code at from ≡ true
unfolding leads
terminator_leads code from i at h ends =
    let op = fetched_op code from i at h in
    let next = fetched_next code from i at h in
    let here : nat_eq (from + 1 + skip code from) at ≡ true = grind (arith, nat_tests) in
    rw (h.marked, op, ends) here

-- a number below n that passes
passes_below : (p : ℕ → Bool) (n m : ℕ) → m < n → p m ≡ true → any_below p n ≡ true
unfolding any_below
passes_below p zero m lt e = absurd (omega arith)
passes_below p (suc n) m lt e =
    elim (cases_lt m n) [
      | inl below ↦ let rest = passes_below p n m below e in rw rest (or-true (p n))
      | inr here ↦ let same : n ≡ m = omega arith in rw (same, e) refl
    ]

-- a block starts at position 0 if an instruction is there
pub starts_first : (code : Listing) (i : Instr) (next : ℕ) → Fetches code 0 i next → is_start code 0 ≡ true
starts_first code i next h = rw (h.marked, h.known) refl

-- a block starts at an instruction after one that ends its block
pub starts_after : (code : Listing) (from : ℕ) (j : Instr) (at : ℕ) (i : Instr) (next : ℕ) → Fetches code from j at → is_terminator j.op ≡ true → Fetches code at i next → is_start code at ≡ true
starts_after code from j at i next before ends h =
    let after = fetched_next code from j at before in
    let led = passes_below (leads code at) at from (omega arith) (terminator_leads code from j at before ends) in
    rw (h.marked, h.known, led) (or-true (nat_eq at 0))
