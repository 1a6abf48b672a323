-- No operation changes how far the heap may grow, or how many pages the memory may have.
use Rattle.std.proofs.Common.{◌≡◌, ℕ, ◌+◌, Bool, true, false, Option, Some, None, refl}
use Rattle.std.specs.Prelude.{if◌then◌else◌}
use Rattle.numbers.specs.Words.{word_of}
use Rattle.arithmetic.specs.Operations.{holds}
use Rattle.rv_decode.specs.declared.ops.Reg.{Reg}
use Rattle.rv_decode.specs.declared.ops.Reg.TheVariants.{Zero, R}
use Rattle.rv_decode.specs.declared.ops.RvOp.{RvOp}
use Rattle.rv_decode.specs.declared.ops.RvOp.TheVariants as rv
use Rattle.runs.specs.Machine.{Outcome, Next, Jump, Ends}
use Rattle.runs.specs.Numbers.{to_named}
use Rattle.runs.specs.World.{Leaves}
use Rattle.machine_state.specs.State.{State, register}
use Rattle.machine_state.specs.Ends.{End, halt, panic}
use Rattle.machine_state.specs.Hosts.{Bounds, bounds_of}
use Rattle.machine_state.proofs.Heap.{sbrk_bounds}
use Rattle.page_memory.proofs.Outcomes.{loads_by, stores_by}
use Rattle.lift_blocks.specs.Arithmetic.{of_cond}
use Rattle.lift_blocks.specs.Operations.{Plain, Branch, Jal, Jalr, Pair, HostCall, Sbrk}
use Rattle.lift_blocks.specs.Step.{value, with_value, load_bytes, load_has_sign, store_bytes, plain_does}
use Rattle.lift_blocks.specs.Laws.{BoundsStay}

value_stays : (s : State) (rd : Reg) (x : ℕ) → bounds_of (with_value s rd x) ≡ bounds_of s
value_stays s Zero x = refl
value_stays s (R n) x = refl

-- what a register takes changes no bounds, whichever it is
abbrev Stays : Bounds → Outcome ℕ State End → Type 0
Stays b o = Leaves bounds_of b o

plain_stays : (op : RvOp) (s : State) → Stays (bounds_of s) (plain_does op s)
plain_stays (rv.Lui rd v) s = value_stays s rd (word_of v)
plain_stays (rv.Auipc rd v) s = value_stays s rd (word_of v)
plain_stays (rv.Jal rd offset) s = tt
plain_stays (rv.Jalr rd rs1 i) s = tt
plain_stays (rv.Branch cond rs1 rs2 offset) s = tt
plain_stays (rv.Load width rd rs1 i) s = loads_by (Stays (bounds_of s)) (λ x. with_value s rd x) (load_has_sign width) (load_bytes width) (value s rs1 + word_of i) s (λ number. value_stays s rd _) (λ end. tt)
plain_stays (rv.Store width rs1 rs2 i) s = stores_by (Stays (bounds_of s)) (store_bytes width) (value s rs1 + word_of i) (value s rs2) s (λ memory. refl) (λ end. tt)
plain_stays (rv.OpImm op rd rs1 i) s = value_stays s rd _
plain_stays (rv.Op op rd rs1 rs2) s = value_stays s rd _
plain_stays rv.Fence s = refl
plain_stays rv.Trap s = tt

branch_stays : (b : Bool) (target : ℕ) (s : State) → Stays (bounds_of s) (if b then Jump target s else Next s)
branch_stays true target s = refl
branch_stays false target s = refl

named_stays : (bounds : Bounds) (o : Option ℕ) (s : State) → bounds_of s ≡ bounds → Stays bounds (to_named panic o s)
named_stays bounds None s e = tt
named_stays bounds (Some target) s e = e

by_halt : (bounds : Bounds) (b : Bool) (o : Option ℕ) (s : State) → bounds_of s ≡ bounds → Stays bounds (if b then Ends (halt s) else to_named panic o s)
by_halt bounds true o s e = tt
by_halt bounds false o s e = named_stays bounds o s e

two_stay : (s : State) (first second : Reg) (x y : ℕ) → bounds_of (with_value (with_value s first x) second y) ≡ bounds_of s
two_stay s Zero second x y = value_stays s second y
two_stay s (R n) Zero x y = refl
two_stay s (R n) (R m) x y = refl

pub bounds_stay : BoundsStay
bounds_stay table (Plain op) s = plain_stays op s
bounds_stay table (Branch cond rs1 rs2 target) s = branch_stays (holds (of_cond cond) (value s rs1) (value s rs2)) target s
bounds_stay table (Jal rd link target) s = value_stays s rd link
bounds_stay table (Jalr rd rs1 i link) s = by_halt (bounds_of s) _ _ (with_value s rd link) (value_stays s rd link)
bounds_stay table (Pair temp rd link target) s = two_stay s temp rd 0 link
bounds_stay table (HostCall number) s = refl
bounds_stay table Sbrk s = sbrk_bounds s 7 (register s 7)
