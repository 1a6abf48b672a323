-- Runs of constants: consecutive operations that leave a known number in one register. Each run is one instruction.
use Rattle.std.specs.Prelude.{◌≡◌, ℕ, nat_eq, not, ◌&&◌, List, [], ◌∷◌, ◌++◌, Bool, true, false, Option, Some, None}
use Rattle.std.specs.List.{AllByRecursion}
use Rattle.numbers.specs.Words.{word_of, sign_extend}
use Rattle.arithmetic.specs.Operations.{binary}
use Rattle.rv_decode.specs.declared.ops.Reg.{Reg}
use Rattle.rv_decode.specs.declared.ops.Reg.TheVariants.{Zero, R}
use Rattle.rv_decode.specs.declared.ops.RvOp.{RvOp}
use Rattle.rv_decode.specs.declared.ops.RvOp.TheVariants as rv
use Rattle.runs.specs.Blocks.{with_first}
use Rattle.runs.specs.Joined.{joined}
use Rattle.lift_blocks.specs.Arithmetic.{of_alu_imm, of_alu}
use Rattle.lift_blocks.specs.Operations.{Operation, Plain}
use Rattle.pvm_ops.specs.declared.instr.Instr.{Instr}
use Rattle.lower.specs.Instructions.{load_imm, load_imm_64}

-- a register other than x0, by its number
abbrev pub number_of : Reg → Option ℕ
number_of Zero = None
number_of (R d) = Some d

-- the register other than x0 that is written by an operation on registers and immediates alone
abbrev pub written : RvOp → Option ℕ
written (rv.Lui rd value) = number_of rd
written (rv.Auipc rd value) = number_of rd
written (rv.OpImm op rd rs1 imm) = number_of rd
written (rv.Op op rd rs1 rs2) = number_of rd
written op = None

-- whether a register is x0, or the one that is named
abbrev pub is_known : Option ℕ → Reg → Bool
is_known known Zero = true
is_known None (R n) = false
is_known (Some d) (R n) = nat_eq n d

-- whether such an operation reads no other
abbrev pub reads_known : Option ℕ → RvOp → Bool
reads_known known (rv.OpImm op rd rs1 imm) = is_known known rs1
reads_known known (rv.Op op rd rs1 rs2) = is_known known rs1 && is_known known rs2
reads_known known op = true

abbrev pub if_known : Bool → Option ℕ → Option ℕ
if_known true d = d
if_known false d = None

abbrev pub is_number : ℕ → Option ℕ → Bool
is_number d None = false
is_number d (Some n) = nat_eq n d

-- the register of the run that may begin with an operation: it writes it, and reads none but x0
abbrev pub begins_run : Operation ℕ → Option ℕ
begins_run (Plain op) = if_known (reads_known None op) (written op)
begins_run op = None

-- whether a run on a register may go on with an operation: that writes the register, and reads none but it and x0
abbrev pub goes_on : ℕ → Operation ℕ → Bool
goes_on d (Plain op) = reads_known (Some d) op && is_number d (written op)
goes_on d op = false

-- operations that are a run on a register
abbrev pub IsRunOn : ℕ → List (Operation ℕ) → Type 0
IsRunOn d [] = ⊥
IsRunOn d (op ∷ ops) = (begins_run op ≡ Some d) × AllByRecursion (λ next. goes_on d next ≡ true) ops

-- and on some register
abbrev pub IsRun : List (Operation ℕ) → Type 0
IsRun ops = (d : ℕ) × IsRunOn d ops

-- a run, or one operation
abbrev pub IsRunOrOne : List (Operation ℕ) → Type 0
IsRunOrOne [] = ⊥
IsRunOrOne (op ∷ []) = Unit {0}
IsRunOrOne (op ∷ next ∷ ops) = IsRun (op ∷ next ∷ ops)

-- no two neighbouring parts are one run together
abbrev pub AreApart : List (List (Operation ℕ)) → Type 0
AreApart [] = Unit {0}
AreApart (part ∷ []) = Unit {0}
AreApart (part ∷ next ∷ parts) = (IsRun (part ++ next) → ⊥) × AreApart (next ∷ parts)

-- Operations cut into maximal runs, with each operation that is in none in a part of its own: no run can be longer, since
-- no two neighbours are one run together.
pub record IsCutAtRuns (ops : List (Operation ℕ)) (parts : List (List (Operation ℕ))) : Type 0 where
  pub all : joined parts ≡ ops
  pub each : AllByRecursion IsRunOrOne parts
  pub apart : AreApart parts

-- the register of the run that an operation is in, by that of the operation before it
abbrev pub stays_if : Bool → ℕ → Operation ℕ → Option ℕ
stays_if true d op = Some d
stays_if false d op = begins_run op

abbrev pub run_of : Option ℕ → Operation ℕ → Option ℕ
run_of None op = begins_run op
run_of (Some d) op = stays_if (goes_on d op) d op

-- whether a run on a register, or an operation in none, ends before these operations
abbrev pub ends_before : Option ℕ → List (Operation ℕ) → Bool
ends_before None ops = true
ends_before (Some d) [] = true
ends_before (Some d) (op ∷ ops) = not (goes_on d op)

-- The one cut at runs: operation by operation, with the next in the same part where both are of one run.
abbrev pub runs_from : Option ℕ → List (Operation ℕ) → List (List (Operation ℕ))
runs_from before [] = []
runs_from before (op ∷ ops) = with_first (ends_before (run_of before op) ops) op (runs_from (run_of before op) ops)

abbrev pub runs : List (Operation ℕ) → List (List (Operation ℕ))
runs ops = runs_from None ops

-- what a register holds, where all but x0 hold this
abbrev pub known_value : ℕ → Reg → ℕ
known_value v Zero = 0
known_value v (R n) = v

-- what an operation of a run leaves in the run's register, which held v
abbrev pub computed_plain : ℕ → RvOp → ℕ
computed_plain v (rv.Lui rd value) = word_of value
computed_plain v (rv.Auipc rd value) = word_of value
computed_plain v (rv.OpImm op rd rs1 imm) = binary (of_alu_imm op) (known_value v rs1) (word_of imm)
computed_plain v (rv.Op op rd rs1 rs2) = binary (of_alu op) (known_value v rs1) (known_value v rs2)
computed_plain v op = v

abbrev pub computed : ℕ → Operation ℕ → ℕ
computed v (Plain op) = computed_plain v op
computed v op = v

-- and what all of a run do
abbrev pub value_of : ℕ → List (Operation ℕ) → ℕ
value_of v [] = v
value_of v (op ∷ ops) = value_of (computed v op) ops

-- a register takes a constant: in 32 bits, where it is their sign extension
abbrev pub constant_if : Bool → ℕ → ℕ → Instr
constant_if true d v = load_imm d v
constant_if false d v = load_imm_64 d v

abbrev pub constant : ℕ → ℕ → Instr
constant d v = constant_if (nat_eq (sign_extend 32 v) v) d v
