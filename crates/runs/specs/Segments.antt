-- A program cut into segments: operations and the instructions that implement them. Mostly a segment is a block. What
-- has to be proved is said of one segment at a time (`Implements`), and where operations are lowered one by one, of one
-- operation at a time (`Lowers`). If jumps lead only to beginnings of segments (`Cut`), there is a simulation between
-- the machine of the operations and that of the instructions, with one simulation step for each segment.
use Rattle.std.specs.Prelude.{◌≡◌, ℕ, ◌<◌, ◌≤◌, ◌*◌, List, [], ◌∷◌, ◌++◌, length, Some, slice_get, map}
use Rattle.runs.specs.Turn.{Turn, Goes, Stops}
use Rattle.runs.specs.Machine.{Outcome, Next, Jump, Call, Ends, At, does, begun}
use Rattle.runs.specs.Joined.{joined, position}

-- operations, and the instructions that implement them
pub record Segment (Op Instr : Type 0) : Type 0 where
  pub ops : List Op
  pub instrs : List Instr

-- the operations of all segments
abbrev pub all_ops : {Op Instr : Type 0} → List (Segment Op Instr) → List Op
all_ops ps = joined (map (λ p. p.ops) ps)

-- the instructions of all segments
abbrev pub all_instrs : {Op Instr : Type 0} → List (Segment Op Instr) → List Instr
all_instrs ps = joined (map (λ p. p.instrs) ps)

-- where the k-th segment begins among the operations
abbrev pub op_place : {Op Instr : Type 0} → List (Segment Op Instr) → ℕ → ℕ
op_place ps k = position (map (λ p. p.ops) ps) k

-- where the k-th segment begins among the instructions
abbrev pub instr_place : {Op Instr : Type 0} → List (Segment Op Instr) → ℕ → ℕ
instr_place ps k = position (map (λ p. p.instrs) ps) k

-- the same segment begins here among the operations and here among the instructions, or both are at the end
pub record Begins {Op Instr : Type 0} (ps : List (Segment Op Instr)) (op instr : ℕ) : Type 0 where
  pub segment : ℕ
  pub op_is : op ≡ op_place ps segment
  pub instr_is : instr ≡ instr_place ps segment

-- an outcome that goes on after the segment, or calls, has begun all of it: it goes on where the next segment begins
abbrev pub Whole : {Target Data End : Type 0} → Outcome Target Data End → ℕ → ℕ → Type 0
Whole (Next d) n all = n ≡ all
Whole (Jump target d) n all = Unit {0}
Whole (Call number d) n all = n ≡ all
Whole (Ends f) n all = Unit {0}

-- the data after an outcome are good, as registers that are below 2^64 are
abbrev pub GoodOutcome : {Target Data End : Type 0} → (Data → Type 0) → Outcome Target Data End → Type 0
GoodOutcome good (Next d) = good d
GoodOutcome good (Jump target d) = good d
GoodOutcome good (Call number d) = good d
GoodOutcome good (Ends f) = Unit {0}

-- the data after the host's answer are good
abbrev pub GoodTurn : {Data Event End : Type 0} → (Data → Type 0) → Turn Data Event End → Type 0
GoodTurn good (Goes events spent rest d) = good d
GoodTurn good (Stops events f) = Unit {0}

-- The instructions of a segment do what its operations do, from all good data, with at most four begun for each
-- operation begun. A segment has an instruction, goes on or calls at its end alone, and keeps the data good.
pub record Implements {Op Instr Target Data End : Type 0} (op_does : Op → Data → Outcome Target Data End) (instr_does : Instr → Data → Outcome Target Data End) (good : Data → Type 0) (p : Segment Op Instr) : Type 0 where
  pub some : 0 < length p.instrs
  pub same : (d : Data) → good d → does instr_does p.instrs d ≡ does op_does p.ops d
  pub bound : (d : Data) → good d → begun instr_does p.instrs d ≤ 4 * begun op_does p.ops d
  pub whole_ops : (d : Data) → good d → Whole (does op_does p.ops d) (begun op_does p.ops d) (length p.ops)
  pub whole_instrs : (d : Data) → good d → Whole (does op_does p.ops d) (begun instr_does p.instrs d) (length p.instrs)
  pub stays : (d : Data) → good d → GoodOutcome good (does op_does p.ops d)

-- where an outcome jumps, a segment begins at its target
abbrev pub JumpsToSegments : {Op Instr Target Data End : Type 0} → List (Segment Op Instr) → (Target → ℕ) → (Target → ℕ) → Outcome Target Data End → Type 0
JumpsToSegments ps op_places instr_places (Next d) = Unit {0}
JumpsToSegments ps op_places instr_places (Jump target d) = Begins ps (op_places target) (instr_places target)
JumpsToSegments ps op_places instr_places (Call number d) = Unit {0}
JumpsToSegments ps op_places instr_places (Ends f) = Unit {0}

-- each segment is implemented, and each of its jumps leads to the beginning of one
pub record Cut {Op Instr Target Data End : Type 0} (op_does : Op → Data → Outcome Target Data End) (instr_does : Instr → Data → Outcome Target Data End) (good : Data → Type 0) (ps : List (Segment Op Instr)) (op_places instr_places : Target → ℕ) : Type 0 where
  pub implements : (k : ℕ) (p : Segment Op Instr) → slice_get ps k ≡ Some p → Implements op_does instr_does good p
  pub jump_to_segments : (k : ℕ) (p : Segment Op Instr) → slice_get ps k ≡ Some p → (d : Data) → good d → JumpsToSegments ps op_places instr_places (does op_does p.ops d)

-- both machines are at the beginning of the same segment, with the same good data
pub record Match {Op Instr Data : Type 0} (good : Data → Type 0) (ps : List (Segment Op Instr)) (s t : At ℕ Data) : Type 0 where
  pub begins : Begins ps s.at t.at
  pub same : s.of ≡ t.of
  pub good_data : good s.of

-- the instructions of several operations, each lowered alone
abbrev pub lowered : {Op Instr : Type 0} → (Op → List Instr) → List Op → List Instr
lowered lower [] = []
lowered lower (op ∷ ops) = lower op ++ lowered lower ops

-- an outcome that does not call the host
abbrev pub NoCall : {Target Data End : Type 0} → Outcome Target Data End → Type 0
NoCall (Next d) = Unit {0}
NoCall (Jump target d) = Unit {0}
NoCall (Call number d) = ⊥
NoCall (Ends f) = Unit {0}

-- an operation that is no call: its instructions do what it does and are at most three, and it keeps the data good
pub record Lowers {Op Instr Target Data End : Type 0} (op_does : Op → Data → Outcome Target Data End) (instr_does : Instr → Data → Outcome Target Data End) (good : Data → Type 0) (lower : Op → List Instr) (op : Op) : Type 0 where
  pub same : (d : Data) → good d → does instr_does (lower op) d ≡ op_does op d
  pub three : length (lower op) ≤ 3
  pub silent : (d : Data) → NoCall (op_does op d)
  pub stays : (d : Data) → good d → GoodOutcome good (op_does op d)

-- each of these operations is lowered so
abbrev pub AllLower : {Op Instr Target Data End : Type 0} → (Op → Data → Outcome Target Data End) → (Instr → Data → Outcome Target Data End) → (Data → Type 0) → (Op → List Instr) → List Op → Type 0
AllLower op_does instr_does good lower [] = Unit {0}
AllLower op_does instr_does good lower (op ∷ ops) = Lowers op_does instr_does good lower op × AllLower op_does instr_does good lower ops
