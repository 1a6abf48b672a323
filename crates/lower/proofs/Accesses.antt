-- The instruction of a load or a store does what it does.
use Rattle.std.proofs.Common.{◌≡◌, ℕ, ◌+◌, ◌≤◌, Bool, ℤ, List, [], ◌∷◌, refl, ap, ◌∙◌, arith}
use Rattle.numbers.specs.Words.{word_of}
use Rattle.rv_decode.specs.declared.ops.Reg.{Reg}
use Rattle.rv_decode.specs.declared.ops.Reg.TheVariants.{Zero, R}
use Rattle.rv_decode.specs.declared.ops.LoadWidth.{LoadWidth}
use Rattle.rv_decode.specs.declared.ops.LoadWidth.TheVariants.{Lb, Lh, Lw, Ld, Lbu, Lhu, Lwu}
use Rattle.rv_decode.specs.declared.ops.StoreWidth.{StoreWidth}
use Rattle.rv_decode.specs.declared.ops.StoreWidth.TheVariants.{Sb, Sh, Sw, Sd}
use Rattle.rv_decode.specs.declared.ops.RvOp.TheVariants as rv
use Rattle.rv_decode.specs.Operations.{IsWritten}
use Rattle.runs.specs.Machine.{Outcome}
use Rattle.runs.specs.Segments.{NoCall, GoodOutcome}
use Rattle.machine_state.specs.State.{State, register, with_register, IsState}
use Rattle.machine_state.specs.Ends.{End}
use Rattle.machine_state.proofs.Registers.{memory_stays, registers_stay}
use Rattle.page_memory.specs.Outcomes.{widened, loads, stores}
use Rattle.page_memory.proofs.Outcomes.{widened_fits, loads_by, stores_by}
use Rattle.lift_blocks.specs.Operations.{Plain}
use Rattle.lift_blocks.specs.Step.{value, load_bytes, load_has_sign, store_bytes}
use Rattle.pvm_ops.specs.declared.instr.Instr.{Instr}
use Rattle.pvm_machine.specs.Effect.{effect}
use Rattle.pvm_machine.proofs.Opcodes as opcode
use Rattle.lower.specs.Instructions.{rx, rrx, xy, rxy}
use Rattle.lower.specs.Plain.{load_opcode, load_ind_opcode, store_opcode, store_ind_opcode, store_imm_opcode, store_imm_ind_opcode, lower_plain}
use Rattle.lower.proofs.Single.{LowersOp, lowers_one}

-- x0 adds nothing to an address
from_zero : (x : ℕ) → x ≡ 0 + x
from_zero x = omega arith

module _ (needed : List ℕ) where
  -- a load into a register, and a store
  abbrev loads_into : LoadWidth → ℕ → ℕ → State → Outcome ℕ State End
  loads_into width d address s = loads (λ x. with_register s d x) (load_has_sign width) (load_bytes width) address s

  abbrev stores_word : StoreWidth → ℕ → ℕ → State → Outcome ℕ State End
  stores_word width address word s = stores (store_bytes width) address word s

  -- what the instructions of a load do: at an immediate address, and at a register and an immediate
  record LoadEffects (width : LoadWidth) : Type 0 where
    few : load_bytes width ≤ 8
    absolute : (d x : ℕ) (s : State) → effect needed 0 (rx (load_opcode width) d x) s ≡ loads_into width d x s
    indirect : (d a x : ℕ) (s : State) → effect needed 0 (rrx (load_ind_opcode width) d a x) s ≡ loads_into width d (register s a + x) s

  load_effects : (width : LoadWidth) → LoadEffects width
  unfolding effect
  load_effects Lb = record { few = omega arith; absolute = λ d x s. rw opcode.load_i8 refl; indirect = λ d a x s. rw opcode.load_ind_i8 refl }
  load_effects Lh = record { few = omega arith; absolute = λ d x s. rw opcode.load_i16 refl; indirect = λ d a x s. rw opcode.load_ind_i16 refl }
  load_effects Lw = record { few = omega arith; absolute = λ d x s. rw opcode.load_i32 refl; indirect = λ d a x s. rw opcode.load_ind_i32 refl }
  load_effects Ld = record { few = omega arith; absolute = λ d x s. rw opcode.load_u64 refl; indirect = λ d a x s. rw opcode.load_ind_u64 refl }
  load_effects Lbu = record { few = omega arith; absolute = λ d x s. rw opcode.load_u8 refl; indirect = λ d a x s. rw opcode.load_ind_u8 refl }
  load_effects Lhu = record { few = omega arith; absolute = λ d x s. rw opcode.load_u16 refl; indirect = λ d a x s. rw opcode.load_ind_u16 refl }
  load_effects Lwu = record { few = omega arith; absolute = λ d x s. rw opcode.load_u32 refl; indirect = λ d a x s. rw opcode.load_ind_u32 refl }

  -- and those of a store, of a register and of an immediate
  record StoreEffects (width : StoreWidth) : Type 0 where
    absolute : (b x : ℕ) (s : State) → effect needed 0 (rx (store_opcode width) b x) s ≡ stores_word width x (register s b) s
    indirect : (b a x : ℕ) (s : State) → effect needed 0 (rrx (store_ind_opcode width) b a x) s ≡ stores_word width (register s a + x) (register s b) s
    immediate : (x y : ℕ) (s : State) → effect needed 0 (xy (store_imm_opcode width) x y) s ≡ stores_word width x y s
    immediate_indirect : (a x y : ℕ) (s : State) → effect needed 0 (rxy (store_imm_ind_opcode width) a x y) s ≡ stores_word width (register s a + x) y s

  store_effects : (width : StoreWidth) → StoreEffects width
  unfolding effect
  store_effects Sb = record {
    absolute = λ b x s. rw opcode.store_u8 refl;
    indirect = λ b a x s. rw opcode.store_ind_u8 refl;
    immediate = λ x y s. rw opcode.store_imm_u8 refl;
    immediate_indirect = λ a x y s. rw opcode.store_imm_ind_u8 refl;
  }
  store_effects Sh = record {
    absolute = λ b x s. rw opcode.store_u16 refl;
    indirect = λ b a x s. rw opcode.store_ind_u16 refl;
    immediate = λ x y s. rw opcode.store_imm_u16 refl;
    immediate_indirect = λ a x y s. rw opcode.store_imm_ind_u16 refl;
  }
  store_effects Sw = record {
    absolute = λ b x s. rw opcode.store_u32 refl;
    indirect = λ b a x s. rw opcode.store_ind_u32 refl;
    immediate = λ x y s. rw opcode.store_imm_u32 refl;
    immediate_indirect = λ a x y s. rw opcode.store_imm_ind_u32 refl;
  }
  store_effects Sd = record {
    absolute = λ b x s. rw opcode.store_u64 refl;
    indirect = λ b a x s. rw opcode.store_ind_u64 refl;
    immediate = λ x y s. rw opcode.store_imm_u64 refl;
    immediate_indirect = λ a x y s. rw opcode.store_imm_ind_u64 refl;
  }

  -- a load whose instruction does what it does: its register takes a word
  lowers_load_by :
      (width : LoadWidth) (d : ℕ) (rs1 : Reg) (imm : ℤ) (i : Instr) → lower_plain (rv.Load width (R d) rs1 imm) ≡ i ∷ []
      → ((s : State) → effect needed 0 i s ≡ loads_into width d (value s rs1 + word_of imm) s)
      → LowersOp needed (Plain (rv.Load width (R d) rs1 imm))
  lowers_load_by width d rs1 imm i is same =
      lowers_one needed (rv.Load width (R d) rs1 imm) i is (λ s g. same s)
      (λ s. loads_by {Target = ℕ} NoCall (λ x. with_register s d x) signed bytes (address s) s (λ number. tt) (λ end. tt))
      (λ s g. loads_by {Target = ℕ} (GoodOutcome IsState) (λ x. with_register s d x) signed bytes (address s) s (λ number. registers_stay s d (widened signed bytes number) g (widened_fits signed bytes number (load_effects width).few)) (λ end. tt))
    where
      signed : Bool
      signed = load_has_sign width

      bytes : ℕ
      bytes = load_bytes width

      address : State → ℕ
      address s = value s rs1 + word_of imm

  -- a load at an immediate address, or at a register and an immediate
  pub lowers_load : (width : LoadWidth) (rd rs1 : Reg) (imm : ℤ) → IsWritten rd → LowersOp needed (Plain (rv.Load width rd rs1 imm))
  lowers_load width Zero rs1 imm h = absurd h
  lowers_load width (R d) Zero imm h =
      let x = word_of imm in
      lowers_load_by width d Zero imm (rx (load_opcode width) d x) refl (λ s. (load_effects width).absolute d x s ∙ ap (λ at. loads_into width d at s) (from_zero x))
  lowers_load width (R d) (R a) imm h =
      let x = word_of imm in
      lowers_load_by width d (R a) imm (rrx (load_ind_opcode width) d a x) refl (λ s. (load_effects width).indirect d a x s)

  -- a store whose instruction does what it does: it leaves the registers
  lowers_store_by :
      (width : StoreWidth) (rs1 rs2 : Reg) (imm : ℤ) (i : Instr) → lower_plain (rv.Store width rs1 rs2 imm) ≡ i ∷ []
      → ((s : State) → effect needed 0 i s ≡ stores_word width (value s rs1 + word_of imm) (value s rs2) s)
      → LowersOp needed (Plain (rv.Store width rs1 rs2 imm))
  lowers_store_by width rs1 rs2 imm i is same =
      lowers_one needed (rv.Store width rs1 rs2 imm) i is (λ s g. same s)
      (λ s. stores_by {Target = ℕ} NoCall (store_bytes width) (value s rs1 + word_of imm) (value s rs2) s (λ memory. tt) (λ end. tt))
      (λ s g. stores_by {Target = ℕ} (GoodOutcome IsState) (store_bytes width) (value s rs1 + word_of imm) (value s rs2) s (λ memory. memory_stays s memory g) (λ end. tt))

  -- a store of a register, or of x0 as the immediate 0
  pub lowers_store : (width : StoreWidth) (rs1 rs2 : Reg) (imm : ℤ) → LowersOp needed (Plain (rv.Store width rs1 rs2 imm))
  lowers_store width Zero Zero imm =
      let x = word_of imm in
      lowers_store_by width Zero Zero imm (xy (store_imm_opcode width) x 0) refl (λ s. (store_effects width).immediate x 0 s ∙ ap (λ at. stores_word width at 0 s) (from_zero x))
  lowers_store width Zero (R b) imm =
      let x = word_of imm in
      lowers_store_by width Zero (R b) imm (rx (store_opcode width) b x) refl (λ s. (store_effects width).absolute b x s ∙ ap (λ at. stores_word width at (register s b) s) (from_zero x))
  lowers_store width (R a) Zero imm =
      let x = word_of imm in
      lowers_store_by width (R a) Zero imm (rxy (store_imm_ind_opcode width) a x 0) refl (λ s. (store_effects width).immediate_indirect a x 0 s)
  lowers_store width (R a) (R b) imm =
      let x = word_of imm in
      lowers_store_by width (R a) (R b) imm (rrx (store_ind_opcode width) b a x) refl (λ s. (store_effects width).indirect b a x s)
