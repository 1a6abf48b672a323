-- The opcode table (JAM Gray Paper 0.7.0, appendix A.5).
use Rattle.std.specs.Prelude.{ℕ, zero, suc, ◌+◌, ◌-◌, List, [], ◌∷◌, codes, length, Bool, false, ◌&&◌, ◌||◌, nat_le, nat_lt, if◌then◌else◌}
use Rattle.pvm_ops.specs.declared.forms.Form.{Form}
use Rattle.pvm_ops.specs.declared.forms.Form.TheVariants.{N, X, RE, XY, O, RX, RXY, RXO, RR, RRX, RRO, RRXY, RRR}

-- opcodes of one form that follow one another from the first, by their names
pub record Range : Type 0 where
  pub first : ℕ
  pub form : Form
  pub names : List (List ℕ)

-- such opcodes
abbrev pub range : ℕ → Form → List (List ℕ) → Range
range first form names = record { first = first; form = form; names = names }

-- the whole table
abbrev pub table : List Range
table =
    range 0 N (codes "trap" ∷ codes "fallthrough" ∷ []) ∷
    range 10 X (codes "ecalli" ∷ []) ∷
    range 20 RE (codes "load_imm_64" ∷ []) ∷
    range 30 XY (codes "store_imm_u8" ∷ codes "store_imm_u16" ∷ codes "store_imm_u32" ∷ codes "store_imm_u64" ∷ []) ∷
    range 40 O (codes "jump" ∷ []) ∷
    range 50 RX (
    codes "jump_ind" ∷ codes "load_imm" ∷
    codes "load_u8" ∷ codes "load_i8" ∷ codes "load_u16" ∷ codes "load_i16" ∷ codes "load_u32" ∷ codes "load_i32" ∷ codes "load_u64" ∷
    codes "store_u8" ∷ codes "store_u16" ∷ codes "store_u32" ∷ codes "store_u64" ∷ []) ∷
    range 70 RXY (codes "store_imm_ind_u8" ∷ codes "store_imm_ind_u16" ∷ codes "store_imm_ind_u32" ∷ codes "store_imm_ind_u64" ∷ []) ∷
    range 80 RXO (
    codes "load_imm_jump" ∷
    codes "branch_eq_imm" ∷ codes "branch_ne_imm" ∷
    codes "branch_lt_u_imm" ∷ codes "branch_le_u_imm" ∷ codes "branch_ge_u_imm" ∷ codes "branch_gt_u_imm" ∷
    codes "branch_lt_s_imm" ∷ codes "branch_le_s_imm" ∷ codes "branch_ge_s_imm" ∷ codes "branch_gt_s_imm" ∷ []) ∷
    range 100 RR (
    codes "move_reg" ∷ codes "sbrk" ∷
    codes "count_set_bits_64" ∷ codes "count_set_bits_32" ∷
    codes "leading_zero_bits_64" ∷ codes "leading_zero_bits_32" ∷ codes "trailing_zero_bits_64" ∷ codes "trailing_zero_bits_32" ∷
    codes "sign_extend_8" ∷ codes "sign_extend_16" ∷ codes "zero_extend_16" ∷ codes "reverse_bytes" ∷ []) ∷
    range 120 RRX (
    codes "store_ind_u8" ∷ codes "store_ind_u16" ∷ codes "store_ind_u32" ∷ codes "store_ind_u64" ∷
    codes "load_ind_u8" ∷ codes "load_ind_i8" ∷ codes "load_ind_u16" ∷ codes "load_ind_i16" ∷ codes "load_ind_u32" ∷ codes "load_ind_i32" ∷ codes "load_ind_u64" ∷
    codes "add_imm_32" ∷ codes "and_imm" ∷ codes "xor_imm" ∷ codes "or_imm" ∷ codes "mul_imm_32" ∷
    codes "set_lt_u_imm" ∷ codes "set_lt_s_imm" ∷
    codes "shlo_l_imm_32" ∷ codes "shlo_r_imm_32" ∷ codes "shar_r_imm_32" ∷
    codes "neg_add_imm_32" ∷ codes "set_gt_u_imm" ∷ codes "set_gt_s_imm" ∷
    codes "shlo_l_imm_alt_32" ∷ codes "shlo_r_imm_alt_32" ∷ codes "shar_r_imm_alt_32" ∷
    codes "cmov_iz_imm" ∷ codes "cmov_nz_imm" ∷
    codes "add_imm_64" ∷ codes "mul_imm_64" ∷
    codes "shlo_l_imm_64" ∷ codes "shlo_r_imm_64" ∷ codes "shar_r_imm_64" ∷
    codes "neg_add_imm_64" ∷
    codes "shlo_l_imm_alt_64" ∷ codes "shlo_r_imm_alt_64" ∷ codes "shar_r_imm_alt_64" ∷
    codes "rot_r_64_imm" ∷ codes "rot_r_64_imm_alt" ∷ codes "rot_r_32_imm" ∷ codes "rot_r_32_imm_alt" ∷ []) ∷
    range 170 RRO (codes "branch_eq" ∷ codes "branch_ne" ∷ codes "branch_lt_u" ∷ codes "branch_lt_s" ∷ codes "branch_ge_u" ∷ codes "branch_ge_s" ∷ []) ∷
    range 180 RRXY (codes "load_imm_jump_ind" ∷ []) ∷
    range 190 RRR (
    codes "add_32" ∷ codes "sub_32" ∷ codes "mul_32" ∷ codes "div_u_32" ∷ codes "div_s_32" ∷ codes "rem_u_32" ∷ codes "rem_s_32" ∷
    codes "shlo_l_32" ∷ codes "shlo_r_32" ∷ codes "shar_r_32" ∷
    codes "add_64" ∷ codes "sub_64" ∷ codes "mul_64" ∷ codes "div_u_64" ∷ codes "div_s_64" ∷ codes "rem_u_64" ∷ codes "rem_s_64" ∷
    codes "shlo_l_64" ∷ codes "shlo_r_64" ∷ codes "shar_r_64" ∷
    codes "and" ∷ codes "xor" ∷ codes "or" ∷
    codes "mul_upper_s_s" ∷ codes "mul_upper_u_u" ∷ codes "mul_upper_s_u" ∷
    codes "set_lt_u" ∷ codes "set_lt_s" ∷ codes "cmov_iz" ∷ codes "cmov_nz" ∷
    codes "rot_l_64" ∷ codes "rot_l_32" ∷ codes "rot_r_64" ∷ codes "rot_r_32" ∷
    codes "and_inv" ∷ codes "or_inv" ∷ codes "xnor" ∷
    codes "max" ∷ codes "max_u" ∷ codes "min" ∷ codes "min_u" ∷ []) ∷ []

-- the opcode is one of the range
abbrev pub is_in : Range → ℕ → Bool
is_in r op = nat_le r.first op && nat_lt op (r.first + length r.names)

-- the opcode is one of some range
abbrev pub is_known_in : List Range → ℕ → Bool
is_known_in [] op = false
is_known_in (r ∷ rs) op = is_in r op || is_known_in rs op

-- the form of the range that has the opcode
abbrev pub form_in : List Range → ℕ → Form
form_in [] op = N
form_in (r ∷ rs) op = if is_in r op then r.form else form_in rs op

-- the name at a place of a list
abbrev pub name_at : List (List ℕ) → ℕ → List ℕ
name_at [] n = []
name_at (x ∷ xs) zero = x
name_at (x ∷ xs) (suc n) = name_at xs n

-- the name of an opcode in the range that has it
abbrev pub name_in : List Range → ℕ → List ℕ
name_in [] op = []
name_in (r ∷ rs) op = if is_in r op then name_at r.names (op - r.first) else name_in rs op

-- the opcode is one of the table
unfoldable pub is_known : ℕ → Bool
is_known op = is_known_in table op

-- the form of an opcode of the table
unfoldable pub form_of : ℕ → Form
form_of op = form_in table op

-- the name of an opcode of the table
unfoldable pub name_of : ℕ → List ℕ
name_of op = name_in table op
