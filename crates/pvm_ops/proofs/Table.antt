-- That each opcode is known, and its form, by the name of its instruction: what proofs take of the table.
use Rattle.std.proofs.Common.{◌≡◌, refl}
use Rattle.std.specs.Prelude.{IsTrue}
use Rattle.pvm_ops.specs.declared.forms.Form.TheVariants.{N, X, RE, XY, O, RX, RXY, RXO, RR, RRX, RRO, RRXY, RRR}
use Rattle.pvm_ops.specs.Opcodes.{is_known, form_of}

pub trap_known : IsTrue (is_known 0)
unfolding is_known
trap_known = refl

pub trap_form : form_of 0 ≡ N
unfolding form_of
trap_form = refl

pub fallthrough_known : IsTrue (is_known 1)
unfolding is_known
fallthrough_known = refl

pub fallthrough_form : form_of 1 ≡ N
unfolding form_of
fallthrough_form = refl

pub ecalli_known : IsTrue (is_known 10)
unfolding is_known
ecalli_known = refl

pub ecalli_form : form_of 10 ≡ X
unfolding form_of
ecalli_form = refl

pub load_imm_64_known : IsTrue (is_known 20)
unfolding is_known
load_imm_64_known = refl

pub load_imm_64_form : form_of 20 ≡ RE
unfolding form_of
load_imm_64_form = refl

pub store_imm_u8_known : IsTrue (is_known 30)
unfolding is_known
store_imm_u8_known = refl

pub store_imm_u8_form : form_of 30 ≡ XY
unfolding form_of
store_imm_u8_form = refl

pub store_imm_u16_known : IsTrue (is_known 31)
unfolding is_known
store_imm_u16_known = refl

pub store_imm_u16_form : form_of 31 ≡ XY
unfolding form_of
store_imm_u16_form = refl

pub store_imm_u32_known : IsTrue (is_known 32)
unfolding is_known
store_imm_u32_known = refl

pub store_imm_u32_form : form_of 32 ≡ XY
unfolding form_of
store_imm_u32_form = refl

pub store_imm_u64_known : IsTrue (is_known 33)
unfolding is_known
store_imm_u64_known = refl

pub store_imm_u64_form : form_of 33 ≡ XY
unfolding form_of
store_imm_u64_form = refl

pub jump_known : IsTrue (is_known 40)
unfolding is_known
jump_known = refl

pub jump_form : form_of 40 ≡ O
unfolding form_of
jump_form = refl

pub jump_ind_known : IsTrue (is_known 50)
unfolding is_known
jump_ind_known = refl

pub jump_ind_form : form_of 50 ≡ RX
unfolding form_of
jump_ind_form = refl

pub load_imm_known : IsTrue (is_known 51)
unfolding is_known
load_imm_known = refl

pub load_imm_form : form_of 51 ≡ RX
unfolding form_of
load_imm_form = refl

pub load_u8_known : IsTrue (is_known 52)
unfolding is_known
load_u8_known = refl

pub load_u8_form : form_of 52 ≡ RX
unfolding form_of
load_u8_form = refl

pub load_i8_known : IsTrue (is_known 53)
unfolding is_known
load_i8_known = refl

pub load_i8_form : form_of 53 ≡ RX
unfolding form_of
load_i8_form = refl

pub load_u16_known : IsTrue (is_known 54)
unfolding is_known
load_u16_known = refl

pub load_u16_form : form_of 54 ≡ RX
unfolding form_of
load_u16_form = refl

pub load_i16_known : IsTrue (is_known 55)
unfolding is_known
load_i16_known = refl

pub load_i16_form : form_of 55 ≡ RX
unfolding form_of
load_i16_form = refl

pub load_u32_known : IsTrue (is_known 56)
unfolding is_known
load_u32_known = refl

pub load_u32_form : form_of 56 ≡ RX
unfolding form_of
load_u32_form = refl

pub load_i32_known : IsTrue (is_known 57)
unfolding is_known
load_i32_known = refl

pub load_i32_form : form_of 57 ≡ RX
unfolding form_of
load_i32_form = refl

pub load_u64_known : IsTrue (is_known 58)
unfolding is_known
load_u64_known = refl

pub load_u64_form : form_of 58 ≡ RX
unfolding form_of
load_u64_form = refl

pub store_u8_known : IsTrue (is_known 59)
unfolding is_known
store_u8_known = refl

pub store_u8_form : form_of 59 ≡ RX
unfolding form_of
store_u8_form = refl

pub store_u16_known : IsTrue (is_known 60)
unfolding is_known
store_u16_known = refl

pub store_u16_form : form_of 60 ≡ RX
unfolding form_of
store_u16_form = refl

pub store_u32_known : IsTrue (is_known 61)
unfolding is_known
store_u32_known = refl

pub store_u32_form : form_of 61 ≡ RX
unfolding form_of
store_u32_form = refl

pub store_u64_known : IsTrue (is_known 62)
unfolding is_known
store_u64_known = refl

pub store_u64_form : form_of 62 ≡ RX
unfolding form_of
store_u64_form = refl

pub store_imm_ind_u8_known : IsTrue (is_known 70)
unfolding is_known
store_imm_ind_u8_known = refl

pub store_imm_ind_u8_form : form_of 70 ≡ RXY
unfolding form_of
store_imm_ind_u8_form = refl

pub store_imm_ind_u16_known : IsTrue (is_known 71)
unfolding is_known
store_imm_ind_u16_known = refl

pub store_imm_ind_u16_form : form_of 71 ≡ RXY
unfolding form_of
store_imm_ind_u16_form = refl

pub store_imm_ind_u32_known : IsTrue (is_known 72)
unfolding is_known
store_imm_ind_u32_known = refl

pub store_imm_ind_u32_form : form_of 72 ≡ RXY
unfolding form_of
store_imm_ind_u32_form = refl

pub store_imm_ind_u64_known : IsTrue (is_known 73)
unfolding is_known
store_imm_ind_u64_known = refl

pub store_imm_ind_u64_form : form_of 73 ≡ RXY
unfolding form_of
store_imm_ind_u64_form = refl

pub load_imm_jump_known : IsTrue (is_known 80)
unfolding is_known
load_imm_jump_known = refl

pub load_imm_jump_form : form_of 80 ≡ RXO
unfolding form_of
load_imm_jump_form = refl

pub branch_eq_imm_known : IsTrue (is_known 81)
unfolding is_known
branch_eq_imm_known = refl

pub branch_eq_imm_form : form_of 81 ≡ RXO
unfolding form_of
branch_eq_imm_form = refl

pub branch_ne_imm_known : IsTrue (is_known 82)
unfolding is_known
branch_ne_imm_known = refl

pub branch_ne_imm_form : form_of 82 ≡ RXO
unfolding form_of
branch_ne_imm_form = refl

pub branch_lt_u_imm_known : IsTrue (is_known 83)
unfolding is_known
branch_lt_u_imm_known = refl

pub branch_lt_u_imm_form : form_of 83 ≡ RXO
unfolding form_of
branch_lt_u_imm_form = refl

pub branch_le_u_imm_known : IsTrue (is_known 84)
unfolding is_known
branch_le_u_imm_known = refl

pub branch_le_u_imm_form : form_of 84 ≡ RXO
unfolding form_of
branch_le_u_imm_form = refl

pub branch_ge_u_imm_known : IsTrue (is_known 85)
unfolding is_known
branch_ge_u_imm_known = refl

pub branch_ge_u_imm_form : form_of 85 ≡ RXO
unfolding form_of
branch_ge_u_imm_form = refl

pub branch_gt_u_imm_known : IsTrue (is_known 86)
unfolding is_known
branch_gt_u_imm_known = refl

pub branch_gt_u_imm_form : form_of 86 ≡ RXO
unfolding form_of
branch_gt_u_imm_form = refl

pub branch_lt_s_imm_known : IsTrue (is_known 87)
unfolding is_known
branch_lt_s_imm_known = refl

pub branch_lt_s_imm_form : form_of 87 ≡ RXO
unfolding form_of
branch_lt_s_imm_form = refl

pub branch_le_s_imm_known : IsTrue (is_known 88)
unfolding is_known
branch_le_s_imm_known = refl

pub branch_le_s_imm_form : form_of 88 ≡ RXO
unfolding form_of
branch_le_s_imm_form = refl

pub branch_ge_s_imm_known : IsTrue (is_known 89)
unfolding is_known
branch_ge_s_imm_known = refl

pub branch_ge_s_imm_form : form_of 89 ≡ RXO
unfolding form_of
branch_ge_s_imm_form = refl

pub branch_gt_s_imm_known : IsTrue (is_known 90)
unfolding is_known
branch_gt_s_imm_known = refl

pub branch_gt_s_imm_form : form_of 90 ≡ RXO
unfolding form_of
branch_gt_s_imm_form = refl

pub move_reg_known : IsTrue (is_known 100)
unfolding is_known
move_reg_known = refl

pub move_reg_form : form_of 100 ≡ RR
unfolding form_of
move_reg_form = refl

pub sbrk_known : IsTrue (is_known 101)
unfolding is_known
sbrk_known = refl

pub sbrk_form : form_of 101 ≡ RR
unfolding form_of
sbrk_form = refl

pub count_set_bits_64_known : IsTrue (is_known 102)
unfolding is_known
count_set_bits_64_known = refl

pub count_set_bits_64_form : form_of 102 ≡ RR
unfolding form_of
count_set_bits_64_form = refl

pub count_set_bits_32_known : IsTrue (is_known 103)
unfolding is_known
count_set_bits_32_known = refl

pub count_set_bits_32_form : form_of 103 ≡ RR
unfolding form_of
count_set_bits_32_form = refl

pub leading_zero_bits_64_known : IsTrue (is_known 104)
unfolding is_known
leading_zero_bits_64_known = refl

pub leading_zero_bits_64_form : form_of 104 ≡ RR
unfolding form_of
leading_zero_bits_64_form = refl

pub leading_zero_bits_32_known : IsTrue (is_known 105)
unfolding is_known
leading_zero_bits_32_known = refl

pub leading_zero_bits_32_form : form_of 105 ≡ RR
unfolding form_of
leading_zero_bits_32_form = refl

pub trailing_zero_bits_64_known : IsTrue (is_known 106)
unfolding is_known
trailing_zero_bits_64_known = refl

pub trailing_zero_bits_64_form : form_of 106 ≡ RR
unfolding form_of
trailing_zero_bits_64_form = refl

pub trailing_zero_bits_32_known : IsTrue (is_known 107)
unfolding is_known
trailing_zero_bits_32_known = refl

pub trailing_zero_bits_32_form : form_of 107 ≡ RR
unfolding form_of
trailing_zero_bits_32_form = refl

pub sign_extend_8_known : IsTrue (is_known 108)
unfolding is_known
sign_extend_8_known = refl

pub sign_extend_8_form : form_of 108 ≡ RR
unfolding form_of
sign_extend_8_form = refl

pub sign_extend_16_known : IsTrue (is_known 109)
unfolding is_known
sign_extend_16_known = refl

pub sign_extend_16_form : form_of 109 ≡ RR
unfolding form_of
sign_extend_16_form = refl

pub zero_extend_16_known : IsTrue (is_known 110)
unfolding is_known
zero_extend_16_known = refl

pub zero_extend_16_form : form_of 110 ≡ RR
unfolding form_of
zero_extend_16_form = refl

pub reverse_bytes_known : IsTrue (is_known 111)
unfolding is_known
reverse_bytes_known = refl

pub reverse_bytes_form : form_of 111 ≡ RR
unfolding form_of
reverse_bytes_form = refl

pub store_ind_u8_known : IsTrue (is_known 120)
unfolding is_known
store_ind_u8_known = refl

pub store_ind_u8_form : form_of 120 ≡ RRX
unfolding form_of
store_ind_u8_form = refl

pub store_ind_u16_known : IsTrue (is_known 121)
unfolding is_known
store_ind_u16_known = refl

pub store_ind_u16_form : form_of 121 ≡ RRX
unfolding form_of
store_ind_u16_form = refl

pub store_ind_u32_known : IsTrue (is_known 122)
unfolding is_known
store_ind_u32_known = refl

pub store_ind_u32_form : form_of 122 ≡ RRX
unfolding form_of
store_ind_u32_form = refl

pub store_ind_u64_known : IsTrue (is_known 123)
unfolding is_known
store_ind_u64_known = refl

pub store_ind_u64_form : form_of 123 ≡ RRX
unfolding form_of
store_ind_u64_form = refl

pub load_ind_u8_known : IsTrue (is_known 124)
unfolding is_known
load_ind_u8_known = refl

pub load_ind_u8_form : form_of 124 ≡ RRX
unfolding form_of
load_ind_u8_form = refl

pub load_ind_i8_known : IsTrue (is_known 125)
unfolding is_known
load_ind_i8_known = refl

pub load_ind_i8_form : form_of 125 ≡ RRX
unfolding form_of
load_ind_i8_form = refl

pub load_ind_u16_known : IsTrue (is_known 126)
unfolding is_known
load_ind_u16_known = refl

pub load_ind_u16_form : form_of 126 ≡ RRX
unfolding form_of
load_ind_u16_form = refl

pub load_ind_i16_known : IsTrue (is_known 127)
unfolding is_known
load_ind_i16_known = refl

pub load_ind_i16_form : form_of 127 ≡ RRX
unfolding form_of
load_ind_i16_form = refl

pub load_ind_u32_known : IsTrue (is_known 128)
unfolding is_known
load_ind_u32_known = refl

pub load_ind_u32_form : form_of 128 ≡ RRX
unfolding form_of
load_ind_u32_form = refl

pub load_ind_i32_known : IsTrue (is_known 129)
unfolding is_known
load_ind_i32_known = refl

pub load_ind_i32_form : form_of 129 ≡ RRX
unfolding form_of
load_ind_i32_form = refl

pub load_ind_u64_known : IsTrue (is_known 130)
unfolding is_known
load_ind_u64_known = refl

pub load_ind_u64_form : form_of 130 ≡ RRX
unfolding form_of
load_ind_u64_form = refl

pub add_imm_32_known : IsTrue (is_known 131)
unfolding is_known
add_imm_32_known = refl

pub add_imm_32_form : form_of 131 ≡ RRX
unfolding form_of
add_imm_32_form = refl

pub and_imm_known : IsTrue (is_known 132)
unfolding is_known
and_imm_known = refl

pub and_imm_form : form_of 132 ≡ RRX
unfolding form_of
and_imm_form = refl

pub xor_imm_known : IsTrue (is_known 133)
unfolding is_known
xor_imm_known = refl

pub xor_imm_form : form_of 133 ≡ RRX
unfolding form_of
xor_imm_form = refl

pub or_imm_known : IsTrue (is_known 134)
unfolding is_known
or_imm_known = refl

pub or_imm_form : form_of 134 ≡ RRX
unfolding form_of
or_imm_form = refl

pub mul_imm_32_known : IsTrue (is_known 135)
unfolding is_known
mul_imm_32_known = refl

pub mul_imm_32_form : form_of 135 ≡ RRX
unfolding form_of
mul_imm_32_form = refl

pub set_lt_u_imm_known : IsTrue (is_known 136)
unfolding is_known
set_lt_u_imm_known = refl

pub set_lt_u_imm_form : form_of 136 ≡ RRX
unfolding form_of
set_lt_u_imm_form = refl

pub set_lt_s_imm_known : IsTrue (is_known 137)
unfolding is_known
set_lt_s_imm_known = refl

pub set_lt_s_imm_form : form_of 137 ≡ RRX
unfolding form_of
set_lt_s_imm_form = refl

pub shlo_l_imm_32_known : IsTrue (is_known 138)
unfolding is_known
shlo_l_imm_32_known = refl

pub shlo_l_imm_32_form : form_of 138 ≡ RRX
unfolding form_of
shlo_l_imm_32_form = refl

pub shlo_r_imm_32_known : IsTrue (is_known 139)
unfolding is_known
shlo_r_imm_32_known = refl

pub shlo_r_imm_32_form : form_of 139 ≡ RRX
unfolding form_of
shlo_r_imm_32_form = refl

pub shar_r_imm_32_known : IsTrue (is_known 140)
unfolding is_known
shar_r_imm_32_known = refl

pub shar_r_imm_32_form : form_of 140 ≡ RRX
unfolding form_of
shar_r_imm_32_form = refl

pub neg_add_imm_32_known : IsTrue (is_known 141)
unfolding is_known
neg_add_imm_32_known = refl

pub neg_add_imm_32_form : form_of 141 ≡ RRX
unfolding form_of
neg_add_imm_32_form = refl

pub set_gt_u_imm_known : IsTrue (is_known 142)
unfolding is_known
set_gt_u_imm_known = refl

pub set_gt_u_imm_form : form_of 142 ≡ RRX
unfolding form_of
set_gt_u_imm_form = refl

pub set_gt_s_imm_known : IsTrue (is_known 143)
unfolding is_known
set_gt_s_imm_known = refl

pub set_gt_s_imm_form : form_of 143 ≡ RRX
unfolding form_of
set_gt_s_imm_form = refl

pub shlo_l_imm_alt_32_known : IsTrue (is_known 144)
unfolding is_known
shlo_l_imm_alt_32_known = refl

pub shlo_l_imm_alt_32_form : form_of 144 ≡ RRX
unfolding form_of
shlo_l_imm_alt_32_form = refl

pub shlo_r_imm_alt_32_known : IsTrue (is_known 145)
unfolding is_known
shlo_r_imm_alt_32_known = refl

pub shlo_r_imm_alt_32_form : form_of 145 ≡ RRX
unfolding form_of
shlo_r_imm_alt_32_form = refl

pub shar_r_imm_alt_32_known : IsTrue (is_known 146)
unfolding is_known
shar_r_imm_alt_32_known = refl

pub shar_r_imm_alt_32_form : form_of 146 ≡ RRX
unfolding form_of
shar_r_imm_alt_32_form = refl

pub cmov_iz_imm_known : IsTrue (is_known 147)
unfolding is_known
cmov_iz_imm_known = refl

pub cmov_iz_imm_form : form_of 147 ≡ RRX
unfolding form_of
cmov_iz_imm_form = refl

pub cmov_nz_imm_known : IsTrue (is_known 148)
unfolding is_known
cmov_nz_imm_known = refl

pub cmov_nz_imm_form : form_of 148 ≡ RRX
unfolding form_of
cmov_nz_imm_form = refl

pub add_imm_64_known : IsTrue (is_known 149)
unfolding is_known
add_imm_64_known = refl

pub add_imm_64_form : form_of 149 ≡ RRX
unfolding form_of
add_imm_64_form = refl

pub mul_imm_64_known : IsTrue (is_known 150)
unfolding is_known
mul_imm_64_known = refl

pub mul_imm_64_form : form_of 150 ≡ RRX
unfolding form_of
mul_imm_64_form = refl

pub shlo_l_imm_64_known : IsTrue (is_known 151)
unfolding is_known
shlo_l_imm_64_known = refl

pub shlo_l_imm_64_form : form_of 151 ≡ RRX
unfolding form_of
shlo_l_imm_64_form = refl

pub shlo_r_imm_64_known : IsTrue (is_known 152)
unfolding is_known
shlo_r_imm_64_known = refl

pub shlo_r_imm_64_form : form_of 152 ≡ RRX
unfolding form_of
shlo_r_imm_64_form = refl

pub shar_r_imm_64_known : IsTrue (is_known 153)
unfolding is_known
shar_r_imm_64_known = refl

pub shar_r_imm_64_form : form_of 153 ≡ RRX
unfolding form_of
shar_r_imm_64_form = refl

pub neg_add_imm_64_known : IsTrue (is_known 154)
unfolding is_known
neg_add_imm_64_known = refl

pub neg_add_imm_64_form : form_of 154 ≡ RRX
unfolding form_of
neg_add_imm_64_form = refl

pub shlo_l_imm_alt_64_known : IsTrue (is_known 155)
unfolding is_known
shlo_l_imm_alt_64_known = refl

pub shlo_l_imm_alt_64_form : form_of 155 ≡ RRX
unfolding form_of
shlo_l_imm_alt_64_form = refl

pub shlo_r_imm_alt_64_known : IsTrue (is_known 156)
unfolding is_known
shlo_r_imm_alt_64_known = refl

pub shlo_r_imm_alt_64_form : form_of 156 ≡ RRX
unfolding form_of
shlo_r_imm_alt_64_form = refl

pub shar_r_imm_alt_64_known : IsTrue (is_known 157)
unfolding is_known
shar_r_imm_alt_64_known = refl

pub shar_r_imm_alt_64_form : form_of 157 ≡ RRX
unfolding form_of
shar_r_imm_alt_64_form = refl

pub rot_r_64_imm_known : IsTrue (is_known 158)
unfolding is_known
rot_r_64_imm_known = refl

pub rot_r_64_imm_form : form_of 158 ≡ RRX
unfolding form_of
rot_r_64_imm_form = refl

pub rot_r_64_imm_alt_known : IsTrue (is_known 159)
unfolding is_known
rot_r_64_imm_alt_known = refl

pub rot_r_64_imm_alt_form : form_of 159 ≡ RRX
unfolding form_of
rot_r_64_imm_alt_form = refl

pub rot_r_32_imm_known : IsTrue (is_known 160)
unfolding is_known
rot_r_32_imm_known = refl

pub rot_r_32_imm_form : form_of 160 ≡ RRX
unfolding form_of
rot_r_32_imm_form = refl

pub rot_r_32_imm_alt_known : IsTrue (is_known 161)
unfolding is_known
rot_r_32_imm_alt_known = refl

pub rot_r_32_imm_alt_form : form_of 161 ≡ RRX
unfolding form_of
rot_r_32_imm_alt_form = refl

pub branch_eq_known : IsTrue (is_known 170)
unfolding is_known
branch_eq_known = refl

pub branch_eq_form : form_of 170 ≡ RRO
unfolding form_of
branch_eq_form = refl

pub branch_ne_known : IsTrue (is_known 171)
unfolding is_known
branch_ne_known = refl

pub branch_ne_form : form_of 171 ≡ RRO
unfolding form_of
branch_ne_form = refl

pub branch_lt_u_known : IsTrue (is_known 172)
unfolding is_known
branch_lt_u_known = refl

pub branch_lt_u_form : form_of 172 ≡ RRO
unfolding form_of
branch_lt_u_form = refl

pub branch_lt_s_known : IsTrue (is_known 173)
unfolding is_known
branch_lt_s_known = refl

pub branch_lt_s_form : form_of 173 ≡ RRO
unfolding form_of
branch_lt_s_form = refl

pub branch_ge_u_known : IsTrue (is_known 174)
unfolding is_known
branch_ge_u_known = refl

pub branch_ge_u_form : form_of 174 ≡ RRO
unfolding form_of
branch_ge_u_form = refl

pub branch_ge_s_known : IsTrue (is_known 175)
unfolding is_known
branch_ge_s_known = refl

pub branch_ge_s_form : form_of 175 ≡ RRO
unfolding form_of
branch_ge_s_form = refl

pub load_imm_jump_ind_known : IsTrue (is_known 180)
unfolding is_known
load_imm_jump_ind_known = refl

pub load_imm_jump_ind_form : form_of 180 ≡ RRXY
unfolding form_of
load_imm_jump_ind_form = refl

pub add_32_known : IsTrue (is_known 190)
unfolding is_known
add_32_known = refl

pub add_32_form : form_of 190 ≡ RRR
unfolding form_of
add_32_form = refl

pub sub_32_known : IsTrue (is_known 191)
unfolding is_known
sub_32_known = refl

pub sub_32_form : form_of 191 ≡ RRR
unfolding form_of
sub_32_form = refl

pub mul_32_known : IsTrue (is_known 192)
unfolding is_known
mul_32_known = refl

pub mul_32_form : form_of 192 ≡ RRR
unfolding form_of
mul_32_form = refl

pub div_u_32_known : IsTrue (is_known 193)
unfolding is_known
div_u_32_known = refl

pub div_u_32_form : form_of 193 ≡ RRR
unfolding form_of
div_u_32_form = refl

pub div_s_32_known : IsTrue (is_known 194)
unfolding is_known
div_s_32_known = refl

pub div_s_32_form : form_of 194 ≡ RRR
unfolding form_of
div_s_32_form = refl

pub rem_u_32_known : IsTrue (is_known 195)
unfolding is_known
rem_u_32_known = refl

pub rem_u_32_form : form_of 195 ≡ RRR
unfolding form_of
rem_u_32_form = refl

pub rem_s_32_known : IsTrue (is_known 196)
unfolding is_known
rem_s_32_known = refl

pub rem_s_32_form : form_of 196 ≡ RRR
unfolding form_of
rem_s_32_form = refl

pub shlo_l_32_known : IsTrue (is_known 197)
unfolding is_known
shlo_l_32_known = refl

pub shlo_l_32_form : form_of 197 ≡ RRR
unfolding form_of
shlo_l_32_form = refl

pub shlo_r_32_known : IsTrue (is_known 198)
unfolding is_known
shlo_r_32_known = refl

pub shlo_r_32_form : form_of 198 ≡ RRR
unfolding form_of
shlo_r_32_form = refl

pub shar_r_32_known : IsTrue (is_known 199)
unfolding is_known
shar_r_32_known = refl

pub shar_r_32_form : form_of 199 ≡ RRR
unfolding form_of
shar_r_32_form = refl

pub add_64_known : IsTrue (is_known 200)
unfolding is_known
add_64_known = refl

pub add_64_form : form_of 200 ≡ RRR
unfolding form_of
add_64_form = refl

pub sub_64_known : IsTrue (is_known 201)
unfolding is_known
sub_64_known = refl

pub sub_64_form : form_of 201 ≡ RRR
unfolding form_of
sub_64_form = refl

pub mul_64_known : IsTrue (is_known 202)
unfolding is_known
mul_64_known = refl

pub mul_64_form : form_of 202 ≡ RRR
unfolding form_of
mul_64_form = refl

pub div_u_64_known : IsTrue (is_known 203)
unfolding is_known
div_u_64_known = refl

pub div_u_64_form : form_of 203 ≡ RRR
unfolding form_of
div_u_64_form = refl

pub div_s_64_known : IsTrue (is_known 204)
unfolding is_known
div_s_64_known = refl

pub div_s_64_form : form_of 204 ≡ RRR
unfolding form_of
div_s_64_form = refl

pub rem_u_64_known : IsTrue (is_known 205)
unfolding is_known
rem_u_64_known = refl

pub rem_u_64_form : form_of 205 ≡ RRR
unfolding form_of
rem_u_64_form = refl

pub rem_s_64_known : IsTrue (is_known 206)
unfolding is_known
rem_s_64_known = refl

pub rem_s_64_form : form_of 206 ≡ RRR
unfolding form_of
rem_s_64_form = refl

pub shlo_l_64_known : IsTrue (is_known 207)
unfolding is_known
shlo_l_64_known = refl

pub shlo_l_64_form : form_of 207 ≡ RRR
unfolding form_of
shlo_l_64_form = refl

pub shlo_r_64_known : IsTrue (is_known 208)
unfolding is_known
shlo_r_64_known = refl

pub shlo_r_64_form : form_of 208 ≡ RRR
unfolding form_of
shlo_r_64_form = refl

pub shar_r_64_known : IsTrue (is_known 209)
unfolding is_known
shar_r_64_known = refl

pub shar_r_64_form : form_of 209 ≡ RRR
unfolding form_of
shar_r_64_form = refl

pub and_known : IsTrue (is_known 210)
unfolding is_known
and_known = refl

pub and_form : form_of 210 ≡ RRR
unfolding form_of
and_form = refl

pub xor_known : IsTrue (is_known 211)
unfolding is_known
xor_known = refl

pub xor_form : form_of 211 ≡ RRR
unfolding form_of
xor_form = refl

pub or_known : IsTrue (is_known 212)
unfolding is_known
or_known = refl

pub or_form : form_of 212 ≡ RRR
unfolding form_of
or_form = refl

pub mul_upper_s_s_known : IsTrue (is_known 213)
unfolding is_known
mul_upper_s_s_known = refl

pub mul_upper_s_s_form : form_of 213 ≡ RRR
unfolding form_of
mul_upper_s_s_form = refl

pub mul_upper_u_u_known : IsTrue (is_known 214)
unfolding is_known
mul_upper_u_u_known = refl

pub mul_upper_u_u_form : form_of 214 ≡ RRR
unfolding form_of
mul_upper_u_u_form = refl

pub mul_upper_s_u_known : IsTrue (is_known 215)
unfolding is_known
mul_upper_s_u_known = refl

pub mul_upper_s_u_form : form_of 215 ≡ RRR
unfolding form_of
mul_upper_s_u_form = refl

pub set_lt_u_known : IsTrue (is_known 216)
unfolding is_known
set_lt_u_known = refl

pub set_lt_u_form : form_of 216 ≡ RRR
unfolding form_of
set_lt_u_form = refl

pub set_lt_s_known : IsTrue (is_known 217)
unfolding is_known
set_lt_s_known = refl

pub set_lt_s_form : form_of 217 ≡ RRR
unfolding form_of
set_lt_s_form = refl

pub cmov_iz_known : IsTrue (is_known 218)
unfolding is_known
cmov_iz_known = refl

pub cmov_iz_form : form_of 218 ≡ RRR
unfolding form_of
cmov_iz_form = refl

pub cmov_nz_known : IsTrue (is_known 219)
unfolding is_known
cmov_nz_known = refl

pub cmov_nz_form : form_of 219 ≡ RRR
unfolding form_of
cmov_nz_form = refl

pub rot_l_64_known : IsTrue (is_known 220)
unfolding is_known
rot_l_64_known = refl

pub rot_l_64_form : form_of 220 ≡ RRR
unfolding form_of
rot_l_64_form = refl

pub rot_l_32_known : IsTrue (is_known 221)
unfolding is_known
rot_l_32_known = refl

pub rot_l_32_form : form_of 221 ≡ RRR
unfolding form_of
rot_l_32_form = refl

pub rot_r_64_known : IsTrue (is_known 222)
unfolding is_known
rot_r_64_known = refl

pub rot_r_64_form : form_of 222 ≡ RRR
unfolding form_of
rot_r_64_form = refl

pub rot_r_32_known : IsTrue (is_known 223)
unfolding is_known
rot_r_32_known = refl

pub rot_r_32_form : form_of 223 ≡ RRR
unfolding form_of
rot_r_32_form = refl

pub and_inv_known : IsTrue (is_known 224)
unfolding is_known
and_inv_known = refl

pub and_inv_form : form_of 224 ≡ RRR
unfolding form_of
and_inv_form = refl

pub or_inv_known : IsTrue (is_known 225)
unfolding is_known
or_inv_known = refl

pub or_inv_form : form_of 225 ≡ RRR
unfolding form_of
or_inv_form = refl

pub xnor_known : IsTrue (is_known 226)
unfolding is_known
xnor_known = refl

pub xnor_form : form_of 226 ≡ RRR
unfolding form_of
xnor_form = refl

pub max_known : IsTrue (is_known 227)
unfolding is_known
max_known = refl

pub max_form : form_of 227 ≡ RRR
unfolding form_of
max_form = refl

pub max_u_known : IsTrue (is_known 228)
unfolding is_known
max_u_known = refl

pub max_u_form : form_of 228 ≡ RRR
unfolding form_of
max_u_form = refl

pub min_known : IsTrue (is_known 229)
unfolding is_known
min_known = refl

pub min_form : form_of 229 ≡ RRR
unfolding form_of
min_form = refl

pub min_u_known : IsTrue (is_known 230)
unfolding is_known
min_u_known = refl

pub min_u_form : form_of 230 ≡ RRR
unfolding form_of
min_u_form = refl
