-- Words that need nothing else have no fault, and words are four bytes apart.
use Rattle.std.proofs.Common.{◌≡◌, ℕ, zero, suc, ◌+◌, ◌-◌, ◌*◌, ◌≤◌, ◌<◌, ◌%◌, ◌^◌, Bool, true, false, List, [], ◌++◌, length, inl, inr, Option, Some, None, refl, sym, ap, ◌∙◌, arith}
use Rattle.std.specs.Prelude.{◌&&◌, nat_eq, nat_le, if◌then◌else◌, Result, Ok, Err}
use Rattle.numbers.specs.Words.{word_of}
use Rattle.std.proofs.lemmas.Bool.{leb-true}
use Rattle.std.proofs.Math.Nat.{eq-or-lt_of_le}
use Rattle.std.specs.List.{filter}
use Rattle.std.specs.Option.{option_map}
use Rattle.faults.specs.First.{first_below, ◌or_else◌}
use Rattle.faults.proofs.Firsts.{first_below-more}
use Rattle.elf_objects.specs.declared.parts.Relocation.{Relocation}
use Rattle.elf_objects.specs.Objects.{relocations_of}
use Rattle.symbols.specs.Parts.{object_at}
use Rattle.symbols.specs.Resolution.{entry_place}
use Rattle.symbols.specs.Wanted.{Given, kept_objects}
use Rattle.rv_decode.specs.declared.ops.RvOp.{RvOp}
use Rattle.rv_decode.specs.declared.ops.RvOp.TheVariants as rv
use Rattle.rv_decode.specs.declared.ops.WordFault.{WordFault}
use Rattle.relocs.specs.CodeFaults.{fault_at, fault_at_offset, operation_codes, is_entry_at, entry_codes, codes_at, use_codes, word_fault}
use Rattle.relocs.specs.Operands.{least, listed}
use Rattle.relocs.specs.ByOffset.{is_at, IsRow}
use Rattle.relocs.specs.Pairs.{relocation_is_at, relocations_at, is_second, is_pair_at, is_place, joins}
use Rattle.relocs.specs.Places.{Code, code_at}
use Rattle.relocs.specs.Sites.{IsCodeSection}
use Rattle.relocs.specs.Words.{word_of_place, raw_at, decoded, word_in, word_or_trap, is_code_offset, is_offset_in}
use Rattle.relocs.proofs.AllPlaces.{place_is}
use Rattle.relocs.proofs.ByOffset.{filter_again}
use Rattle.relocs.proofs.Parting.{filters_commute}
use Rattle.lift_blocks.specs.FirstFault.{AreAligned, is_complete, is_alone, is_plain, ends_no_pair, word_target, leads_on, is_direct}
use Rattle.lift_blocks.proofs.FirstFault.{both_true, none_is, if_none, complete_codes, each_empty, no_fault}

alone_complete : (op : Option RvOp) → is_alone op ≡ true → is_complete op ≡ true
alone_complete None e = absurd cc
alone_complete (Some (rv.Lui rd value)) e = refl
alone_complete (Some (rv.Auipc rd value)) e = absurd cc
alone_complete (Some (rv.Jal rd offset)) e = absurd cc
alone_complete (Some (rv.Jalr rd rs1 imm)) e = absurd cc
alone_complete (Some (rv.Branch cond rs1 rs2 offset)) e = absurd cc
alone_complete (Some (rv.Load width rd rs1 imm)) e = refl
alone_complete (Some (rv.Store width rs1 rs2 imm)) e = refl
alone_complete (Some (rv.OpImm op rd rs1 imm)) e = refl
alone_complete (Some (rv.Op op rd rs1 rs2)) e = refl
alone_complete (Some rv.Fence) e = refl
alone_complete (Some rv.Trap) e = refl

alone_ends : (op : Option RvOp) → is_alone op ≡ true → ends_no_pair op ≡ true
alone_ends None e = absurd cc
alone_ends (Some (rv.Lui rd value)) e = refl
alone_ends (Some (rv.Auipc rd value)) e = absurd cc
alone_ends (Some (rv.Jal rd offset)) e = absurd cc
alone_ends (Some (rv.Jalr rd rs1 imm)) e = absurd cc
alone_ends (Some (rv.Branch cond rs1 rs2 offset)) e = absurd cc
alone_ends (Some (rv.Load width rd rs1 imm)) e = refl
alone_ends (Some (rv.Store width rs1 rs2 imm)) e = refl
alone_ends (Some (rv.OpImm op rd rs1 imm)) e = refl
alone_ends (Some (rv.Op op rd rs1 rs2)) e = refl
alone_ends (Some rv.Fence) e = refl
alone_ends (Some rv.Trap) e = refl

-- with it no pair ends
joins_none : (first second : Option RvOp) → ends_no_pair second ≡ true → joins first second ≡ false
joins_none None second e = refl
joins_none (Some (rv.Lui rd value)) second e = refl
joins_none (Some (rv.Jal rd offset)) second e = refl
joins_none (Some (rv.Jalr rd rs1 imm)) second e = refl
joins_none (Some (rv.Branch cond rs1 rs2 offset)) second e = refl
joins_none (Some (rv.Load width rd rs1 imm)) second e = refl
joins_none (Some (rv.Store width rs1 rs2 imm)) second e = refl
joins_none (Some (rv.OpImm op rd rs1 imm)) second e = refl
joins_none (Some (rv.Op op rd rs1 rs2)) second e = refl
joins_none (Some rv.Fence) second e = refl
joins_none (Some rv.Trap) second e = refl
joins_none (Some (rv.Auipc rd value)) None e = absurd cc
joins_none (Some (rv.Auipc rd value)) (Some (rv.Lui rd' value')) e = refl
joins_none (Some (rv.Auipc rd value)) (Some (rv.Auipc rd' value')) e = refl
joins_none (Some (rv.Auipc rd value)) (Some (rv.Jal rd' offset)) e = refl
joins_none (Some (rv.Auipc rd value)) (Some (rv.Jalr rd' rs1 imm)) e = absurd cc
joins_none (Some (rv.Auipc rd value)) (Some (rv.Branch cond rs1 rs2 offset)) e = refl
joins_none (Some (rv.Auipc rd value)) (Some (rv.Load width rd' rs1 imm)) e = refl
joins_none (Some (rv.Auipc rd value)) (Some (rv.Store width rs1 rs2 imm)) e = refl
joins_none (Some (rv.Auipc rd value)) (Some (rv.OpImm op rd' rs1 imm)) e = refl
joins_none (Some (rv.Auipc rd value)) (Some (rv.Op op rd' rs1 rs2)) e = refl
joins_none (Some (rv.Auipc rd value)) (Some rv.Fence) e = refl
joins_none (Some (rv.Auipc rd value)) (Some rv.Trap) e = refl

no_second : (given : Given) (o s f : ℕ) → ends_no_pair (raw_at given (Code o s f)) ≡ true → is_second given (Code o s f) ≡ false
unfolding is_pair_at
no_second given o s f e = by_size (nat_le 4 f) refl
  where
    by_size : (b : Bool) → nat_le 4 f ≡ b → (b && is_pair_at given o s (f - 4)) ≡ false
    by_size false g = refl
    by_size true g =
        let le = leb-true 4 f g in
        let here : f - 4 + 4 ≡ f = omega (arith, le) in
        let none : joins (raw_at given (Code o s (f - 4))) (raw_at given (Code o s (f - 4 + 4))) ≡ false =
        ap (λ k. joins (raw_at given (Code o s (f - 4))) (raw_at given (Code o s k))) here ∙ joins_none (raw_at given (Code o s (f - 4))) (raw_at given (Code o s f)) e in
        rw none refl

no_word_fault : (w : Option (Result RvOp WordFault)) → ends_no_pair (decoded w) ≡ true → word_fault w ≡ None
no_word_fault None e = absurd cc
no_word_fault (Some (Ok op)) e = refl
no_word_fault (Some (Err fault)) e = absurd cc

-- an operation that has none of its own, and with which no pair ends, has no fault without relocations
no_codes :
    (given : Given) (o s f : ℕ) → ends_no_pair (raw_at given (Code o s f)) ≡ true → operation_codes given o s f (raw_at given (Code o s f)) [] ≡ [] → relocations_at given o s f ≡ []
    → (codes_at given o s f ++ entry_codes given o s f) ≡ []
no_codes given o s f e operation none =
    let uses : use_codes given o s f ≡ [] = rw none (ap (λ l. l ++ []) (if_none (is_second given (Code o s f)) (operation_codes given o s f (raw_at given (Code o s f)) []) operation)) in
    let codes : codes_at given o s f ≡ [] = ap (λ w. listed w ++ use_codes given o s f) (no_word_fault (word_of_place given (Code o s f)) e) ∙ uses in
    let entries : entry_codes given o s f ≡ [] = each_empty _ (λ k. is_entry_at o s f (entry_place given k)) (is_second given (Code o s f)) (no_second given o s f e) in
    ap (λ l. l ++ entry_codes given o s f) codes ∙ entries

-- such a word has no fault
pub no_fault_at : (given : Given) (o s f : ℕ) → is_plain given o s f ≡ true → fault_at_offset given o s f ≡ None
no_fault_at given o s f e =
    let op = raw_at given (Code o s f) in
    let both = both_true (is_alone op) _ e in
    ap (λ l. option_map (fault_at o s f) (least l)) (no_codes given o s f (alone_ends op both.0) (complete_codes given o s f op (alone_complete op both.0)) (none_is (relocations_at given o s f) both.1))

-- ---- branches and jal

there_offset : (code : Option (List ℕ)) (f : ℕ) → ends_no_pair (decoded (word_in code f)) ≡ true → is_offset_in code f ≡ true
there_offset None f e = absurd cc
there_offset (Some bytes) f e = by_offset (is_code_offset (length bytes) f) refl e
  where
    by_offset : (b : Bool) → is_code_offset (length bytes) f ≡ b → ends_no_pair (decoded (if b then Some (word_or_trap bytes f) else None)) ≡ true → is_code_offset (length bytes) f ≡ true
    by_offset true g e = g
    by_offset false g e = absurd cc

-- a word with which no pair ends is at a place
place_there : (given : Given) (o s f : ℕ) → ends_no_pair (raw_at given (Code o s f)) ≡ true → is_place given (Code o s f) ≡ true
place_there given o s f e = place_is given o s f ∙ rw (no_second given o s f e, there_offset (code_at given o s) f e) refl

none_if : (b : Bool) (code : ℕ) → b ≡ true → listed (if b then None else Some code) ≡ []
none_if true code e = refl
none_if false code e = absurd cc

direct_codes : (given : Given) (o s f : ℕ) (op : Option RvOp) → leads_on given (word_target o s f op) ≡ true → operation_codes given o s f op [] ≡ []
direct_codes given o s f None e = absurd cc
direct_codes given o s f (Some (rv.Lui rd value)) e = absurd cc
direct_codes given o s f (Some (rv.Auipc rd value)) e = absurd cc
direct_codes given o s f (Some (rv.Jal rd by)) e = none_if _ _ (place_there given o s ((f + word_of by) % 2 ^ 64) e)
direct_codes given o s f (Some (rv.Jalr rd rs1 imm)) e = absurd cc
direct_codes given o s f (Some (rv.Branch cond rs1 rs2 by)) e = none_if _ _ (place_there given o s ((f + word_of by) % 2 ^ 64) e)
direct_codes given o s f (Some (rv.Load width rd rs1 imm)) e = absurd cc
direct_codes given o s f (Some (rv.Store width rs1 rs2 imm)) e = absurd cc
direct_codes given o s f (Some (rv.OpImm op rd rs1 imm)) e = absurd cc
direct_codes given o s f (Some (rv.Op op rd rs1 rs2)) e = absurd cc
direct_codes given o s f (Some rv.Fence) e = absurd cc
direct_codes given o s f (Some rv.Trap) e = absurd cc

direct_ends : (given : Given) (o s f : ℕ) (op : Option RvOp) → leads_on given (word_target o s f op) ≡ true → ends_no_pair op ≡ true
direct_ends given o s f None e = absurd cc
direct_ends given o s f (Some (rv.Lui rd value)) e = refl
direct_ends given o s f (Some (rv.Auipc rd value)) e = refl
direct_ends given o s f (Some (rv.Jal rd by)) e = refl
direct_ends given o s f (Some (rv.Jalr rd rs1 imm)) e = absurd cc
direct_ends given o s f (Some (rv.Branch cond rs1 rs2 by)) e = refl
direct_ends given o s f (Some (rv.Load width rd rs1 imm)) e = refl
direct_ends given o s f (Some (rv.Store width rs1 rs2 imm)) e = refl
direct_ends given o s f (Some (rv.OpImm op rd rs1 imm)) e = refl
direct_ends given o s f (Some (rv.Op op rd rs1 rs2)) e = refl
direct_ends given o s f (Some rv.Fence) e = refl
direct_ends given o s f (Some rv.Trap) e = refl

-- a branch or a jal to such a word has no fault without relocations
pub no_direct_fault : (given : Given) (o s f : ℕ) → is_direct given o s f ≡ true → fault_at_offset given o s f ≡ None
no_direct_fault given o s f e =
    let op = raw_at given (Code o s f) in
    let both = both_true (leads_on given (word_target o s f op)) _ e in
    ap (λ l. option_map (fault_at o s f) (least l)) (no_codes given o s f (direct_ends given o s f op both.0) (direct_codes given o s f op both.0) (none_is (relocations_at given o s f) both.1))

pub ruleset no_faults = (no_fault_at, no_direct_fault)

-- ---- words in a row

-- between words there is no fault where relocations are at words alone
pub words_more :
    (given : Given) (o s w limit : ℕ) → IsCodeSection given o s → AreAligned (relocations_of (object_at (kept_objects given) o) s) limit → 4 * w + 3 < limit
    → first_below (4 * w) (fault_at_offset given o s) ≡ None → fault_at_offset given o s (4 * w) ≡ None → first_below (4 * (w + 1)) (fault_at_offset given o s) ≡ None
words_more given o s w limit section aligned within before here =
    let f = fault_at_offset given o s in
    let odd1 : nat_eq ((4 * w + 1) % 4) 0 ≡ false = grind arith in
    let odd2 : nat_eq ((4 * w + 2) % 4) 0 ≡ false = grind arith in
    let odd3 : nat_eq ((4 * w + 3) % 4) 0 ≡ false = grind arith in
    let a = first_below-more f (4 * w) (4 * w + 1) refl before here in
    let b = first_below-more f (4 * w + 1) (4 * w + 2) (omega arith) a (sym (no_fault given o s (4 * w + 1) limit section aligned (omega (arith, within)) odd1)) in
    let c = first_below-more f (4 * w + 2) (4 * w + 3) (omega arith) b (sym (no_fault given o s (4 * w + 2) limit section aligned (omega (arith, within)) odd2)) in
    first_below-more f (4 * w + 3) (4 * (w + 1)) (omega arith) c (sym (no_fault given o s (4 * w + 3) limit section aligned within odd3))

left_none : {F : Type 0} (a b : Option F) → (a or_else b) ≡ None → a ≡ None
left_none None b e = refl
left_none (Some x) b e = absurd cc

-- what is nowhere below a number is nowhere below a lesser one
pub none_below : {F : Type 0} (f : ℕ → Option F) (n m : ℕ) → m ≤ n → first_below n f ≡ None → first_below m f ≡ None
none_below f zero m le e = (let same : m ≡ 0 = omega (arith, le) in rw same refl)
none_below f (suc n) m le e =
    elim (eq-or-lt_of_le le) [ inl same ↦ rw same e | inr less ↦ none_below f n m (omega (arith, less)) (left_none (first_below n f) (f n) e) ]

-- ---- relocations by offset

-- what changes nothing at an offset of a row changes nothing at that of its table
pub aligned_table : (table row : List Relocation) (limit : ℕ) → IsRow table row → AreAligned row limit → AreAligned table limit
aligned_table table row limit is aligned = record {
  below = λ f lt odd.
      sym (filter_again (relocation_is_at f) table) ∙ ap (filter (relocation_is_at f)) (sym (is.each f)) ∙ filters_commute (relocation_is_at f) (is_at f) row
      ∙ ap (filter (is_at f)) (aligned.below f lt odd);
}
