-- What ties the reading of programs to their grammar.
use Rattle.std.proofs.Common.{◌≡◌, ℕ, zero, suc, ◌+◌, ◌*◌, ◌/◌, ◌%◌, ◌^◌, ◌<◌, ◌≤◌, false, cond, ltb, eqb, List, [], ◌∷◌, ◌++◌, length, take, drop, Ok, Err, refl, sym, ap, subst, ◌∙◌, append_assoc, arith}
use Rattle.std.specs.Prelude.{◌||◌, ◌&&◌, slice_index}
use Rattle.std.specs.List.{flat_map, AllByRecursion}
use Rattle.std.proofs.lemmas.Bool.{eqb-true, eq-eqb}
use Rattle.std.proofs.lemmas.Bool.Decides.{nat_tests}
use Rattle.std.proofs.Math.Nat.{mod-eq_of_lt}
use Rattle.numbers.proofs.BytesLaws.{length-little, number_of-little}
use Rattle.std.proofs.lemmas.List.{append-nil, nil_from_length, take_at, drop_at, length-append, length-take, length-drop, take-append-drop}
use Rattle.std.proofs.lemmas.List.Elements.{All-from_recursion, recursion_from_All}
use Rattle.std.proofs.lemmas.List.Concat.{flat_map-cons}
use Rattle.numbers.specs.Bytes.{little, number_of}
use Rattle.blob_codec.specs.declared.fault.BlobFault.TheVariants.{BadWidth, BadPadding, LeftOver}
use Rattle.blob_codec.specs.declared.program.Counts.{Counts}
use Rattle.blob_codec.specs.Grammar.{natural, Program, program_bytes, IsProgram}
use Rattle.blob_codec.specs.Reading.{AreBytes, ◌>>=◌, read_byte, read_bytes, read_natural, read_width, read_counts, read_mask, entries_of, program_of}
use Rattle.blob_codec.specs.Laws.{ProgramsAreSpelled, ProgramsAreRead, ProgramsHaveOneSpelling, ProgramsDiffer, ProgramsOrFaults}
use Rattle.blob_codec.proofs.Entries.{length-entries_of}
use Rattle.blob_codec.proofs.FieldLaws.{bind_ok, guard_ok, kept_ok, ok_is, Takes, Takes-then, Takes-all, byte_takes, bytes_take, bytes_again, AreBytes-take, AreBytes-drop, little-number_of, number_of-lt, or_fault}
use Rattle.blob_codec.proofs.Naturals.{natural_takes, natural_again}

-- a width that is taken
record IsWidth (width table_len : ℕ) : Type 0 where
  most : width ≤ 8
  some : width ≡ 0 → table_len ≡ 0

width_ok : (width table_len : ℕ) → (ltb 8 width || (eqb width 0 && ltb 0 table_len)) ≡ false → IsWidth width table_len
width_ok width table_len e = record { most = grind (arith, nat_tests); some = grind (arith, nat_tests) }

ok_width : (width table_len : ℕ) → IsWidth width table_len → (ltb 8 width || (eqb width 0 && ltb 0 table_len)) ≡ false
ok_width width table_len h = (let most = h.most in let some = h.some in grind (arith, nat_tests))

width_takes : (table_len : ℕ) (bytes : List ℕ) (x : ℕ × List ℕ) → AreBytes bytes → read_width table_len bytes ≡ Ok x → Takes bytes (x.0 ∷ []) x.1 × IsWidth x.0 table_len
unfolding read_width
width_takes table_len bytes x h e =
    let a = bind_ok (read_byte bytes) (λ width. cond (ltb 8 width.0 || (eqb width.0 0 && ltb 0 table_len)) (Err BadWidth) (Ok width)) x e in
    let g = guard_ok (ltb 8 a.0.0 || (eqb a.0.0 0 && ltb 0 table_len)) BadWidth a.0 x a.2 in
    let front = byte_takes bytes a.0 h a.1 in
    subst (λ (y : ℕ × List ℕ). Takes bytes (y.0 ∷ []) y.1 × IsWidth y.0 table_len) {x = a.0} {y = x} g.1 (front.0, width_ok a.0.0 table_len g.0)

width_again : (table_len width : ℕ) (rest : List ℕ) → IsWidth width table_len → read_width table_len (width ∷ rest) ≡ Ok (width, rest)
unfolding read_width
width_again table_len width rest h = rw (ok_width width table_len h) refl

-- what a program begins with, and its spelling
pub counts_bytes : Counts → List ℕ
counts_bytes counts = natural counts.table_len ++ (counts.width ∷ []) ++ natural counts.code_len

record AreCounts (counts : Counts) : Type 0 where
  table_len : counts.table_len < 2 ^ 64
  width : IsWidth counts.width counts.table_len
  code_len : counts.code_len < 2 ^ 64

counts_take : (bytes : List ℕ) (x : Counts × List ℕ) → AreBytes bytes → read_counts bytes ≡ Ok x → Takes bytes (counts_bytes x.0) x.1 × AreCounts x.0
unfolding read_counts counts_bytes
counts_take bytes x h e =
    let a = bind_ok (read_natural bytes) (λ table_len. read_width table_len.0 table_len.1 >>= λ width. read_natural width.1 >>= λ code_len. Ok (record { table_len = table_len.0; width = width.0; code_len = code_len.0 }, code_len.1)) x e in
    let b = bind_ok (read_width a.0.0 a.0.1) (λ width. read_natural width.1 >>= λ code_len. Ok (record { table_len = a.0.0; width = width.0; code_len = code_len.0 }, code_len.1)) x a.2 in
    let c = bind_ok (read_natural b.0.1) (λ code_len. Ok (record { table_len = a.0.0; width = b.0.0; code_len = code_len.0 }, code_len.1)) x b.2 in
    let first = natural_takes bytes a.0 h a.1 in
    let second = width_takes a.0.0 a.0.1 b.0 first.0.rest_bytes b.1 in
    let third = natural_takes b.0.1 c.0 second.0.rest_bytes c.1 in
    let two = Takes-then bytes (natural a.0.0) a.0.1 (b.0.0 ∷ []) b.0.1 first.0 second.0 in
    let three = Takes-then bytes (natural a.0.0 ++ (b.0.0 ∷ [])) b.0.1 (natural c.0.0) c.0.1 two third.0 in
    let made : Counts × List ℕ = (record { table_len = a.0.0; width = b.0.0; code_len = c.0.0 }, c.0.1) in
    subst (λ (y : Counts × List ℕ). Takes bytes (counts_bytes y.0) y.1 × AreCounts y.0) {x = made} {y = x} (ok_is made x c.2)
    (three, record { table_len = first.1; width = second.1; code_len = third.1 })

-- the bytes before what is left
pub counts_before : (bytes : List ℕ) (x : Counts × List ℕ) → AreBytes bytes → read_counts bytes ≡ Ok x → bytes ≡ counts_bytes x.0 ++ x.1
counts_before bytes x h e = (counts_take bytes x h e).0.parts

counts_again : (counts : Counts) (rest : List ℕ) → AreCounts counts → read_counts (natural counts.table_len ++ (counts.width ∷ (natural counts.code_len ++ rest))) ≡ Ok (counts, rest)
unfolding read_counts
counts_again counts rest h =
    rw (natural_again counts.table_len (counts.width ∷ (natural counts.code_len ++ rest)) h.table_len, width_again counts.table_len counts.width (natural counts.code_len ++ rest) h.width, natural_again counts.code_len rest h.code_len) refl

-- bits of a mask past the given number of bytes of code are zero
abbrev padding_of : List ℕ → ℕ → ℕ
padding_of mask code_len = slice_index mask (code_len / 8) / 2 ^ (code_len % 8)

mask_takes : (code_len : ℕ) (bytes : List ℕ) (x : List ℕ × List ℕ) → AreBytes bytes → read_mask code_len bytes ≡ Ok x
    → Takes bytes x.0 x.1 × (length x.0 ≡ (code_len + 7) / 8) × (padding_of x.0 code_len ≡ 0)
unfolding read_mask
mask_takes code_len bytes x h e =
    let a = bind_ok (read_bytes ((code_len + 7) / 8) bytes) (λ mask. cond (eqb (padding_of mask.0 code_len) 0) (Ok mask) (Err BadPadding)) x e in
    let g = kept_ok (eqb (padding_of a.0.0 code_len) 0) BadPadding a.0 x a.2 in
    let front = bytes_take ((code_len + 7) / 8) bytes a.0 h a.1 in
    subst (λ (y : List ℕ × List ℕ). Takes bytes y.0 y.1 × (length y.0 ≡ (code_len + 7) / 8) × (padding_of y.0 code_len ≡ 0)) {x = a.0} {y = x} g.1
    (front.0, front.1, eqb-true (padding_of a.0.0 code_len) 0 g.0)

mask_again : (code_len : ℕ) (mask rest : List ℕ) → length mask ≡ (code_len + 7) / 8 → padding_of mask code_len ≡ 0 → read_mask code_len (mask ++ rest) ≡ Ok (mask, rest)
unfolding read_mask
mask_again code_len mask rest len padding = rw (bytes_again mask rest ((code_len + 7) / 8) len, eq-eqb _ _ padding) refl

-- ---- tables

entries_spell : (n width : ℕ) (bytes : List ℕ) → length bytes ≡ n * width → AreBytes bytes → flat_map (little width) (entries_of n width bytes) ≡ bytes
unfolding entries_of
entries_spell zero width bytes len h = sym (nil_from_length bytes (omega arith))
entries_spell (suc n) width bytes len h =
    let first : length (take width bytes) ≡ width = omega (arith, length-take width bytes) in
    let others : length (drop width bytes) ≡ n * width = omega (arith, length-drop width bytes) in
    flat_map-cons (little width) (number_of (take width bytes)) (entries_of n width (drop width bytes))
    ∙ rw (little-number_of (take width bytes) width first (AreBytes-take width bytes h), entries_spell n width (drop width bytes) others (AreBytes-drop width bytes h)) (take-append-drop width bytes)

entries_fit : (n width : ℕ) (bytes : List ℕ) → length bytes ≡ n * width → AreBytes bytes → AllByRecursion (λ entry. entry < 2 ^ (8 * width)) (entries_of n width bytes)
unfolding entries_of
entries_fit zero width bytes len h = tt
entries_fit (suc n) width bytes len h =
    let first : length (take width bytes) ≡ width = omega (arith, length-take width bytes) in
    let others : length (drop width bytes) ≡ n * width = omega (arith, length-drop width bytes) in
    (number_of-lt (take width bytes) width first (AreBytes-take width bytes h), entries_fit n width (drop width bytes) others (AreBytes-drop width bytes h))

entries_again : (width : ℕ) (table : List ℕ) → AllByRecursion (λ entry. entry < 2 ^ (8 * width)) table → entries_of (length table) width (flat_map (little width) table) ≡ table
unfolding entries_of
entries_again width [] h = refl
entries_again width (x ∷ table) h =
    let back : number_of (little width x) ≡ x = number_of-little width x ∙ mod-eq_of_lt h.0 in
    ap (entries_of (suc (length table)) width) (flat_map-cons (little width) x table)
    ∙ rw (take_at (little width x) (flat_map (little width) table) width (length-little width x), drop_at (little width x) (flat_map (little width) table) width (length-little width x), back, entries_again width table h.1) refl

table_bytes : (width : ℕ) (table : List ℕ) → length (flat_map (little width) table) ≡ length table * width
table_bytes width [] = omega arith
table_bytes width (x ∷ table) =
    ap length (flat_map-cons (little width) x table)
    ∙ omega (arith, length-append (little width x) (flat_map (little width) table), length-little width x, table_bytes width table)

-- ---- programs

-- the parts of a program as they are read
made : ℕ → ℕ → List ℕ → List ℕ → List ℕ → Program
made table_len width entries code mask = record { table = entries_of table_len width entries; width = width; code = record { bytes = code; mask = mask } }

made_spelled : (n w k : ℕ) (entries code mask bytes : List ℕ) → length entries ≡ n * w → AreBytes entries → length code ≡ k
    → bytes ≡ natural n ++ (w ∷ []) ++ natural k ++ entries ++ code ++ mask → bytes ≡ program_bytes (made n w entries code mask)
unfolding made
made_spelled n w k entries code mask bytes len h code_len e =
    rw (length-entries_of n w entries, entries_spell n w entries len h, code_len) e

made_is : (n w k : ℕ) (entries code mask : List ℕ) → n < 2 ^ 64 → IsWidth w n → k < 2 ^ 64 → length entries ≡ n * w → AreBytes entries → length code ≡ k
    → length mask ≡ (k + 7) / 8 → padding_of mask k ≡ 0 → IsProgram (made n w entries code mask)
unfolding made
made_is n w k entries code mask few width small len h code_len mask_len padding = record {
  table_len = rw (length-entries_of n w entries) few;
  code_len = rw code_len small;
  width = width.most;
  some_width = λ e. nil_from_length (entries_of n w entries) (length-entries_of n w entries ∙ width.some e);
  entries = All-from_recursion (λ entry. entry < 2 ^ (8 * w)) (entries_of n w entries) (entries_fit n w entries len h);
  mask_len = rw code_len mask_len;
  padding = rw code_len padding;
}

pub program_takes : ProgramsAreSpelled
unfolding program_of counts_bytes made
program_takes bytes p h e =
    let a = bind_ok (read_counts bytes) (λ counts. read_bytes (counts.0.table_len * counts.0.width) counts.1 >>= λ entries. read_bytes counts.0.code_len entries.1 >>= λ code. read_mask counts.0.code_len code.1 >>= λ mask. cond (eqb (length mask.1) 0) (Ok (made counts.0.table_len counts.0.width entries.0 code.0 mask.0)) (Err LeftOver)) p e in
    let n = a.0.0.table_len in
    let w = a.0.0.width in
    let k = a.0.0.code_len in
    let b = bind_ok (read_bytes (n * w) a.0.1) (λ entries. read_bytes k entries.1 >>= λ code. read_mask k code.1 >>= λ mask. cond (eqb (length mask.1) 0) (Ok (made n w entries.0 code.0 mask.0)) (Err LeftOver)) p a.2 in
    let c = bind_ok (read_bytes k b.0.1) (λ code. read_mask k code.1 >>= λ mask. cond (eqb (length mask.1) 0) (Ok (made n w b.0.0 code.0 mask.0)) (Err LeftOver)) p b.2 in
    let d = bind_ok (read_mask k c.0.1) (λ mask. cond (eqb (length mask.1) 0) (Ok (made n w b.0.0 c.0.0 mask.0)) (Err LeftOver)) p c.2 in
    let g = kept_ok (eqb (length d.0.1) 0) LeftOver (made n w b.0.0 c.0.0 d.0.0) p d.2 in
    let counts = counts_take bytes a.0 h a.1 in
    let entries = bytes_take (n * w) a.0.1 b.0 counts.0.rest_bytes b.1 in
    let code = bytes_take k b.0.1 c.0 entries.0.rest_bytes c.1 in
    let mask = mask_takes k c.0.1 d.0 code.0.rest_bytes d.1 in
    let nothing : d.0.1 ≡ [] = nil_from_length d.0.1 (eqb-true (length d.0.1) 0 g.0) in
    let two = Takes-then bytes (counts_bytes a.0.0) a.0.1 b.0.0 b.0.1 counts.0 entries.0 in
    let three = Takes-then bytes (counts_bytes a.0.0 ++ b.0.0) b.0.1 c.0.0 c.0.1 two code.0 in
    let text = counts_bytes a.0.0 ++ b.0.0 ++ c.0.0 ++ d.0.0 in
    let four : Takes bytes text d.0.1 = Takes-then bytes (counts_bytes a.0.0 ++ b.0.0 ++ c.0.0) c.0.1 d.0.0 d.0.1 three mask.0 in
    let whole : bytes ≡ text = Takes-all bytes text d.0.1 four nothing in
    let program : Program = made n w b.0.0 c.0.0 d.0.0 in
    subst (λ (q : Program). IsProgram q × (bytes ≡ program_bytes q)) {x = program} {y = p} g.1 (
      made_is n w k b.0.0 c.0.0 d.0.0 counts.1.table_len counts.1.width counts.1.code_len entries.1 entries.2 code.1 mask.1 mask.2,
      made_spelled n w k b.0.0 c.0.0 d.0.0 bytes entries.1 entries.2 code.1 whole,
    )

regroup : (n : List ℕ) (w : ℕ) (k entries code mask : List ℕ) → n ++ (w ∷ []) ++ k ++ entries ++ code ++ mask ≡ n ++ (w ∷ (k ++ (entries ++ (code ++ (mask ++ [])))))
regroup n w k entries code mask = simp (append_assoc, append-nil)

pub program_again : ProgramsAreRead
unfolding program_of
program_again p h =
    let table_len = length p.table in
    let code = p.code.bytes in
    let mask = p.code.mask in
    let entries = flat_map (little p.width) p.table in
    let width : IsWidth p.width table_len = record { most = h.width; some = λ e. ap length (h.some_width e) } in
    let counts : Counts = record { table_len = table_len; width = p.width; code_len = length code } in
    let are : AreCounts counts = record { table_len = h.table_len; width = width; code_len = h.code_len } in
    ap program_of (regroup (natural table_len) p.width (natural (length code)) entries code mask)
    ∙ rw (
      counts_again counts (entries ++ (code ++ (mask ++ []))) are,
      bytes_again entries (code ++ (mask ++ [])) (table_len * p.width) (table_bytes p.width p.table),
      bytes_again code (mask ++ []) (length code) refl,
      mask_again (length code) mask [] h.mask_len h.padding,
      entries_again p.width p.table (recursion_from_All (λ entry. entry < 2 ^ (8 * p.width)) p.table h.entries),
    ) refl

pub programs_have_one_spelling : ProgramsHaveOneSpelling
programs_have_one_spelling a b p h k e f = (program_takes a p h e).1 ∙ sym (program_takes b p k f).1

pub programs_differ : ProgramsDiffer
programs_differ p q h k e = cc (program_again p h, program_again q k, ap program_of e)

pub programs_or_faults : ProgramsOrFaults
programs_or_faults bytes h = or_fault (program_of bytes) IsProgram (λ p. bytes ≡ program_bytes p) (λ p e. program_takes bytes p h e) (λ p is spelled. ap program_of spelled ∙ program_again p is)
