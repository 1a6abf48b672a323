-- The words of code sections, as they are kept.
use Rattle.std.proofs.Common.{◌≡◌, ◌*◌, ◌/◌, ◌%◌, ℕ, List, [], Option, Some, None, Bool, true, false, refl, ap, ◌∙◌, subst, arith, length}
use Rattle.std.specs.Prelude.{slice_get, unwrap_or, Result, IfSome, ◌&&◌, nat_eq, nat_le, if◌then◌else◌}
use Rattle.std.proofs.lemmas.Bool.{eqb-true, leb-true, leb-false}
use Rattle.std.proofs.lemmas.Option.{slice_get_within}
use Rattle.elf_objects.specs.Objects.{Object, Section}
use Rattle.elf_objects.specs.declared.parts.SectionKind.TheVariants as kinds
use Rattle.rv_decode.specs.declared.ops.RvOp.{RvOp}
use Rattle.rv_decode.specs.declared.ops.WordFault.{WordFault}
use Rattle.symbols.specs.Parts.{object_at, kind_of}
use Rattle.relocs.specs.Places.{code_if}
use Rattle.relocs.specs.ByOffset.{Row, HasTables, IsRowOf, IsCodeIn, IsCodeOf, HasWords, code_of, kept_word}
use Rattle.relocs.specs.Words.{word_in, word_or_trap}
use Rattle.relocs.proofs.Search.{past_le}

-- a section of code has bytes
bytes_of_code : (o : Option Section) → kind_of o ≡ kinds.Code → code_if true o ≡ Some (unwrap_or (code_if true o) [])
bytes_of_code None e = absurd cc
bytes_of_code (Some section) e = rw e refl

if_some : {A : Type 0} (P : A → Type 0) (o : Option A) (x : A) → o ≡ Some x → IfSome o P → P x
if_some P o x e f = subst (λ p. IfSome p P) e f

pub code_there : (objects : List Object) (o s : ℕ) → IsCodeIn objects o s → code_of (object_at objects o) s ≡ Some (unwrap_or (code_of (object_at objects o) s) [])
code_there objects o s code = bytes_of_code (slice_get (object_at objects o).sections s) code.1

-- what is kept of a code section is what it has
pub kept : (objects : List Object) (o s : ℕ) (row : Row) → IsCodeIn objects o s → IsCodeOf (object_at objects o) s row.words row.size
    → HasWords (unwrap_or (code_of (object_at objects o) s) []) row.words × (row.size ≡ length (unwrap_or (code_of (object_at objects o) s) []))
kept objects o s row code is = if_some _ (code_of (object_at objects o) s) (unwrap_or (code_of (object_at objects o) s) []) (code_there objects o s code) is

-- the word that is looked up is the one at the offset
pub kept_word_is : (bytes : List ℕ) (words : List (Result RvOp WordFault)) → HasWords bytes words → (offset : ℕ) → kept_word words offset ≡ word_in (Some bytes) offset
kept_word_is bytes words has offset = by_multiple (nat_eq (offset % 4) 0) refl
  where
    by_size : (b : Bool) → nat_eq (offset % 4) 0 ≡ true → nat_le offset (length bytes) ≡ b → (o : Option (Result RvOp WordFault)) → slice_get words (offset / 4) ≡ o → o ≡ (if b then Some (word_or_trap bytes offset) else None)
    by_size true m e None g = (let past = past_le words (offset / 4) g in let le = leb-true offset (length bytes) e in let c = has.count in absurd (omega (arith, past, le, c)))
    by_size true m e (Some word) g =
        let zero_rest = eqb-true (offset % 4) 0 m in
        let same : 4 * (offset / 4) ≡ offset = omega (arith, zero_rest) in
        ap Some (has.each (offset / 4) word g ∙ ap (word_or_trap bytes) same)
    by_size false m e None g = refl
    by_size false m e (Some word) g =
        let zero_rest = eqb-true (offset % 4) 0 m in
        let within = slice_get_within words (offset / 4) word g in
        let c = has.count in
        let gt = leb-false offset (length bytes) e in
        absurd (omega (arith, zero_rest, within, c, gt))

    by_multiple : (b : Bool) → nat_eq (offset % 4) 0 ≡ b → (if b then slice_get words (offset / 4) else None) ≡ (if (b && nat_le offset (length bytes)) then Some (word_or_trap bytes offset) else None)
    by_multiple true m = by_size (nat_le offset (length bytes)) m refl (slice_get words (offset / 4)) refl
    by_multiple false m = refl

-- the row that is found is that of the section
pub row_there : (objects : List Object) (tables : List (List Row)) (o s : ℕ) (rows : List Row) (row : Row) → HasTables objects tables → slice_get tables o ≡ Some rows → slice_get rows s ≡ Some row → IsRowOf (object_at objects o) s row
row_there objects tables o s rows row has e f = (has.each o rows e).each s row f
