-- The words of a generated text, one after another.
use Rattle.std.proofs.Common.{◌≡◌, ℕ, zero, suc, ◌*◌, ◌<◌, List, ◌++◌, refl, ap, ◌∙◌, arith}
use Rattle.numbers.specs.Bytes.{le_32}
use Rattle.numbers.specs.Words.{field}
use Rattle.elf_objects.specs.Fields.{word_32}
use Rattle.rv_decode.specs.Operations.{operation}
use Rattle.relocs.specs.Words.{word_at}
use Rattle.generated.specs.Words.{next, word_of, register, instruction, return_word}
use Rattle.generated.specs.Objects.{text}
use Rattle.generated.specs.Laws.{WordsAreOperations}
use Rattle.generated.proofs.Lengths.{len_32}
use Rattle.generated.proofs.Fields.{after-32, first-32}
use Rattle.generated_runs.specs.Operations.{operations}
use Rattle.generated_runs.specs.Laws.{TextsAreOperations}

instruction-fits : (kind rd rs1 rs2 immediate : ℕ) → kind < 8 → rd < 32 → rs1 < 32 → rs2 < 32 → immediate < 2048 → instruction kind rd rs1 rs2 immediate < 4294967296
unfolding instruction
instruction-fits zero rd rs1 rs2 immediate k d s t i = omega arith
instruction-fits (suc zero) rd rs1 rs2 immediate k d s t i = omega arith
instruction-fits (suc (suc zero)) rd rs1 rs2 immediate k d s t i = omega arith
instruction-fits (suc (suc (suc zero))) rd rs1 rs2 immediate k d s t i = omega arith
instruction-fits (suc (suc (suc (suc zero)))) rd rs1 rs2 immediate k d s t i = omega arith
instruction-fits (suc (suc (suc (suc (suc zero))))) rd rs1 rs2 immediate k d s t i = omega arith
instruction-fits (suc (suc (suc (suc (suc (suc zero)))))) rd rs1 rs2 immediate k d s t i = omega arith
instruction-fits (suc (suc (suc (suc (suc (suc (suc zero))))))) rd rs1 rs2 immediate k d s t i = omega arith
instruction-fits (suc (suc (suc (suc (suc (suc (suc (suc n)))))))) rd rs1 rs2 immediate k d s t i = absurd (omega (arith, k))

word-fits : (x : ℕ) → word_of x < 4294967296
word-fits x = instruction-fits (field 33 3 x) (register (field 36 2 x)) (register (field 38 2 x)) (register (field 40 2 x)) (field 42 11 x) (omega arith) (omega arith) (omega arith) (omega arith) (omega arith)

first-word : (w : ℕ) (rest : List ℕ) → w < 4294967296 → word_at (le_32 w ++ rest) 0 ≡ w
unfolding word_32
first-word w rest fits = first-32 w rest fits

later-word : (w : ℕ) (rest : List ℕ) (at : ℕ) → word_at (le_32 w ++ rest) (4 * suc at) ≡ word_at rest (4 * at)
unfolding word_32
later-word w rest at = after-32 (le_32 w) rest 4 (4 * at) (4 * suc at) (len_32 w) (omega arith)

return-word : word_at (le_32 return_word) 0 ≡ return_word
unfolding le_32
return-word = refl

module _ (words : WordsAreOperations) where
  pub texts-are-operations : TextsAreOperations
  unfolding text operations
  texts-are-operations seed zero zero op is = ap operation return-word ∙ words.last ∙ cc
  texts-are-operations seed zero (suc at) op is = absurd cc
  texts-are-operations seed (suc count) zero op is =
      ap operation (first-word (word_of (next seed)) (text (next seed) count) (word-fits (next seed))) ∙ words.words (next seed) ∙ cc
  texts-are-operations seed (suc count) (suc at) op is =
      ap operation (later-word (word_of (next seed)) (text (next seed) count) at) ∙ texts-are-operations (next seed) count at op is
