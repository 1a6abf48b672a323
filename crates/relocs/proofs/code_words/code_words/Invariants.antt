use Rattle.std.proofs.Common.{◌≡◌, ℕ, ◌*◌, length}
use Rattle.std.specs.Prelude.{slice_get, Some, Result}
use Rattle.rv_decode.specs.declared.ops.RvOp.{RvOp}
use Rattle.rv_decode.specs.declared.ops.WordFault.{WordFault}
use Rattle.relocs.specs.Words.{word_or_trap}
use Rattle.relocs.proofs.code_words.code_words.Given as goal

abbrev pub invariant-loop-at : goal.invariant-loop-at
invariant-loop-at l = record {
  count : length l.words.items ≡ l.at;
  each : (i : ℕ) (word : Result RvOp WordFault) → slice_get l.words.items i ≡ Some word → word ≡ word_or_trap l.bytes (4 * i);
}
