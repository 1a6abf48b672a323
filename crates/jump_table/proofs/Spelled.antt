-- Instructions as code: each is fetched at its position.
use Rattle.std.proofs.Common.{◌≡◌, ℕ, ◌+◌, ◌≤◌, true, false, List, length, Some, None, refl, ap, ◌∙◌, subst, arith}
use Rattle.std.specs.Prelude.{IsTrue, slice_get, slice_index, option_map}
use Rattle.std.proofs.lemmas.Option.{slice_get-map}
use Rattle.runs.specs.Joined.{position}
use Rattle.runs.proofs.HasAt.{position_next}
use Rattle.pvm_ops.specs.declared.instr.Instr.{Instr}
use Rattle.pvm_ops.specs.Listing.{is_marked, is_stop}
use Rattle.pvm_ops.specs.Opcodes.{is_known}
use Rattle.pvm_ops.specs.Spelling.{spelling, IsEncodable, Reads, IsAloneAt}
use Rattle.pvm_ops.proofs.ReadBack.{reads-back}
use Rattle.jump_table.specs.Assembly.{Member, words}
use Rattle.jump_table.specs.Laws.{Fetches}
use Rattle.jump_table.proofs.Written.{written, word_reads, word_marked, past_unmarked, word_stops, past_stops, inside_goes_on}

-- the word of an instruction
spelled_word : (is : List Member) (q : ℕ) (i : Member) → slice_get is q ≡ Some i → slice_get (words is) q ≡ Some (spelling i.instr i.len)
spelled_word is q i e = slice_get-map _ is q ∙ ap (option_map (λ i. spelling i.instr i.len)) e

-- no instruction, no word
spelled_past : (is : List Member) (q : ℕ) → slice_get is q ≡ None → slice_get (words is) q ≡ None
spelled_past is q e = slice_get-map _ is q ∙ ap (option_map (λ i. spelling i.instr i.len)) e

-- the opcode is read first
op_read : (bytes : List ℕ) (at : ℕ) (i : Instr) (len : ℕ) → Reads bytes at (spelling i len) → slice_index bytes at ≡ i.op
unfolding spelling
op_read bytes at i len h = h.0

-- no spelling is empty
pub some_spelling : (i : Instr) (len : ℕ) → 1 ≤ length (spelling i len)
unfolding spelling
some_spelling i len = omega arith

-- operands end where an instruction of the list begins, and after the last
all_stop : (is : List Member) (q : ℕ) → is_stop (written (words is)) (position (words is) q) ≡ true
all_stop is q =
    elim (slice_get is q) as (λ o. slice_get is q ≡ o → is_stop (written (words is)) (position (words is) q) ≡ true) [
      | Some i ↦ λ e. word_stops (words is) q _ (spelled_word is q i e) (some_spelling i.instr i.len)
      | None ↦ λ e. past_stops (words is) q (spelled_past is q e)
    ] refl

-- an instruction of the list stands alone at its position
is_alone_at_position : (is : List Member) (q : ℕ) (i : Member) → slice_get is q ≡ Some i → IsAloneAt (written (words is)) i.instr (position (words is) q) i.len
is_alone_at_position is q i e =
    let word = spelled_word is q i e in
    record {
      bytes = word_reads (words is) q _ word;
      marked = word_marked (words is) q _ word (some_spelling i.instr i.len);
      alone = λ p le lt. inside_goes_on (words is) q _ p word le lt;
      stop = subst (λ (at : ℕ). is_stop (written (words is)) at ≡ true) (position_next (words is) q _ word) (all_stop is (q + 1));
    }

-- so it is fetched there, with the position of the next after it
pub spelled_fetches : (is : List Member) (q : ℕ) (i : Member) → slice_get is q ≡ Some i → IsTrue (is_known i.instr.op) → IsEncodable i.instr i.len → Fetches (written (words is)) (position (words is) q) i.instr (position (words is) (q + 1))
spelled_fetches is q i e known ok =
    let alone = is_alone_at_position is q i e in
    let next = position_next (words is) q _ (spelled_word is q i e) in
    let op = op_read _ _ i.instr i.len alone.bytes in
    record {
      marked = alone.marked;
      known = rw op known;
      fetched = rw next (reads-back _ i.instr _ i.len known ok alone);
    }

-- nothing is marked after the last
pub spelled_ends : (is : List Member) (q : ℕ) → slice_get is q ≡ None → is_marked (written (words is)) (position (words is) q) ≡ false
spelled_ends is q e = past_unmarked (words is) q (spelled_past is q e)
