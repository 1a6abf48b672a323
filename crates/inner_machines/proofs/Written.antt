-- Bytes and words that are written change no byte outside their range, and leave what each address may.
use Rattle.std.proofs.Common.{◌≡◌, ◌≢◌, ℕ, suc, ◌+◌, ◌*◌, ◌/◌, ◌%◌, ◌^◌, ◌<◌, ◌≤◌, Bool, true, false, List, [], ◌∷◌, length, slice_set, refl, ap, sym, ◌∙◌, arith, nat_eq, inl, inr}
use Rattle.std.specs.Prelude.{Option, Some, None, ◌⊎◌, if◌then◌else◌}
use Rattle.std.specs.FinMap as map
use Rattle.std.proofs.lemmas.Bool.Decides.{nat_tests}
use Rattle.std.proofs.lemmas.List.{get_or-set_other}
use Rattle.numbers.specs.Bytes.{little}
use Rattle.numbers.proofs.BytesLaws.{length-little}
use Rattle.machine_state.specs.Memory as model
use Rattle.machine_state.specs.Output.{page_at, byte_in}
use Rattle.page_memory.specs.Access.{page_allows, next_address, byte_of, with_byte, with_byte_in, with_bytes}
use Rattle.page_memory.proofs.Parts.{modes_stay}
use Rattle.page_memory.proofs.Ranges.{seen_at}
use Rattle.inner_machines.specs.Calls.{with_words}
use Rattle.inner_machines.specs.Laws.{BytesStay}

abbrev Outside : ℕ → ℕ → ℕ → Type 0
Outside at len a = (a < at) ⊎ (at + len ≤ a)

-- so it is no address of the range, and outside each part of it
not_first : (at len a : ℕ) → Outside at (suc len) a → a ≢ at
not_first at len a (inl less) = λ e. omega (arith, less, e)
not_first at len a (inr past) = λ e. omega (arith, past, e)

behind : (at len before more a : ℕ) → before + more ≡ len → Outside at len a → Outside (at + before) more a
behind at len before more a parts (inl less) = inl (omega (arith, less))
behind at len before more a parts (inr past) = inr (omega (arith, past, parts))

in_front : (at len part a : ℕ) → part ≤ len → Outside at len a → Outside at part a
in_front at len part a few (inl less) = inl less
in_front at len part a few (inr past) = inr (omega (arith, past, few))

one_byte : (o : Option model.Page) (m : model.Memory) (at byte a : ℕ) → page_at m at ≡ o → a ≢ at → byte_of (with_byte_in m at byte o) a ≡ byte_of m a
one_byte None m at byte a is other = refl
one_byte (Some page) m at byte a is other = ap (λ (o : Option model.Page). byte_in o (a % 4096)) (seen_at m (at / 4096) (Some new) (a / 4096)) ∙ by_page (nat_eq (a / 4096) (at / 4096)) refl
  where
    new : model.Page
    new = record page { bytes = slice_set page.bytes (at % 4096) byte }

    by_page : (b : Bool) → nat_eq (a / 4096) (at / 4096) ≡ b → byte_in (if b then Some new else map.get m (a / 4096)) (a % 4096) ≡ byte_of m a
    by_page true e =
        let same : a / 4096 ≡ at / 4096 = grind (arith, nat_tests, e) in
        let apart : a % 4096 ≢ at % 4096 = omega (arith, same, other) in
        get_or-set_other page.bytes (at % 4096) (a % 4096) byte 0 apart ∙ ap (λ (o : Option model.Page). byte_in o (a % 4096)) (sym (ap (map.get m) same ∙ is))
    by_page false e = refl

bytes_outside : (bytes : List ℕ) (at : ℕ) (m : model.Memory) (a : ℕ) → at + length bytes ≤ 2 ^ 32 → Outside at (length bytes) a → byte_of (with_bytes m at bytes) a ≡ byte_of m a
unfolding with_bytes
bytes_outside [] at m a ends out = refl
bytes_outside (b ∷ []) at m a ends out = one_byte (page_at m at) m at b a refl (not_first at 0 a out)
bytes_outside (b ∷ (c ∷ bytes)) at m a ends out =
    let next : next_address at ≡ at + 1 = omega (arith, ends) in
    let more : byte_of (with_bytes (with_byte m at b) (at + 1) (c ∷ bytes)) a ≡ byte_of (with_byte m at b) a = bytes_outside (c ∷ bytes) (at + 1) (with_byte m at b) a (omega (arith, ends)) (behind at (suc (suc (length bytes))) 1 (suc (length bytes)) a (omega arith) out) in
    ap (λ (n : ℕ). byte_of (with_bytes (with_byte m at b) n (c ∷ bytes)) a) next ∙ more ∙ one_byte (page_at m at) m at b a refl (not_first at (suc (length bytes)) a out)

-- a range that may wrap only where it is empty
pub bytes_stay : (m : model.Memory) (at : ℕ) (bytes : List ℕ) → (0 < length bytes → at + length bytes ≤ 2 ^ 32) → BytesStay at (length bytes) m (with_bytes m at bytes)
unfolding with_bytes
bytes_stay m at bytes ends = record {
  modes = λ writing a. modes_stay bytes at a m writing;
  bytes = by_bytes bytes ends;
}
  where
    by_bytes : (bytes : List ℕ) → (0 < length bytes → at + length bytes ≤ 2 ^ 32) → (a : ℕ) → Outside at (length bytes) a → byte_of (with_bytes m at bytes) a ≡ byte_of m a
    by_bytes [] ends a out = refl
    by_bytes (b ∷ bytes) ends a out = bytes_outside (b ∷ bytes) at m a (ends (omega arith)) out

words_outside : (words : List ℕ) (at : ℕ) (m : model.Memory) (a : ℕ) → at + 8 * length words ≤ 2 ^ 32 → Outside at (8 * length words) a → byte_of (with_words m at words) a ≡ byte_of m a
unfolding with_words
words_outside [] at m a ends out = refl
words_outside (word ∷ words) at m a ends out =
    let eight : length (little 8 word) ≡ 8 = length-little 8 word in
    words_outside words (at + 8) (with_bytes m at (little 8 word)) a (omega (arith, ends)) (behind at (8 * suc (length words)) 8 (8 * length words) a (omega arith) out)
    ∙ bytes_outside (little 8 word) at m a (omega (arith, ends, eight)) (in_front at (8 * suc (length words)) (length (little 8 word)) a (omega (arith, eight)) out)

words_keep_modes : (words : List ℕ) (at a : ℕ) (m : model.Memory) (writing : Bool) → page_allows writing (page_at (with_words m at words) a) ≡ page_allows writing (page_at m a)
unfolding with_words
words_keep_modes [] at a m writing = refl
words_keep_modes (word ∷ words) at a m writing = words_keep_modes words (at + 8) a (with_bytes m at (little 8 word)) writing ∙ modes_stay (little 8 word) at a m writing

pub words_stay : (m : model.Memory) (at len : ℕ) (words : List ℕ) → len ≡ 8 * length words → at + len ≤ 2 ^ 32 → BytesStay at len m (with_words m at words)
words_stay m at len words is ends = record {
  modes = λ writing a. words_keep_modes words at a m writing;
  bytes = λ a out. words_outside words at m a (omega (arith, is, ends)) (in_front at len (8 * length words) a (omega (arith, is)) out);
}
