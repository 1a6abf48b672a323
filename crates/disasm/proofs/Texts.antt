-- Texts one after another, and the end of an instruction.
use Rattle.std.proofs.Common.{◌≡◌, ℕ, zero, suc, ◌+◌, ◌-◌, ◌<◌, ◌≤◌, List, [], ◌∷◌, ◌++◌, length, take, drop, take-append-drop, get_or, true, false, refl, sym, ap, ◌∙◌, add-one, append_assoc, append-nil, inl, inr, arith}
use Rattle.std.proofs.Math.Nat.{eq-or-lt_of_le}
use Rattle.std.proofs.lemmas.List.{take_more}
use Rattle.std.proofs.lemmas.Grind.{flat_map-append}
use Rattle.faults.specs.Present.{each_below}
use Rattle.disasm.specs.Digits.{byte_digits, hex}
use Rattle.pvm_ops.specs.Listing.{Listing, is_marked}
use Rattle.pvm_ops.proofs.Skipping.{run_before-is}
use Rattle.disasm.specs.Disassembly.{end_of}

-- a text more
pub each_below-next : (text : ℕ → List ℕ) (n : ℕ) → each_below (n + 1) text ≡ each_below n text ++ text n
unfolding each_below
each_below-next text n = rw (add-one n) refl

-- the texts below a number follow those below a lesser one
pub each_below-rest : (text : ℕ → List ℕ) (n m : ℕ) → m ≤ n → (rest : List ℕ) × (each_below n text ≡ each_below m text ++ rest)
each_below-rest text zero m le = let none : m ≡ 0 = omega arith in ([], rw none (sym (append-nil (each_below 0 text))))
each_below-rest text (suc n) m le = elim (eq-or-lt_of_le le) [
  | inl same ↦ ([], rw same (sym (append-nil (each_below (suc n) text))))
  | inr less ↦
      (let before = each_below-rest text n m (omega arith) in (
        before.0 ++ text n,
        ap (λ k. each_below k text) (sym (add-one n)) ∙ each_below-next text n ∙ ap (λ t. t ++ text n) before.1 ∙ append_assoc (each_below m text) before.0 (text n),
      ))
]

-- a byte more
pub hex-more : (bytes : List ℕ) (at byte : ℕ) → at < length bytes → byte ≡ get_or bytes at 0 → hex (take (at + 1) bytes) ≡ hex (take at bytes) ++ byte_digits byte
hex-more bytes at byte less is =
    ap hex (take_more bytes at 0 less) ∙ flat_map-append byte_digits (take at bytes) (get_or bytes at 0 ∷ []) ∙ rw is refl

-- the end is the first that is marked, or that of the code
pub end_of-is : (code : Listing) (at end : ℕ) → at < end → end ≤ length code.bytes → ((p : ℕ) → at + 1 ≤ p → p < end → is_marked code p ≡ false) → (end < length code.bytes → is_marked code end ≡ true) → end ≡ end_of code at
unfolding end_of
end_of-is code at end after within none here =
    let far = length code.bytes - (at + 1) in
    let walk = run_before-is (is_marked code) far (at + 1) (end - (at + 1)) (omega arith)
    (λ p from to. none p from (omega arith))
    (λ p is less. let same : p ≡ end = omega arith in rw same (here (omega arith))) in
    omega (arith, walk)

-- the bytes after a place
pub hex-rest : (bytes : List ℕ) (at : ℕ) → hex bytes ≡ hex (take at bytes) ++ hex (drop at bytes)
hex-rest bytes at = ap hex (sym (take-append-drop at bytes)) ∙ flat_map-append byte_digits (take at bytes) (drop at bytes)
