-- Bytes that replies write.
use Rattle.std.proofs.Common.{◌≡◌, ℕ, zero, suc, ◌+◌, ◌<◌, ◌≤◌, ◌^◌, Bool, true, false, List, [], ◌∷◌, length, drop, get_or, slice_get, Option, Some, None, refl, ap, sym, ◌∙◌, subst, arith}
use Rattle.std.specs.Prelude.{not, nat_le}
use Rattle.std.proofs.lemmas.Bool.Decides.{nat_tests}
use Rattle.machine_state.specs.Memory.{Memory}
use Rattle.page_memory.specs.Access.{is_refused, least_refused, next_address, with_bytes}
use Rattle.page_memory.specs.Ranges.{is_barred, IsLeastBarred}
use Rattle.page_memory.proofs.Parts.{modes_stay}
use Rattle.transcript.specs.Hosts.{first_refused, or_else, refused_of, with_pieces}

-- the element at a place, and those from there on
pub drop_at : {A : Type 0} (xs : List A) (n : ℕ) (x : A) → slice_get xs n ≡ Some x → drop n xs ≡ x ∷ drop (n + 1) xs
drop_at [] n x is = cc
drop_at (y ∷ ys) zero x is = let e : y ≡ x = cc in ap (λ z. z ∷ ys) e
drop_at (y ∷ ys) (suc n) x is = let e : suc n + 1 ≡ suc (n + 1) = omega arith in rw e (drop_at ys n x is)

pub drop_all : {A : Type 0} (xs : List A) (n : ℕ) → length xs ≤ n → drop n xs ≡ []
drop_all [] zero all = refl
drop_all [] (suc n) all = refl
drop_all (x ∷ xs) zero all = absurd (omega arith)
drop_all (x ∷ xs) (suc n) all = drop_all xs n (omega arith)

-- an element that was read
pub read_at : {A : Type 0} (xs : List A) (n : ℕ) (x : A) → n < length xs → x ≡ get_or xs n x → slice_get xs n ≡ Some x
read_at [] n x less is = absurd (omega arith)
read_at (y ∷ ys) zero x less is = ap (λ z. Some z) (sym is)
read_at (y ∷ ys) (suc n) x less is = read_at ys n x (omega arith) is

-- an address below 2^32 is barred where it may not be written
barred_is : (memory : Memory) (address : ℕ) → address < 2 ^ 32 → is_barred memory true address ≡ is_refused memory true address
barred_is memory address below =
    let test : nat_le (2 ^ 32) address ≡ false = grind (arith, nat_tests) in
    rw test refl

-- the least barred address of a range that ends at 2^32 is the first that may not be written
pub first_is : (len at : ℕ) (memory : Memory) (o : Option ℕ) → at + len ≤ 2 ^ 32 → IsLeastBarred memory true at len o → o ≡ first_refused memory at len
unfolding first_refused
first_is zero at memory None end least = refl
first_is zero at memory (Some a) end least = absurd (omega (arith, least.0, least.1))
first_is (suc len) at memory o end least = by_here (λ o' later. first_is len (at + 1) memory o' (omega (arith, end)) later) (is_refused memory true at) refl o least
  where
    by_here : ((o' : Option ℕ) → IsLeastBarred memory true (at + 1) len o' → o' ≡ first_refused memory (at + 1) len) → (b : Bool) → is_refused memory true at ≡ b → (o : Option ℕ) → IsLeastBarred memory true at (suc len) o → o ≡ first_refused memory at (suc len)
    by_here rest true e None least = cc (sym e ∙ sym (barred_is memory at (omega (arith, end))) ∙ least at (omega arith) (omega arith))
    by_here rest true e (Some a) least = rw e (ap (λ x. Some x) (same (nat_le a at) refl))
      where
        same : (c : Bool) → nat_le a at ≡ c → a ≡ at
        same true le = let l : a ≤ at = grind (arith, nat_tests, le) in omega (arith, least.0, l)
        same false le = cc (sym e ∙ sym (barred_is memory at (omega (arith, end))) ∙ least.3 at (omega arith) (grind (arith, nat_tests, le)))
    by_here rest false e None least = rw e (rest None (λ a low high. least a (omega arith) (omega arith)))
    by_here rest false e (Some a) least =
        let other : at + 1 ≤ a = above (nat_le (at + 1) a) refl in
        rw e (rest (Some a) (other, omega (arith, least.1), least.2, λ b low high. least.3 b (omega arith) high))
      where
        above : (c : Bool) → nat_le (at + 1) a ≡ c → at + 1 ≤ a
        above true le = grind (arith, nat_tests, le)
        above false le =
            let l : a < at + 1 = grind (arith, nat_tests, le) in
            let same : a ≡ at = omega (arith, least.0, l) in
            cc (sym e ∙ sym (barred_is memory at (omega (arith, end))) ∙ ap (is_barred memory true) (sym same) ∙ least.2)

-- addresses below 2^32 follow each other
next_refused : (len at : ℕ) (memory : Memory) → at + suc len ≤ 2 ^ 32 → least_refused memory true (next_address at) len ≡ least_refused memory true (at + 1) len
unfolding least_refused
next_refused zero at memory within = refl
next_refused (suc len) at memory within = let e : next_address at ≡ at + 1 = omega (arith, within) in λ i. least_refused memory true (e i) (suc len)

-- where the first isn't there, a store is not refused
pub none_refused : (len at : ℕ) (memory : Memory) → at + len ≤ 2 ^ 32 → first_refused memory at len ≡ None → least_refused memory true at len ≡ None
unfolding first_refused least_refused
none_refused zero at memory end none = refl
none_refused (suc len) at memory end none = by_here (λ later. none_refused len (at + 1) memory (omega (arith, end)) later) (is_refused memory true at) refl
  where
    by_here : (first_refused memory (at + 1) len ≡ None → least_refused memory true (at + 1) len ≡ None) → (b : Bool) → is_refused memory true at ≡ b → least_refused memory true at (suc len) ≡ None
    by_here rest true e = cc (rw e at none)
    by_here rest false e = rw e (next_refused len at memory end ∙ rest (rw e at none))

-- stores leave what may be written
refused_stays : (memory : Memory) (at : ℕ) (bytes : List ℕ) (a : ℕ) → is_refused (with_bytes memory at bytes) true a ≡ is_refused memory true a
refused_stays memory at bytes a = ap not (modes_stay bytes at a memory true)

first_stays : (len a : ℕ) (memory : Memory) (at : ℕ) (bytes : List ℕ) → first_refused (with_bytes memory at bytes) a len ≡ first_refused memory a len
unfolding first_refused
first_stays zero a memory at bytes = refl
first_stays (suc len) a memory at bytes = rw (refused_stays memory at bytes a, first_stays len (a + 1) memory at bytes) refl

all_stays : (ps : List (ℕ × List ℕ)) (memory : Memory) (at : ℕ) (bytes : List ℕ) → refused_of (with_bytes memory at bytes) ps ≡ refused_of memory ps
all_stays [] memory at bytes = refl
all_stays (p ∷ ps) memory at bytes = rw (first_stays (length p.1) p.0 memory at bytes, all_stays ps memory at bytes) refl

none_first : (o next : Option ℕ) → or_else o next ≡ None → (o ≡ None) × (next ≡ None)
none_first None next e = (refl, e)
none_first (Some a) next e = cc

-- a piece is tested
pub refused_here : (memory : Memory) (ps : List (ℕ × List ℕ)) (n : ℕ) (p : ℕ × List ℕ) (o : Option ℕ) (a : ℕ) → slice_get ps n ≡ Some p → o ≡ first_refused memory p.0 (length p.1) → o ≡ Some a
    → refused_of memory ps ≡ refused_of memory (drop n ps) → Some a ≡ refused_of memory ps
refused_here memory ps n p o a is test some so =
    sym (so ∙ ap (refused_of memory) (drop_at ps n p is) ∙ ap (λ x. or_else x (refused_of memory (drop (n + 1) ps))) (sym test ∙ some))

pub refused_on : (memory : Memory) (ps : List (ℕ × List ℕ)) (n : ℕ) (p : ℕ × List ℕ) (o : Option ℕ) → slice_get ps n ≡ Some p → o ≡ first_refused memory p.0 (length p.1) → o ≡ None
    → refused_of memory ps ≡ refused_of memory (drop n ps) → refused_of memory ps ≡ refused_of memory (drop (n + 1) ps)
refused_on memory ps n p o is test none so =
    so ∙ ap (refused_of memory) (drop_at ps n p is) ∙ ap (λ x. or_else x (refused_of memory (drop (n + 1) ps))) (sym test ∙ none)

-- The invariant of a loop that writes pieces, where the given number of them were written.
pub record Writing (ps : List (ℕ × List ℕ)) (first : Memory) (n : ℕ) (memory : Memory) : Type 0 where
  pub done : with_pieces ps first ≡ with_pieces (drop n ps) memory
  pub free : refused_of memory (drop n ps) ≡ None

pub writing_begins : (ps : List (ℕ × List ℕ)) (memory : Memory) → refused_of memory ps ≡ None → Writing ps memory 0 memory
writing_begins ps memory free = record { done = refl; free = free }

module _ (ps : List (ℕ × List ℕ)) (first : Memory) (n : ℕ) (memory : Memory) (so : Writing ps first n memory) where
  pub writing_free : (p : ℕ × List ℕ) → slice_get ps n ≡ Some p → first_refused memory p.0 (length p.1) ≡ None
  writing_free p is = (none_first _ _ (sym (ap (refused_of memory) (drop_at ps n p is)) ∙ so.free)).0

  pub writing_on : (p : ℕ × List ℕ) (new : Memory) → slice_get ps n ≡ Some p → new ≡ with_bytes memory p.0 p.1 → Writing ps first (n + 1) new
  writing_on p new is wrote =
      let rest = (none_first _ _ (sym (ap (refused_of memory) (drop_at ps n p is)) ∙ so.free)).1 in
      subst (Writing ps first (n + 1)) (sym wrote) (record {
        done = so.done ∙ ap (λ l. with_pieces l memory) (drop_at ps n p is);
        free = all_stays (drop (n + 1) ps) memory p.0 p.1 ∙ rest;
      })

  pub writing_ends : length ps ≤ n → memory ≡ with_pieces ps first
  writing_ends all = sym (so.done ∙ ap (λ l. with_pieces l memory) (drop_all ps n all))
