-- The nearest mark before a position, by the bits of a word that has the positions before it.
use Rattle.std.proofs.Common.{◌≡◌, ℕ, suc, ◌+◌, ◌-◌, ◌*◌, ◌/◌, ◌%◌, ◌^◌, ◌<◌, ◌≤◌, true, false, arith, sym, ap, ◌∙◌, length, inl, inr}
use Rattle.std.specs.Int.{bit_at, w32, leading_zeros}
use Rattle.std.specs.Int.Count.{count_leading_zeros, leading_of_zero}
use Rattle.std.proofs.lemmas.Nat.{leading_top, pow_pos}
use Rattle.std.proofs.lemmas.Nat.Bits.{bit_at-zero, bit_at_above, bit_at_cat_low, bit_at_cat_high}
use Rattle.std.proofs.lemmas.Bool.{cases_lt}
use Rattle.std.proofs.lemmas.Bool.Decides.{nat_tests}
use Rattle.std.proofs.Math.Nat.{mod-add-div', pow-suc}
use Rattle.pvm_ops.specs.Listing.{Listing, bit_of, is_marked}

-- the low bits of a remainder
bit_at-mod : (n k j : ℕ) → j < k → bit_at (n % 2 ^ k) j ≡ bit_at n j
bit_at-mod n k j l =
    let parts = mod-add-div' n (2 ^ k) in
    let whole : n / 2 ^ k * 2 ^ k + n % 2 ^ k ≡ n = omega arith in
    sym (bit_at_cat_low (n / 2 ^ k) k (n % 2 ^ k) j l) ∙ ap (λ x. bit_at x j) whole

-- the bits of a number that was shifted up
bit_at-shl : (n k j : ℕ) → k ≤ j → bit_at (n * 2 ^ k) j ≡ bit_at n (j - k)
bit_at-shl n k j l =
    let more : n * 2 ^ k + 0 ≡ n * 2 ^ k = omega arith in
    sym (ap (λ x. bit_at x j) more) ∙ bit_at_cat_high n k 0 j (pow_pos k) l

bit_at-shl_low : (n k j : ℕ) → j < k → bit_at (n * 2 ^ k) j ≡ 0
bit_at-shl_low n k j l =
    let more : n * 2 ^ k + 0 ≡ n * 2 ^ k = omega arith in
    sym (ap (λ x. bit_at x j) more) ∙ bit_at_cat_low n k 0 j l ∙ bit_at-zero j

-- the highest bit of a number
bit_at_highest : (n j : ℕ) → 2 ^ j ≤ n → n < 2 ^ suc j → bit_at n j ≡ 1
bit_at_highest n j low high =
    let double = pow-suc 2 j in
    let whole : 1 * 2 ^ j + (n - 2 ^ j) ≡ n = omega arith in
    let here : j - j ≡ 0 = omega arith in
    sym (ap (λ x. bit_at x j) whole) ∙ bit_at_cat_high 1 j (n - 2 ^ j) j (omega arith) (omega arith) ∙ ap (bit_at 1) here

-- how many bits from a place downwards are not set, before the first that is
pub record Highest (marks top back : ℕ) : Type 0 where
  pub unset : (j : ℕ) → j < back → j ≤ top → bit_at marks (top - j) ≡ 0
  pub set : back < 32 → (back ≤ top) × (bit_at marks (top - back) ≡ 1)

-- where a number n has these bits at its upper end, and none below
raised : (marks top n : ℕ) → top < 32 → n < 2 ^ 32 → ((b : ℕ) → 31 - top ≤ b → b < 32 → bit_at n b ≡ bit_at marks (b - (31 - top))) → ((b : ℕ) → b < 31 - top → bit_at n b ≡ 0) → Highest marks top (count_leading_zeros 32 n)
raised marks top n within small high low =
    elim (cases_lt 0 n) [
      | inl pos ↦ some (leading_top 32 n pos small)
      | inr none ↦ (let is : n ≡ 0 = omega arith in nothing is)
    ]
  where
    from_top : (j : ℕ) → j ≤ top → bit_at marks (top - j) ≡ bit_at n (31 - j)
    from_top j l =
        let there : 31 - j - (31 - top) ≡ top - j = omega arith in
        sym (high (31 - j) (omega arith) (omega arith) ∙ ap (bit_at marks) there)

    nothing : n ≡ 0 → Highest marks top (count_leading_zeros 32 n)
    nothing is =
        let all : count_leading_zeros 32 n ≡ 32 = ap (count_leading_zeros 32) is ∙ leading_of_zero 32 in
        record {
          unset = λ j l near. from_top j near ∙ ap (λ x. bit_at x (31 - j)) is ∙ bit_at-zero (31 - j);
          set = λ l. absurd (omega (arith, all, l));
        }

    some : (j : ℕ) × (count_leading_zeros 32 n + suc j ≡ 32) × (2 ^ j ≤ n) × (n < 2 ^ suc j) → Highest marks top (count_leading_zeros 32 n)
    some t =
        let back = count_leading_zeros 32 n in
        let place : back + suc t.0 ≡ 32 = t.1 in
        let one : bit_at n t.0 ≡ 1 = bit_at_highest n t.0 t.2 t.3 in
        let near : back ≤ top = elim (cases_lt top back) [
          | inl past ↦ absurd (omega (arith, low t.0 (omega arith), one))
          | inr within ↦ within
        ] in
        let there : 31 - back ≡ t.0 = omega arith in
        record {
          unset = λ j l le. from_top j le ∙ bit_at_above n (suc t.0) (31 - j) t.3 (omega arith);
          set = λ l. (near, from_top back near ∙ ap (bit_at n) there ∙ one);
        }

pub highest : (marks top : ℕ) → top < 32 → Highest marks top (leading_zeros w32 (marks * 2 ^ (31 - top) % 2 ^ 32))
highest marks top within =
    let up = marks * 2 ^ (31 - top) in
    raised marks top (up % 2 ^ 32) within (omega arith)
    (λ b l less. bit_at-mod up 32 b less ∙ bit_at-shl marks (31 - top) b l)
    (λ b l. bit_at-mod up 32 b (omega arith) ∙ bit_at-shl_low marks (31 - top) b l)

-- the positions down from the last one, 25 of them or all, are the bits of a word down from its place top
pub record Behind (code : Listing) (last marks top : ℕ) : Type 0 where
  pub within : last < length code.bytes
  pub reach : (j : ℕ) → j ≤ 24 → j ≤ last → j ≤ top
  pub start : top ≤ last
  pub same : (j : ℕ) → j ≤ top → bit_at marks (top - j) ≡ bit_of code.mask (last - j)

pub no_mark : (code : Listing) (last marks top back : ℕ) → Behind code last marks top → Highest marks top back → (p : ℕ) → p ≤ last → last < p + back → last ≤ p + 24 → is_marked code p ≡ false
no_mark code last marks top back b h p le near few =
    let j = last - p in
    let there : last - j ≡ p = omega arith in
    let inside : j ≤ top = b.reach j (omega arith) (omega arith) in
    let bit : bit_of code.mask p ≡ 0 = ap (bit_of code.mask) (sym there) ∙ sym (b.same j inside) ∙ h.unset j (omega arith) inside in
    grind (arith, nat_tests)

pub a_mark : (code : Listing) (last marks top back : ℕ) → Behind code last marks top → Highest marks top back → back < 32 → is_marked code (last - back) ≡ true
a_mark code last marks top back b h l =
    let found = h.set l in
    let bit : bit_of code.mask (last - back) ≡ 1 = sym (b.same back found.0) ∙ found.1 in
    let inside : last - back < length code.bytes = omega (arith, b.within) in
    grind (arith, nat_tests)

-- a word of four bytes that end with the last position's, or of the first four
pub behind : (code : Listing) (last start marks : ℕ) → last < length code.bytes → start ≡ last / 8 - 3 → ((j : ℕ) → j < 32 → bit_at marks j ≡ bit_of code.mask (8 * start + j)) → Behind code last marks (last - 8 * start)
behind code last start marks inside e same =
    let top = last - 8 * start in
    record {
      within = inside;
      reach = λ j few near. omega arith;
      start = omega arith;
      same = λ j l. (let there : 8 * start + (top - j) ≡ last - j = omega arith in same (top - j) (omega arith) ∙ ap (bit_of code.mask) there);
    }
