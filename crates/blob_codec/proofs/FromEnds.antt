-- The ends of bytes say whether they spell a program.
use Rattle.std.proofs.Common.{◌≡◌, ℕ, ◌+◌, ◌-◌, ◌*◌, ◌/◌, ◌%◌, ◌^◌, ◌<◌, ◌≤◌, Bool, true, false, cond, ltb, eqb, List, [], ◌∷◌, ◌++◌, length, take, drop, Result, Ok, Err, refl, sym, ap, subst, ◌∙◌, append_assoc, arith, inl, inr}
use Rattle.std.specs.Prelude.{◌||◌, ◌&&◌, is_ok, slice_index}
use Rattle.std.proofs.lemmas.Bool.{cases_lt, lt-ltb, le-ltb, cases_eq, eqb-true}
use Rattle.std.proofs.lemmas.Bool.Decides.{nat_tests}
use Rattle.std.proofs.lemmas.List.{append-nil, take_all, take-append-le, drop-append-le, length-append, length-take, length-drop, take-append-drop, get_or-take, get_or-drop, get_or_past, get_or-append-add}
use Rattle.std.proofs.Math.ListN.{drop_of_length-le}
use Rattle.blob_codec.specs.declared.fault.BlobFault.{BlobFault}
use Rattle.blob_codec.specs.declared.fault.BlobFault.TheVariants.{BadPadding, LeftOver}
use Rattle.blob_codec.specs.declared.program.Counts.{Counts}
use Rattle.blob_codec.specs.Grammar.{Program}
use Rattle.blob_codec.specs.Reading.{◌>>=◌, read_byte, read_bytes, read_number, following, read_natural, read_width, read_counts, read_mask, entries_of, program_of}
use Rattle.blob_codec.specs.Ends.{most_counts, EndsAre}
use Rattle.blob_codec.proofs.Naturals.{following_is}

-- ---- more bytes behind those that are read

-- The second reading is the first one, of `len` bytes, with more behind what it leaves. At most n bytes are read.
abbrev Extends : {A : Type 0} → ℕ → ℕ → List ℕ → Result (A × List ℕ) BlobFault → Result (A × List ℕ) BlobFault → Type 0
Extends n len more (Ok x) longer = (longer ≡ Ok (x.0, x.1 ++ more)) × (len ≤ length x.1 + n)
Extends n len more (Err fault) longer = longer ≡ Err fault

further : {A : Type 0} (n k len left : ℕ) (more : List ℕ) (r longer : Result (A × List ℕ) BlobFault) → len ≤ left + n → Extends k left more r longer → Extends (n + k) len more r longer
further n k len left more (Ok x) longer few h = (h.0, omega (arith, few, h.1))
further n k len left more (Err fault) longer few h = h

-- a reading that goes on after one
then_extends :
    {A B : Type 0} (n k len : ℕ) (more : List ℕ) (r longer : Result (A × List ℕ) BlobFault) (next : A × List ℕ → Result (B × List ℕ) BlobFault) → Extends n len more r longer
    → ((x : A × List ℕ) → len ≤ length x.1 + n → Extends k (length x.1) more (next x) (next (x.0, x.1 ++ more))) → Extends (n + k) len more (r >>= next) (longer >>= next)
then_extends n k len more (Ok x) longer next h rest = rw (h.0) (further n k len (length x.1) more (next x) _ h.1 (rest x h.1))
then_extends n k len more (Err fault) longer next h rest = rw h refl

-- a test after a reading
kept_extends : {A : Type 0} (b : Bool) (fault : BlobFault) (x : A) (rest more : List ℕ) → Extends 0 (length rest) more (cond b (Ok (x, rest)) (Err fault)) (cond b (Ok (x, rest ++ more)) (Err fault))
kept_extends true fault x rest more = (refl, omega arith)
kept_extends false fault x rest more = refl

guard_extends : {A : Type 0} (b : Bool) (fault : BlobFault) (x : A) (rest more : List ℕ) → Extends 0 (length rest) more (cond b (Err fault) (Ok (x, rest))) (cond b (Err fault) (Ok (x, rest ++ more)))
guard_extends true fault x rest more = refl
guard_extends false fault x rest more = (refl, omega arith)

byte_extends : (bytes more : List ℕ) → 1 ≤ length bytes → Extends 1 (length bytes) more (read_byte bytes) (read_byte (bytes ++ more))
byte_extends [] more some = absurd (omega (arith, some))
byte_extends (byte ∷ rest) more some = (refl, omega arith)

number_extends : (n most : ℕ) (bytes more : List ℕ) → n ≤ most → n ≤ length bytes → Extends most (length bytes) more (read_number n bytes) (read_number n (bytes ++ more))
number_extends n most bytes more few some =
    let here : ltb (length bytes) n ≡ false = le-ltb (length bytes) n some in
    let there : ltb (length (bytes ++ more)) n ≡ false = le-ltb _ _ (omega (arith, length-append bytes more, some)) in
    rw (here, there, take-append-le n bytes more some, drop-append-le n bytes more some) (refl, omega (arith, length-drop n bytes, few))

few_follow : (first : ℕ) → following first ≤ 8
few_follow first =
    following_is (λ len. len ≤ 8) first (λ a. omega arith) (λ a b. omega arith) (λ a b. omega arith) (λ a b. omega arith) (λ a b. omega arith) (λ a b. omega arith) (λ a b. omega arith) (λ a b. omega arith) (λ a. omega arith)

natural_extends : (bytes more : List ℕ) → 9 ≤ length bytes → Extends 9 (length bytes) more (read_natural bytes) (read_natural (bytes ++ more))
unfolding read_natural
natural_extends bytes more some =
    then_extends 1 8 (length bytes) more (read_byte bytes) _ _ (byte_extends bytes more (omega (arith, some)))
    (λ first left. then_extends 8 0 (length first.1) more (read_number (following first.0) first.1) _ _ (number_extends (following first.0) 8 first.1 more (few_follow first.0) (omega (arith, few_follow first.0, left, some)))
    (λ low _. kept_extends _ _ _ low.1 more))

width_extends : (table_len : ℕ) (bytes more : List ℕ) → 1 ≤ length bytes → Extends 1 (length bytes) more (read_width table_len bytes) (read_width table_len (bytes ++ more))
unfolding read_width
width_extends table_len bytes more some =
    then_extends 1 0 (length bytes) more (read_byte bytes) _ _ (byte_extends bytes more some) (λ width _. guard_extends _ _ width.0 width.1 more)

counts_extend : (bytes more : List ℕ) → most_counts ≤ length bytes → Extends most_counts (length bytes) more (read_counts bytes) (read_counts (bytes ++ more))
unfolding read_counts
counts_extend bytes more some =
    then_extends 9 10 (length bytes) more (read_natural bytes) _ _ (natural_extends bytes more (omega (arith, some)))
    (λ table_len two. then_extends 1 9 (length table_len.1) more (read_width table_len.0 table_len.1) _ _ (width_extends table_len.0 table_len.1 more (omega (arith, two, some)))
    (λ width one. then_extends 9 0 (length width.1) more (read_natural width.1) _ _ (natural_extends width.1 more (omega (arith, one, two, some)))
    (λ code_len _. (refl, omega arith))))

-- The second reading is the first one, with more behind what it leaves.
abbrev Longer : {A : Type 0} → List ℕ → Result (A × List ℕ) BlobFault → Result (A × List ℕ) BlobFault → Type 0
Longer more (Ok x) longer = longer ≡ Ok (x.0, x.1 ++ more)
Longer more (Err fault) longer = longer ≡ Err fault

is_longer : {A : Type 0} (n len : ℕ) (more : List ℕ) (r longer : Result (A × List ℕ) BlobFault) → Extends n len more r longer → Longer more r longer
is_longer n len more (Ok x) longer h = h.0
is_longer n len more (Err fault) longer h = h

no_longer : {A : Type 0} (r : Result (A × List ℕ) BlobFault) → Longer [] r r
no_longer (Ok x) = ap (λ (rest : List ℕ). Ok (x.0, rest)) (sym (append-nil x.1))
no_longer (Err fault) = refl

-- the counts of bytes are those of the first of them
counts_seen : (bytes : List ℕ) → Longer (drop most_counts bytes) (read_counts (take most_counts bytes)) (read_counts bytes)
counts_seen bytes = elim (cases_lt (length bytes) most_counts) [
  | inl short ↦ rw (take_all most_counts bytes (omega (arith, short)), drop_of_length-le bytes {i = most_counts} (omega (arith, short))) (no_longer (read_counts bytes))
  | inr long ↦ subst (λ (whole : List ℕ). Longer (drop most_counts bytes) (read_counts (take most_counts bytes)) (read_counts whole)) (take-append-drop most_counts bytes)
      (is_longer most_counts _ (drop most_counts bytes) (read_counts (take most_counts bytes)) _ (counts_extend (take most_counts bytes) (drop most_counts bytes) (omega (arith, length-take most_counts bytes, long))))
]

-- ---- the bytes after the counts

-- whether the last byte of a mask has no bit past those of `code_len` bytes
abbrev padded : ℕ → ℕ → Bool
padded code_len last = eqb (code_len % 8) 0 || eqb (last / 2 ^ (code_len % 8)) 0

-- of a mask that ends the bytes
padding_is : (n k : ℕ) (bytes : List ℕ) → length bytes ≡ n + k + (k + 7) / 8 → eqb (slice_index (take ((k + 7) / 8) (drop k (drop n bytes))) (k / 8) / 2 ^ (k % 8)) 0 ≡ padded k (slice_index bytes (length bytes - 1))
padding_is n k bytes long =
    let mask = drop k (drop n bytes) in
    elim (cases_eq (k % 8) 0) [
      | inl whole ↦
          let past : slice_index (take ((k + 7) / 8) mask) (k / 8) ≡ 0 = get_or_past (take ((k + 7) / 8) mask) (k / 8) 0 (omega (arith, length-take ((k + 7) / 8) mask, whole)) in
          rw (past, whole) refl
      | inr part ↦
          let no : eqb (k % 8) 0 ≡ false = grind (arith, nat_tests, part) in
          let at : n + (k + k / 8) ≡ length bytes - 1 = omega (arith, long, part) in
          let last : slice_index (take ((k + 7) / 8) mask) (k / 8) ≡ slice_index bytes (length bytes - 1) =
          get_or-take ((k + 7) / 8) mask (k / 8) 0 (omega (arith, part)) ∙ get_or-drop k (drop n bytes) (k / 8) 0 ∙ get_or-drop n bytes (k + k / 8) 0 ∙ ap (slice_index bytes) at in
          rw (no, last) refl
    ]

and_true : (b : Bool) → (b && true) ≡ b
and_true true = refl
and_true false = refl

and_false : (b : Bool) → (b && false) ≡ false
and_false true = refl
and_false false = refl

both_tests : (padding left fits padded : Bool) → left ≡ fits → (fits ≡ true → padding ≡ padded) → (padding && left) ≡ (fits && padded)
both_tests padding left true padded e h = rw (e, h refl) (and_true padded)
both_tests padding left false padded e h = rw e (and_false padding)

one_test : {A : Type 0} (b : Bool) (x : A) (fault : BlobFault) → is_ok (cond b (Ok x) (Err fault)) ≡ b
one_test true x fault = refl
one_test false x fault = refl

two_tests : (padding : Bool) (mask : List ℕ × List ℕ) (p : List ℕ × List ℕ → Program) → is_ok (cond padding (Ok mask) (Err BadPadding) >>= λ mask. cond (eqb (length mask.1) 0) (Ok (p mask)) (Err LeftOver)) ≡ (padding && eqb (length mask.1) 0)
two_tests true mask p = one_test (eqb (length mask.1) 0) (p mask) LeftOver
two_tests false mask p = refl

-- the rest of the reading of a program
abbrev read_parts : Counts → List ℕ → Result Program BlobFault
read_parts counts bytes =
    read_bytes (counts.table_len * counts.width) bytes >>= λ entries. read_bytes counts.code_len entries.1 >>= λ code. read_mask counts.code_len code.1 >>= λ mask.
    cond (eqb (length mask.1) 0) (Ok (record { table = entries_of counts.table_len counts.width entries.0; width = counts.width; code = record { bytes = code.0; mask = mask.0 } })) (Err LeftOver)

fewer : (n k m left : ℕ) (b : Bool) → left < n + k + m → false ≡ (eqb (n + k + m) left && b)
fewer n k m left b less = let no : eqb (n + k + m) left ≡ false = grind (arith, nat_tests, less) in rw no refl

parts_ok : (counts : Counts) (bytes : List ℕ) → is_ok (read_parts counts bytes) ≡ (eqb (counts.table_len * counts.width + counts.code_len + (counts.code_len + 7) / 8) (length bytes) && padded counts.code_len (slice_index bytes (length bytes - 1)))
unfolding read_mask
parts_ok counts bytes =
    let n = counts.table_len * counts.width in
    let k = counts.code_len in
    let m = (k + 7) / 8 in
    let code = drop n bytes in
    let mask = drop k code in
    let padding = padded k (slice_index bytes (length bytes - 1)) in
    elim (cases_lt (length bytes) n) [
      | inl less ↦ rw (lt-ltb (length bytes) n less) (fewer n k m (length bytes) padding (omega (arith, less)))
      | inr entries ↦ elim (cases_lt (length code) k) [
        | inl less ↦ rw (le-ltb (length bytes) n entries, lt-ltb (length code) k less) (fewer n k m (length bytes) padding (omega (arith, less, length-drop n bytes, entries)))
        | inr codes ↦ elim (cases_lt (length mask) m) [
          | inl less ↦
              rw (le-ltb (length bytes) n entries, le-ltb (length code) k codes, lt-ltb (length mask) m less)
              (fewer n k m (length bytes) padding (omega (arith, less, length-drop n bytes, length-drop k code, entries, codes)))
          | inr masks ↦
              let left : length (drop m mask) ≡ length bytes - (n + k + m) = omega (arith, length-drop n bytes, length-drop k code, length-drop m mask, entries, codes, masks) in
              let enough : n + k + m ≤ length bytes = omega (arith, length-drop n bytes, length-drop k code, entries, codes, masks) in
              let fits : eqb (length (drop m mask)) 0 ≡ eqb (n + k + m) (length bytes) = grind (arith, nat_tests, left, enough) in
              rw (le-ltb (length bytes) n entries, le-ltb (length code) k codes, le-ltb (length mask) m masks)
              (two_tests _ (take m mask, drop m mask) _ ∙ both_tests _ _ _ padding fits (λ all. padding_is n k bytes (omega (arith, eqb-true (n + k + m) (length bytes) all))))
        ]
      ]
    ]

-- ---- the whole

is_counted : (more : List ℕ) (r longer : Result (Counts × List ℕ) BlobFault) (x : Counts × List ℕ) → Longer more r longer → r ≡ Ok x → longer ≡ Ok (x.0, x.1 ++ more)
is_counted more r longer x h e = let IsLonger : Result (Counts × List ℕ) BlobFault → Type 0 = λ r. Longer more r longer in subst IsLonger e h

not_counted : (more : List ℕ) (r longer : Result (Counts × List ℕ) BlobFault) (fault : BlobFault) → Longer more r longer → r ≡ Err fault → longer ≡ Err fault
not_counted more r longer fault h e = let IsLonger : Result (Counts × List ℕ) BlobFault → Type 0 = λ r. Longer more r longer in subst IsLonger e h

-- with no counts there is no program
pub no_counts : (first bytes : List ℕ) (len last : ℕ) (fault : BlobFault) → EndsAre first len last bytes → read_counts first ≡ Err fault → false ≡ is_ok (program_of bytes)
unfolding program_of
no_counts first bytes len last fault ends e =
    let none = not_counted (drop most_counts bytes) (read_counts (take most_counts bytes)) (read_counts bytes) fault (counts_seen bytes) (ap read_counts (sym ends.begins) ∙ e) in
    rw none refl

-- With counts that the text spells, all bytes are a program if they are as many as its parts have together, and the
-- last one has no bit too many.
pub with_counts :
    (first bytes text rest : List ℕ) (len last all : ℕ) (counts : Counts) → EndsAre first len last bytes → read_counts first ≡ Ok (counts, rest) → first ≡ text ++ rest
    → all ≡ length text + counts.table_len * counts.width + counts.code_len + (counts.code_len + 7) / 8 → is_ok (program_of bytes) ≡ (eqb all len && padded counts.code_len last)
unfolding program_of
with_counts first bytes text rest len last all counts ends e parts all_is =
    let more = drop most_counts bytes in
    let left = rest ++ more in
    let whole : bytes ≡ text ++ left =
    sym (take-append-drop most_counts bytes) ∙ ap (λ (t : List ℕ). t ++ more) (sym ends.begins ∙ parts) ∙ append_assoc text rest more in
    let long : len ≡ length text + length left = sym ends.counted ∙ ap length whole ∙ length-append text left in
    let read : read_counts bytes ≡ Ok (counts, left) = is_counted more (read_counts (take most_counts bytes)) (read_counts bytes) (counts, rest) (counts_seen bytes) (ap read_counts (sym ends.begins) ∙ e) in
    let n = counts.table_len * counts.width in
    let k = counts.code_len in
    let same : eqb (n + k + (k + 7) / 8) (length left) ≡ eqb all len = grind (arith, nat_tests, all_is, long) in
    rw read (parts_ok counts left ∙ both_ends k _ _ _ _ same (λ some fits. last_is whole long (omega (arith, some, eqb-true (n + k + (k + 7) / 8) (length left) fits))))
  where
    last_is : bytes ≡ text ++ (rest ++ drop most_counts bytes) → len ≡ length text + length (rest ++ drop most_counts bytes) → 0 < length (rest ++ drop most_counts bytes)
        → slice_index (rest ++ drop most_counts bytes) (length (rest ++ drop most_counts bytes) - 1) ≡ last
    last_is whole long some =
        let left = rest ++ drop most_counts bytes in
        let at : len - 1 ≡ length text + (length left - 1) = omega (arith, long, some) in
        sym (get_or-append-add text left (length left - 1) 0) ∙ (λ i. slice_index (sym whole i) (sym at i)) ∙ ends.ends (omega (arith, long, some))

    both_ends : (k : ℕ) (fits fits' : Bool) (last last' : ℕ) → fits ≡ fits' → (0 < k → fits ≡ true → last ≡ last') → (fits && padded k last) ≡ (fits' && padded k last')
    both_ends k true fits' last last' e h = elim (cases_eq (k % 8) 0) [
      | inl whole ↦ rw (← e, whole) refl
      | inr part ↦ rw (← e, h (omega (arith, part)) refl) refl
    ]
    both_ends k false fits' last last' e h = rw (← e) refl
