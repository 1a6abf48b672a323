-- What ties the reading of containers to their grammar.
use Rattle.std.proofs.Common.{◌≡◌, ℕ, ◌*◌, ◌^◌, ◌<◌, cond, eqb, List, [], ◌++◌, length, Ok, Err, refl, sym, ap, subst, ◌∙◌, append_assoc, arith}
use Rattle.std.proofs.lemmas.Bool.{eqb-true}
use Rattle.std.proofs.lemmas.List.{append-nil, nil_from_length}
use Rattle.numbers.specs.Bytes.{little}
use Rattle.blob_codec.specs.declared.fault.BlobFault.TheVariants.{LeftOver}
use Rattle.blob_codec.specs.declared.container.Sizes.{Sizes}
use Rattle.blob_codec.specs.Grammar.{Program, program_bytes, IsProgram, Container, container_bytes, IsContainer}
use Rattle.blob_codec.specs.Reading.{AreBytes, ◌>>=◌, read_bytes, read_number, program_of, read_sizes, last_program, container_of}
use Rattle.blob_codec.specs.Laws.{ContainersAreSpelled, ContainersAreRead, ContainersHaveOneSpelling, ContainersDiffer, ContainersOrFaults}
use Rattle.blob_codec.proofs.FieldLaws.{bind_ok, goes_on, ok_is, Takes, Takes-then, Takes-all, Takes-two, bytes_take, bytes_again, number_takes, number_again, or_fault}
use Rattle.blob_codec.proofs.Programs.{program_takes, program_again}

-- ---- the four numbers

sizes_bytes : Sizes → List ℕ
sizes_bytes sizes = little 3 sizes.read_only ++ little 3 sizes.writable ++ little 2 sizes.zero_pages ++ little 3 sizes.stack

record AreSizes (sizes : Sizes) : Type 0 where
  read_only : sizes.read_only < 2 ^ 24
  writable : sizes.writable < 2 ^ 24
  zero_pages : sizes.zero_pages < 2 ^ 16
  stack : sizes.stack < 2 ^ 24

sizes_take : (bytes : List ℕ) (x : Sizes × List ℕ) → AreBytes bytes → read_sizes bytes ≡ Ok x → Takes bytes (sizes_bytes x.0) x.1 × AreSizes x.0
unfolding read_sizes sizes_bytes
sizes_take bytes x h e =
    let a = bind_ok (read_number 3 bytes) (λ read_only. read_number 3 read_only.1 >>= λ writable. read_number 2 writable.1 >>= λ zero_pages. read_number 3 zero_pages.1 >>= λ stack.
    Ok (record { read_only = read_only.0; writable = writable.0; zero_pages = zero_pages.0; stack = stack.0 }, stack.1)) x e in
    let b = bind_ok (read_number 3 a.0.1) (λ writable. read_number 2 writable.1 >>= λ zero_pages. read_number 3 zero_pages.1 >>= λ stack.
    Ok (record { read_only = a.0.0; writable = writable.0; zero_pages = zero_pages.0; stack = stack.0 }, stack.1)) x a.2 in
    let c = bind_ok (read_number 2 b.0.1) (λ zero_pages. read_number 3 zero_pages.1 >>= λ stack.
    Ok (record { read_only = a.0.0; writable = b.0.0; zero_pages = zero_pages.0; stack = stack.0 }, stack.1)) x b.2 in
    let d = bind_ok (read_number 3 c.0.1) (λ stack. Ok (record { read_only = a.0.0; writable = b.0.0; zero_pages = c.0.0; stack = stack.0 }, stack.1)) x c.2 in
    let first = number_takes 3 bytes a.0 h a.1 in
    let second = number_takes 3 a.0.1 b.0 first.0.rest_bytes b.1 in
    let third = number_takes 2 b.0.1 c.0 second.0.rest_bytes c.1 in
    let fourth = number_takes 3 c.0.1 d.0 third.0.rest_bytes d.1 in
    let two = Takes-then bytes (little 3 a.0.0) a.0.1 (little 3 b.0.0) b.0.1 first.0 second.0 in
    let three = Takes-then bytes (little 3 a.0.0 ++ little 3 b.0.0) b.0.1 (little 2 c.0.0) c.0.1 two third.0 in
    let four = Takes-then bytes (little 3 a.0.0 ++ little 3 b.0.0 ++ little 2 c.0.0) c.0.1 (little 3 d.0.0) d.0.1 three fourth.0 in
    let made : Sizes × List ℕ = (record { read_only = a.0.0; writable = b.0.0; zero_pages = c.0.0; stack = d.0.0 }, d.0.1) in
    subst (λ (y : Sizes × List ℕ). Takes bytes (sizes_bytes y.0) y.1 × AreSizes y.0) {x = made} {y = x} (ok_is made x d.2)
    (four, record { read_only = first.1; writable = second.1; zero_pages = third.1; stack = fourth.1 })

-- a text is read as a number of `n` bytes, whatever follows it
Spells : ℕ → List ℕ → ℕ → Type 0
Spells n text x = (rest : List ℕ) → read_number n (text ++ rest) ≡ Ok (x, rest)

little_spells : (n x : ℕ) → x < 2 ^ (8 * n) → Spells n (little n x) x
unfolding Spells
little_spells n x lt rest = number_again n x rest lt

sizes_again : (a b c d rest : List ℕ) (sizes : Sizes) → Spells 3 a sizes.read_only → Spells 3 b sizes.writable → Spells 2 c sizes.zero_pages → Spells 3 d sizes.stack
    → read_sizes (a ++ (b ++ (c ++ (d ++ rest)))) ≡ Ok (sizes, rest)
unfolding read_sizes Spells
sizes_again a b c d rest sizes first second third fourth =
    rw (first (b ++ (c ++ (d ++ rest))), second (c ++ (d ++ rest)), third (d ++ rest), fourth rest) refl

-- ---- the program

record IsLast (bytes : List ℕ) (p : Program) : Type 0 where
  spelled : bytes ≡ little 4 (length (program_bytes p)) ++ program_bytes p
  fits : length (program_bytes p) < 2 ^ 32
  program : IsProgram p

-- the same text with its length, for an equal text
resized : (len : ℕ) (text bytes same : List ℕ) → bytes ≡ little 4 len ++ text → len ≡ length same → text ≡ same → bytes ≡ little 4 (length same) ++ same
resized len text bytes same e sized is = rw (← sized, ← is) e

last_takes : (bytes : List ℕ) (p : Program) → AreBytes bytes → last_program bytes ≡ Ok p → IsLast bytes p
unfolding last_program
last_takes bytes p h e =
    let a = bind_ok (read_number 4 bytes) (λ len. read_bytes len.0 len.1 >>= λ program. cond (eqb (length program.1) 0) (program_of program.0) (Err LeftOver)) p e in
    let b = bind_ok (read_bytes a.0.0 a.0.1) (λ program. cond (eqb (length program.1) 0) (program_of program.0) (Err LeftOver)) p a.2 in
    let g = goes_on (eqb (length b.0.1) 0) LeftOver (program_of b.0.0) p b.2 in
    let len = number_takes 4 bytes a.0 h a.1 in
    let text = bytes_take a.0.0 a.0.1 b.0 len.0.rest_bytes b.1 in
    let nothing : b.0.1 ≡ [] = nil_from_length b.0.1 (eqb-true (length b.0.1) 0 g.0) in
    let read = program_takes b.0.0 p text.2 g.1 in
    let both = Takes-then bytes (little 4 a.0.0) a.0.1 b.0.0 b.0.1 len.0 text.0 in
    let whole : bytes ≡ little 4 a.0.0 ++ b.0.0 = Takes-all bytes (little 4 a.0.0 ++ b.0.0) b.0.1 both nothing in
    let sized : a.0.0 ≡ length (program_bytes p) = sym text.1 ∙ ap length read.1 in
    record {
      spelled = resized a.0.0 b.0.0 bytes (program_bytes p) whole sized read.1;
      fits = (let lt : a.0.0 < 2 ^ 32 = len.1 in omega (arith, sized));
      program = read.0;
    }

last_again : (l bytes : List ℕ) (p : Program) → Spells 4 l (length bytes) → program_of bytes ≡ Ok p → last_program (l ++ bytes) ≡ Ok p
unfolding last_program Spells
last_again l bytes p len e =
    ap (λ (t : List ℕ). last_program (l ++ t)) (sym (append-nil bytes)) ∙ rw (len (bytes ++ []), bytes_again bytes [] (length bytes) refl, e) refl

-- ---- containers

made_spelled : (sizes : Sizes) (read_only writable : List ℕ) (program : Program) (bytes : List ℕ) → length read_only ≡ sizes.read_only → length writable ≡ sizes.writable
    → bytes ≡ sizes_bytes sizes ++ read_only ++ writable ++ little 4 (length (program_bytes program)) ++ program_bytes program
    → bytes ≡ container_bytes (record { read_only = read_only; writable = writable; zero_pages = sizes.zero_pages; stack = sizes.stack; program = program })
unfolding sizes_bytes
made_spelled sizes read_only writable program bytes first second e = rw (first, second) e

pub container_takes : ContainersAreSpelled
unfolding container_of sizes_bytes
container_takes bytes x h e =
    let a = bind_ok (read_sizes bytes) (λ sizes. read_bytes sizes.0.read_only sizes.1 >>= λ read_only. read_bytes sizes.0.writable read_only.1 >>= λ writable. last_program writable.1 >>= λ program.
    Ok (record { read_only = read_only.0; writable = writable.0; zero_pages = sizes.0.zero_pages; stack = sizes.0.stack; program = program })) x e in
    let s = a.0.0 in
    let b = bind_ok (read_bytes s.read_only a.0.1) (λ read_only. read_bytes s.writable read_only.1 >>= λ writable. last_program writable.1 >>= λ program.
    Ok (record { read_only = read_only.0; writable = writable.0; zero_pages = s.zero_pages; stack = s.stack; program = program })) x a.2 in
    let c = bind_ok (read_bytes s.writable b.0.1) (λ writable. last_program writable.1 >>= λ program.
    Ok (record { read_only = b.0.0; writable = writable.0; zero_pages = s.zero_pages; stack = s.stack; program = program })) x b.2 in
    let d = bind_ok (last_program c.0.1) (λ program. Ok (record { read_only = b.0.0; writable = c.0.0; zero_pages = s.zero_pages; stack = s.stack; program = program })) x c.2 in
    let sizes = sizes_take bytes a.0 h a.1 in
    let read_only = bytes_take s.read_only a.0.1 b.0 sizes.0.rest_bytes b.1 in
    let writable = bytes_take s.writable b.0.1 c.0 read_only.0.rest_bytes c.1 in
    let last = last_takes c.0.1 d.0 writable.0.rest_bytes d.1 in
    let two = Takes-then bytes (sizes_bytes s) a.0.1 b.0.0 b.0.1 sizes.0 read_only.0 in
    let three = Takes-then bytes (sizes_bytes s ++ b.0.0) b.0.1 c.0.0 c.0.1 two writable.0 in
    let made : Container = record { read_only = b.0.0; writable = c.0.0; zero_pages = s.zero_pages; stack = s.stack; program = d.0 } in
    let text = program_bytes d.0 in
    let whole : bytes ≡ sizes_bytes s ++ b.0.0 ++ c.0.0 ++ little 4 (length text) ++ text = Takes-two bytes (sizes_bytes s ++ b.0.0 ++ c.0.0) c.0.1 (little 4 (length text)) text three last.spelled in
    let spelled : bytes ≡ container_bytes made = made_spelled s b.0.0 c.0.0 d.0 bytes read_only.1 writable.1 whole in
    let is : IsContainer made = record {
      read_only = (let lt = sizes.1.read_only in omega (arith, read_only.1));
      writable = (let lt = sizes.1.writable in omega (arith, writable.1));
      zero_pages = sizes.1.zero_pages;
      stack = sizes.1.stack;
      program_len = last.fits;
      program = last.program;
    } in
    subst (λ (y : Container). IsContainer y × (bytes ≡ container_bytes y)) {x = made} {y = x} (ok_is made x d.2) (is, spelled)

regroup : (a b c d o w l p : List ℕ) → a ++ b ++ c ++ d ++ o ++ w ++ l ++ p ≡ a ++ (b ++ (c ++ (d ++ (o ++ (w ++ (l ++ p))))))
regroup a b c d o w l p = simp append_assoc

container_with : (a b c d l : List ℕ) (x : Container) → Spells 3 a (length x.read_only) → Spells 3 b (length x.writable) → Spells 2 c x.zero_pages → Spells 3 d x.stack
    → Spells 4 l (length (program_bytes x.program)) → IsProgram x.program → container_of (a ++ b ++ c ++ d ++ x.read_only ++ x.writable ++ l ++ program_bytes x.program) ≡ Ok x
unfolding container_of
container_with a b c d l x first second third fourth fifth is =
    let text = program_bytes x.program in
    let sizes : Sizes = record { read_only = length x.read_only; writable = length x.writable; zero_pages = x.zero_pages; stack = x.stack } in
    ap container_of (regroup a b c d x.read_only x.writable l text)
    ∙ rw (
      sizes_again a b c d (x.read_only ++ (x.writable ++ (l ++ text))) sizes first second third fourth,
      bytes_again x.read_only (x.writable ++ (l ++ text)) (length x.read_only) refl,
      bytes_again x.writable (l ++ text) (length x.writable) refl,
      last_again l text x.program fifth (program_again x.program is),
    ) refl

pub container_again : ContainersAreRead
container_again x h =
    container_with (little 3 (length x.read_only)) (little 3 (length x.writable)) (little 2 x.zero_pages) (little 3 x.stack) (little 4 (length (program_bytes x.program))) x
    (little_spells 3 (length x.read_only) h.read_only) (little_spells 3 (length x.writable) h.writable) (little_spells 2 x.zero_pages h.zero_pages) (little_spells 3 x.stack h.stack)
    (little_spells 4 (length (program_bytes x.program)) h.program_len) h.program

pub containers_have_one_spelling : ContainersHaveOneSpelling
containers_have_one_spelling a b c h k e f = (container_takes a c h e).1 ∙ sym (container_takes b c k f).1

pub containers_differ : ContainersDiffer
containers_differ b c h k e = cc (container_again b h, container_again c k, ap container_of e)

pub containers_or_faults : ContainersOrFaults
containers_or_faults bytes h = or_fault (container_of bytes) IsContainer (λ c. bytes ≡ container_bytes c) (λ c e. container_takes bytes c h e) (λ c is spelled. ap container_of spelled ∙ container_again c is)
