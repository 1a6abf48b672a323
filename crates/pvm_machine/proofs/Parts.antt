-- The parts of which the memory of a start is made.
use Rattle.std.proofs.Common.{◌≡◌, ℕ, zero, suc, ◌+◌, ◌*◌, ◌<◌, ◌≤◌, ◌^◌, Bool, true, false, List, [], length, drop, Option, Some, Result, Ok, Err, refl, ap, sym, subst, ◌∙◌, arith, nat_eq}
use Rattle.std.specs.Prelude.{◌/◌, ◌-◌, cond, IsSome, OnOk}
use Rattle.std.specs.Result.{is_err}
use Rattle.std.specs.Cmp.{unsigned_tied}
use Rattle.std.specs.FinMap as map
use Rattle.std.proofs.lemmas.Cmp.{nat_cmp_total}
use Rattle.std.proofs.lemmas.Bool.Decides.{nat_tests}
use Rattle.machine_state.specs.Memory.{Mode, Readable, Writable, Page, Memory, no_memory, page_size, first_page, with_pages}
use Rattle.machine_state.specs.Start.{Image, pages_of, read_only_start, start_after, stack_end, argument_start, start_memory}
use Rattle.page_memory.specs.declared.mode.Mode.TheVariants as mode
use Rattle.page_memory.specs.Access.{copy_in, stored}
use Rattle.page_memory.specs.Mapping.{HasPages, ChangesPages, with_mode}
use Rattle.page_memory.specs.Laws.{PagesAllow, PagesFill, PagesProtect}

-- the page at a number after one more page
get_more : (memory : Memory) (first : ℕ) (page : Page) (number : ℕ) → map.get (map.insert memory first page) number ≡ cond (nat_eq number first) (Some page) (map.get memory number)
get_more memory first page number =
    map.get-insert nat_cmp_total memory first page number
    ∙ ap (λ (b : Bool). cond b (Some page) (map.get memory number)) (unsigned_tied number first)

some_if : (number first : ℕ) (b : Bool) (page : Page) (o : Option Page) → nat_eq number first ≡ b → ((number ≡ first → ⊥) → IsSome o) → IsSome (cond b (Some page) o)
some_if number first true page o e h = refl
some_if number first false page o e h = h (λ same. let yes : nat_eq number first ≡ true = grind (arith, nat_tests) in absurd cc)

-- pages are there
has_pages : (count first : ℕ) (mode : Mode) (bytes : List ℕ) (memory : Memory) → HasPages first (first + count) (with_pages count first mode bytes memory)
unfolding with_pages
has_pages zero first mode bytes memory number low high = absurd (omega arith)
has_pages (suc count) first mode bytes memory number low high =
    let more : Memory = with_pages count (first + 1) mode (drop page_size bytes) memory in
    rw (get_more more first (first_page mode bytes) number)
    (some_if number first (nat_eq number first) (first_page mode bytes) (map.get more number) refl (λ other. has_pages count (first + 1) mode (drop page_size bytes) memory number (omega (arith, other)) (omega arith)))

-- and not before their first number
get_below : (count first : ℕ) (mode : Mode) (bytes : List ℕ) (memory : Memory) (number : ℕ) → number < first → map.get (with_pages count first mode bytes memory) number ≡ map.get memory number
unfolding with_pages
get_below zero first mode bytes memory number below = refl
get_below (suc count) first mode bytes memory number below =
    let other : nat_eq number first ≡ false = grind (arith, nat_tests) in
    get_more (with_pages count (first + 1) mode (drop page_size bytes) memory) first (first_page mode bytes) number
    ∙ rw other (get_below count (first + 1) mode (drop page_size bytes) memory number (omega arith))

pub has_filled : (count first : ℕ) (mode : Mode) (bytes : List ℕ) (memory new : Memory) → new ≡ with_pages count first mode bytes memory → HasPages first (first + count) new
has_filled count first mode bytes memory new is = subst (HasPages first (first + count)) (sym is) (has_pages count first mode bytes memory)

pub on_ok : {T E P : Type 0} (r : Result T E) → is_err r ≡ false → OnOk r P → P
on_ok (Ok value) e h = h
on_ok (Err fault) e h = cc

-- zero pages that took bytes
pub filled : (allow : PagesAllow) (fill : PagesFill) (count first : ℕ) (bytes : List ℕ) (memory mapped new : Memory) → first + count ≤ 2 ^ 20 → length bytes ≤ page_size * count
    → mapped ≡ with_pages count first Writable [] memory → new ≡ copy_in mapped (page_size * first) bytes → new ≡ with_pages count first Writable bytes memory
filled allow fill count first bytes memory mapped new high room is_mapped is_new =
    is_new
    ∙ ap (λ (mapped : Memory). copy_in mapped (page_size * first) bytes) is_mapped
    ∙ ap (stored (with_pages count first Writable [] memory) (page_size * first) bytes) (allow memory count first bytes high room)
    ∙ fill memory count first bytes high room

-- and then were protected
pub protected : (protect : PagesProtect) (count first : ℕ) (bytes : List ℕ) (memory old new : Memory) → first + count ≤ 2 ^ 20
    → old ≡ with_pages count first Writable bytes memory → ChangesPages first (first + count) (with_mode mode.Readable) old new → new ≡ with_pages count first Readable bytes memory
protected protect count first bytes memory old new high is changes =
    let Changes : Memory → Type 0 = λ old. ChangesPages first (first + count) (with_mode mode.Readable) old new in
    protect memory count first bytes new high (subst Changes is changes)

module _ (image : Image) (argument : List ℕ) where
  -- four parts in their order are the memory of a start
  pub start_is :
      (empty first second third last : Memory) (argument_pages stack_pages writable_pages read_only_pages writable_page zero_pages stack : ℕ) (read_only writable : List ℕ)
      → read_only ≡ image.read_only → writable ≡ image.writable → zero_pages ≡ image.zero_pages → stack ≡ image.stack
      → argument_pages ≡ pages_of (length argument) → stack_pages ≡ pages_of stack → writable_pages ≡ pages_of (length writable) → read_only_pages ≡ pages_of (length read_only)
      → writable_page ≡ start_after (length read_only) / page_size
      → empty ≡ no_memory
      → first ≡ with_pages argument_pages (argument_start / page_size) Readable argument empty
      → second ≡ with_pages stack_pages (stack_end / page_size - stack_pages) Writable [] first
      → third ≡ with_pages (writable_pages + zero_pages) writable_page Writable writable second
      → last ≡ with_pages read_only_pages (read_only_start / page_size) Readable read_only third
      → last ≡ start_memory image argument
  unfolding start_memory
  start_is empty first second third last argument_pages stack_pages writable_pages read_only_pages writable_page zero_pages stack read_only writable d1 d2 d3 d4 e1 e2 e3 e4 e5 none is1 is2 is3 is4 =
      rw (is4, is3, is2, is1, none, e1, e2, e3, e4, e5, d1, d2, d3, d4) refl
