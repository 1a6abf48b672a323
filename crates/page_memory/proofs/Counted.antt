-- Stores bring no page and take none away.
use Rattle.std.proofs.Common.{◌≡◌, ℕ, ◌+◌, List, [], ◌∷◌, refl, ap, ◌∙◌}
use Rattle.std.specs.Prelude.{◌/◌, true, Option, Some, None, is_some, if◌then◌else◌}
use Rattle.std.specs.Cmp.{nat_cmp_total}
use Rattle.std.specs.FinMap as map
use Rattle.machine_state.specs.Memory.{Page, Memory, page_size}
use Rattle.machine_state.specs.Output.{page_at}
use Rattle.page_memory.specs.Access.{next_address, with_byte_in, with_byte, with_bytes, stored}

len_in : (memory : Memory) (address byte : ℕ) (o : Option Page) → page_at memory address ≡ o → map.len (with_byte_in memory address byte o) ≡ map.len memory
len_in memory address byte None is = refl
len_in memory address byte (Some page) is =
    map.len-insert nat_cmp_total memory (address / page_size) _
    ∙ ap (λ (o : Option Page). if is_some o then map.len memory else map.len memory + 1) is

pub len-with_bytes : (bytes : List ℕ) (memory : Memory) (at : ℕ) → map.len (with_bytes memory at bytes) ≡ map.len memory
unfolding with_bytes
len-with_bytes [] memory at = refl
len-with_bytes (byte ∷ bytes) memory at =
    len-with_bytes bytes (with_byte memory at byte) (next_address at)
    ∙ len_in memory at byte (page_at memory at) refl

pub len-stored : (memory : Memory) (at : ℕ) (bytes : List ℕ) (o : Option ℕ) → map.len (stored memory at bytes o) ≡ map.len memory
len-stored memory at bytes (Some least) = refl
len-stored memory at bytes None = len-with_bytes bytes memory at
