-- A `&` to a frame is made where one to its bytes is.
use base.Fraction.{full_share}
use contract.BorrowLft.{⊑_static}
use denote.Array.{Array}
use denote.Builtin.{u8}
use denote.RattleType.{RattleType}
use denote.Memory.{lone}
use denote.RawPtr.{lies_at}
use denote.Shares.{Shares-less}
use denote.Param.Shared.{Sharable, copy_shared}
use denote.Struct.Field.{RawPtr-field, u8-field, array_field}
use denote.Struct.Laws.{RawPtr-copy, u8-copy, array_copy}
use denote.Struct.Lending.{lent_at, lent_at_shr_laws, Lends-lies, Lends-first, of_Lends}
use mir.Raw.{raw as bare}
use Rattle.page_memory.specs.Tokens.{may_free}
use Rattle.std_heap.proofs.Global.TheLaws as global
use Rattle.std_heap.specs.contracts.Global as heap
use Rattle.page_memory.specs.contracts.frames.Frame as C
use Rattle.page_memory.proofs.frames.Frame.TheLaw.Statement.{statement}

abbrev T : RattleType
T = Array u8 4096

bytes_shared : Sharable (array_field u8-field 4096)
bytes_shared = copy_shared (array_field u8-field 4096) (array_copy u8-field u8-copy 4096)

pub shares : statement
shares =
    of_Lends C.struct (C.the_codes heap.the_row.coded) C.the_heap C.the_lent (λ d p. lent_at_shr_laws T bytes_shared.shr_laws d.at d.bytes)
    (copy_shared RawPtr-field RawPtr-copy, (global.the_field_shared, tt))
    (λ M 𝓤 𝓛 d p.
    let l = C.the_row.lives in
    Lends-first 𝓛 (lies_at T full_share d.at d.bytes) (may_free d.alloc (bare (lone T.mir)) d.at) (lent_at T d.at d.bytes) l
    (Lends-lies 𝓛 T l d.at d.bytes (Shares-less 𝓛 T T.lives l (⊑_static l) (bytes_shared.shares M 𝓤 𝓛) d.bytes)))
