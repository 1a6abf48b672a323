-- The laws of the link that contracts name.
use Rattle.std.specs.Prelude.{◌≡◌, ◌<◌, length}
use Rattle.symbols.specs.Wanted.{Given}
use Rattle.blob_check.specs.Faults.{IsChecked}
use Rattle.blob_codec.specs.Grammar.{Container}
use Rattle.link_core.specs.Agrees.{Agrees}
use Rattle.link_core.specs.Linked.{IsLinked}

-- what is linked agrees
abbrev pub LinkedAgrees : Type 0
LinkedAgrees = (given : Given) (c : Container) → IsLinked given c → Agrees given c

-- a link's input has one linked program
abbrev pub LinkedIsOne : Type 0
LinkedIsOne = (given : Given) (c d : Container) → IsLinked given c → IsLinked given d → c ≡ d

-- A linked program with an entry has no fault that a check finds: each instruction is known and leads to where a block
-- starts, the last one ends a block, and blocks start at position 0 and where the jump table says.
abbrev pub LinkedIsChecked : Type 0
LinkedIsChecked = (given : Given) (c : Container) → IsLinked given c → 0 < length given.wanted.entries → IsChecked c.program
