use Rattle.page_memory.proofs.Counted.{len-stored}
use Rattle.page_memory.proofs.laws.stores_keep_pages.Goals as goal

pub returns : goal.returns
returns c = len-stored
