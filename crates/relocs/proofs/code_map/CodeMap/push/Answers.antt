use Rattle.relocs.proofs.Search.{kept_more}
use Rattle.relocs.proofs.code_map.CodeMap.push.Goals as goal

pub invariant_of-self-2 : goal.invariant_of-self-2
invariant_of-self-2 c = kept_more c.self.inside.places.items _ c.args.self.now c.args.place c.self.invariant c.self.view_is c.requires.room c.requires.mapped c.requires.after c.in_ok-push.ensures.items
