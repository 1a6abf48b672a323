use Rattle.std.proofs.Common.{◌≡◌, ◌∙◌, ◌++◌, ◌∷◌, [], ap, rules, None}
use Rattle.std.specs.BTreeMap.{insert_entry}
use Rattle.std.specs.Ordering.{nat_cmp}
use Rattle.std.specs.Cmp.Lexicographic.{slice_cmp}
use Rattle.std.specs.Map.{lookup}
use Rattle.symbols.specs.Parts.{same}
use Rattle.symbols.specs.Names.{meaning_in}
use Rattle.symbols.proofs.Lookups.{seen_by, seen_by-append, lookup-inserted, HasSame-added}
use Rattle.symbols.proofs.names.Names.add.Goals as goal

pub invariant_of-self-else-is_err : goal.invariant_of-self-else-is_err
invariant_of-self-else-is_err c =
    let list = c.self.inside.list.items in
    let index = c.self.inside.index.entries in
    let name = c.args.name.now in
    let none : meaning_in (seen_by (λ k. k.now) list) name ≡ None = rw c.self.view_is (search rules) in
    let inserted : c.insert.new.self.entries ≡ insert_entry (λ a b. slice_cmp nat_cmp a.now b.now) index c.args.name c.args.meaning = search rules in
    let pushed : c.push.new.self.items ≡ list ++ (c.args.name, c.args.meaning) ∷ [] = search rules in
    rw (pushed, seen_by-append (λ k. k.now) list ((c.args.name, c.args.meaning) ∷ []))
    (HasSame-added (seen_by (λ k. k.now) list) (seen_by (λ k. k.now) index) _ name c.args.meaning c.self.invariant none
    (λ other. ap (λ es. lookup (same other) (seen_by (λ k. k.now) es)) inserted ∙ lookup-inserted (λ k. k.now) index c.args.name c.args.meaning other))
