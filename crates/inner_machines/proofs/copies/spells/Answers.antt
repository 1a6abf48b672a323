use Rattle.std.proofs.Common.{◌≡◌, ℕ, ◌+◌, ◌-◌, ◌<◌, List, ◌++◌, length, take, drop, replicate, refl, ap, ◌∙◌, arith}
use Rattle.std.proofs.Math.ListN.{get_or}
use Rattle.std.proofs.lemmas.List.{length-take-le, take_at}
use Rattle.page_memory.specs.Access.{touched}
use Rattle.page_memory.proofs.Steps.{length-touched}
use Rattle.blob_codec.specs.Ends.{most_counts}
use Rattle.blob_codec.specs.Reading.{program_of, read_counts, read_natural}
use Rattle.inner_machines.proofs.Spelled.{part_is_free, ends_are}
use Rattle.inner_machines.proofs.copies.spells.Goals as goal

pub returns-then-len-eq0 : goal.returns-then-len-eq0
unfolding touched program_of read_counts read_natural
returns-then-len-eq0 c = rw c.if-len-eq0.true refl

-- the place for the first bytes
abbrev place : List ℕ
place = replicate most_counts 0

pub load-requires-clause-reads : goal.load-requires-clause-reads
load-requires-clause-reads c =
    let reads = c.requires.reads (omega (arith, c.if-len-eq0.false)) in
    let long : length (take c.min-few.result place) ≡ c.min-few.result = length-take-le c.min-few.result place (omega (arith, c.min-few.ensures)) in
    part_is_free c.args.memory.now c.args.at c.args.len 0 (length (take c.min-few.result place)) c.args.at reads.0 reads.1 (omega arith) (omega (arith, long, c.min-few.ensures))

pub load-requires-2-clause-reads : goal.load-requires-2-clause-reads
load-requires-2-clause-reads c =
    let reads = c.requires.reads (omega (arith, c.if-len-eq0.false)) in
    part_is_free c.args.memory.now c.args.at c.args.len (c.args.len - 1) 1 (c.args.at + (c.args.len - 1)) reads.0 reads.1 refl (omega (arith, c.if-len-eq0.false))

pub returns : goal.returns
returns c =
    let m = c.args.memory.now in
    let few = c.min-few.result in
    let last = c.args.at + (c.args.len - 1) in
    let some : 0 < c.args.len = omega (arith, c.if-len-eq0.false) in
    let reads = c.requires.reads some in
    let long : length (take few place) ≡ few = length-take-le few place (omega (arith, c.min-few.ensures)) in
    let loaded : c.load.new.into ≡ touched m c.args.at few = c.load.ensures ∙ ap (touched m c.args.at) long in
    let first : take few (c.load.new.into ++ drop few place) ≡ touched m c.args.at few = take_at c.load.new.into (drop few place) few (ap length loaded ∙ length-touched few c.args.at m) ∙ loaded in
    let byte : get_or c.load-2.new.into 0 0 ≡ get_or (touched m last 1) 0 0 = ap (λ (bytes : List ℕ). get_or bytes 0 0) c.load-2.ensures in
    c.spells_program.ensures (touched m c.args.at c.args.len) (ends_are m c.args.at c.args.len few last _ _ reads.0 some c.min-few.ensures first refl byte)
