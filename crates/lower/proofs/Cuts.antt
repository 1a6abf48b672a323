-- The cut of operations at runs: it is maximal and the only one, and it has a call in a part of its own.
use Rattle.std.proofs.Common.{◌≡◌, ℕ, zero, suc, ◌≤◌, Bool, true, false, List, [], ◌∷◌, ◌++◌, length, map, Option, Some, None, refl, sym, ap, ◌∙◌, subst, arith, length-append}
use Rattle.std.specs.Prelude.{not}
use Rattle.std.specs.List.{AllByRecursion}
use Rattle.std.proofs.lemmas.Bool.{eqb-true, and_parts}
use Rattle.std.proofs.lemmas.List.{append-nil}
use Rattle.rv_decode.specs.declared.ops.RvOp.{RvOp}
use Rattle.runs.specs.Joined.{joined}
use Rattle.runs.specs.Blocks.{in_first, with_first}
use Rattle.runs.specs.Groups.{parts}
use Rattle.lift_blocks.specs.Operations.{Operation, Plain, Branch, Jal, Jalr, Pair, HostCall, Sbrk}
use Rattle.lower.specs.Constants.{written, reads_known, if_known, is_number, begins_run, goes_on, IsRun, IsRunOrOne, AreApart, IsCutAtRuns, run_of, ends_before, runs_from, runs}
use Rattle.lower.specs.Lowering.{is_call}
use Rattle.lower.specs.Laws.{RunsAreMaximal}
use Rattle.lower.proofs.Lists.{all_append}

-- all go on with a run on a register
abbrev pub AllGoOn : ℕ → List (Operation ℕ) → Type 0
AllGoOn d ops = AllByRecursion (λ next. goes_on d next ≡ true) ops

-- what a run begins with, and goes on with
known_part : (b : Bool) (o : Option ℕ) (d : ℕ) → if_known b o ≡ Some d → (b ≡ true) × (o ≡ Some d)
known_part true o d e = (refl, e)
known_part false o d e = absurd cc

number_is : (d : ℕ) (o : Option ℕ) → is_number d o ≡ true → o ≡ Some d
number_is d None e = absurd cc
number_is d (Some n) e = let same = eqb-true n d e in rw same refl

pub begins_with : (op : RvOp) (d : ℕ) → begins_run (Plain op) ≡ Some d → (reads_known None op ≡ true) × (written op ≡ Some d)
begins_with op d e = known_part (reads_known None op) (written op) d e

pub goes_with : (op : RvOp) (d : ℕ) → goes_on d (Plain op) ≡ true → (reads_known (Some d) op ≡ true) × (written op ≡ Some d)
goes_with op d e = let both = and_parts (reads_known (Some d) op) (is_number d (written op)) e in (both.0, number_is d (written op) both.1)

-- an operation writes one register
same_register : (d n : ℕ) (op : Operation ℕ) → goes_on d op ≡ true → begins_run op ≡ Some n → d ≡ n
same_register d n (Plain op) g b = let e : Some d ≡ Some n = sym (goes_with op d g).1 ∙ (begins_with op n b).1 in cc
same_register d n (Branch cond rs1 rs2 target) g b = absurd cc
same_register d n (Jal rd link target) g b = absurd cc
same_register d n (Jalr rd rs1 imm link) g b = absurd cc
same_register d n (Pair temp rd link target) g b = absurd cc
same_register d n (HostCall number) g b = absurd cc
same_register d n Sbrk g b = absurd cc

one_number : (d n : ℕ) (o : Option ℕ) → o ≡ Some d → o ≡ Some n → d ≡ n
one_number d n o e f = let g : Some d ≡ Some n = sym e ∙ f in cc

not_false : (b : Bool) → not b ≡ true → b ≡ false
not_false true e = absurd cc
not_false false e = refl

-- a run that has ended is no run any more
stops_here : (d : ℕ) (rest : List (Operation ℕ)) → ends_before (Some d) rest ≡ true → runs_from (Some d) rest ≡ runs rest
stops_here d [] e = refl
stops_here d (op ∷ rest) e = let none : goes_on d op ≡ false = not_false (goes_on d op) e in rw none refl

in_run : (d : ℕ) (op : Operation ℕ) (run rest : List (Operation ℕ)) → AllGoOn d run → ends_before (Some d) rest ≡ true
    → with_first (ends_before (Some d) (run ++ rest)) op (runs_from (Some d) (run ++ rest)) ≡ (op ∷ run) ∷ runs rest
in_run d op [] rest h e = rw (e, stops_here d rest e) refl
in_run d op (next ∷ run) rest h e = rw (h.0, in_run d next run rest h.1 e) refl

-- the first part is the longest run from the first operation, or that alone
pub cut_run : (d : ℕ) (op : Operation ℕ) (run rest : List (Operation ℕ)) → begins_run op ≡ Some d → AllGoOn d run → ends_before (Some d) rest ≡ true
    → runs (op ∷ run ++ rest) ≡ (op ∷ run) ∷ runs rest
cut_run d op run rest b h e = rw b (in_run d op run rest h e)

pub cut_alone : (op : Operation ℕ) (rest : List (Operation ℕ)) → begins_run op ≡ None → runs (op ∷ rest) ≡ (op ∷ []) ∷ runs rest
cut_alone op rest b = rw b refl

-- a part is a run, or an operation that begins none
pub data Part : List (Operation ℕ) → Type 0 where
  Run : (d : ℕ) (op : Operation ℕ) (run : List (Operation ℕ)) → begins_run op ≡ Some d → AllGoOn d run → Part (op ∷ run)
  Alone : (op : Operation ℕ) → begins_run op ≡ None → Part (op ∷ [])

pub which_part : (part : List (Operation ℕ)) → IsRunOrOne part → Part part
which_part [] h = absurd h
which_part (op ∷ []) h = by_begin (begins_run op) refl
  where
    by_begin : (o : Option ℕ) → begins_run op ≡ o → Part (op ∷ [])
    by_begin None e = Alone op e
    by_begin (Some d) e = Run d op [] e tt
which_part (op ∷ next ∷ ops) h = Run h.0 op (next ∷ ops) h.1.0 h.1.1

-- a part that a run goes on with is of the run
goes_through : (d : ℕ) (op : Operation ℕ) (ops : List (Operation ℕ)) → IsRunOrOne (op ∷ ops) → goes_on d op ≡ true → AllGoOn d (op ∷ ops)
goes_through d op [] h g = (g, tt)
goes_through d op (next ∷ ops) h g = let same = same_register d h.0 op g h.1.0 in (g, subst (λ n. AllGoOn n (next ∷ ops)) (sym same) h.1.1)

-- before the next part a run has ended
ended : (d : ℕ) (op : Operation ℕ) (run : List (Operation ℕ)) (parts : List (List (Operation ℕ))) → begins_run op ≡ Some d → AllGoOn d run → AllByRecursion IsRunOrOne parts → AreApart ((op ∷ run) ∷ parts) → ends_before (Some d) (joined parts) ≡ true
ended d op run [] b h each apart = refl
ended d op run ([] ∷ parts) b h each apart = absurd each.0
ended d op run ((next ∷ ops) ∷ parts) b h each apart = by_test (goes_on d next) refl
  where
    by_test : (t : Bool) → goes_on d next ≡ t → not t ≡ true
    by_test true e = absurd (apart.0 (d, (b, all_append (λ x. goes_on d x ≡ true) run (next ∷ ops) h (goes_through d next ops each.0 e))))
    by_test false e = refl

only_cut : (parts : List (List (Operation ℕ))) → AllByRecursion IsRunOrOne parts → AreApart parts → runs (joined parts) ≡ parts
only_cut [] each apart = refl
only_cut (part ∷ parts) each apart = by_part part (which_part part each.0) apart (only_cut parts each.1 (rest_apart part parts apart))
  where
    rest_apart : (part : List (Operation ℕ)) (parts : List (List (Operation ℕ))) → AreApart (part ∷ parts) → AreApart parts
    rest_apart part [] h = tt
    rest_apart part (next ∷ rest) h = h.1

    by_part : (part : List (Operation ℕ)) → Part part → AreApart (part ∷ parts) → runs (joined parts) ≡ parts → runs (part ++ joined parts) ≡ part ∷ parts
    by_part _ (Run d op run b h) apart e = cut_run d op run (joined parts) b h (ended d op run parts b h each.1 apart) ∙ ap (λ l. (op ∷ run) ∷ l) e
    by_part _ (Alone op b) apart e = cut_alone op (joined parts) b ∙ ap (λ l. (op ∷ []) ∷ l) e

-- the longest run from a list's beginning
record Span (d : ℕ) (ops : List (Operation ℕ)) : Type 0 where
  run : List (Operation ℕ)
  rest : List (Operation ℕ)
  is : ops ≡ run ++ rest
  go : AllGoOn d run
  ends : ends_before (Some d) rest ≡ true

span : (d : ℕ) (ops : List (Operation ℕ)) → Span d ops
span d [] = record { run = []; rest = []; is = refl; go = tt; ends = refl }
span d (op ∷ ops) = by_test (goes_on d op) refl (span d ops)
  where
    by_test : (t : Bool) → goes_on d op ≡ t → Span d ops → Span d (op ∷ ops)
    by_test true e s = record { run = op ∷ s.run; rest = s.rest; is = ap (λ l. op ∷ l) s.is; go = (e, s.go); ends = s.ends }
    by_test false e s = record { run = []; rest = op ∷ ops; is = refl; go = tt; ends = rw e refl }

-- a part in front of others
apart_after : (part : List (Operation ℕ)) (parts : List (List (Operation ℕ))) → AllByRecursion IsRunOrOne parts → AreApart parts
    → ((op : Operation ℕ) (ops : List (Operation ℕ)) (rest : List (List (Operation ℕ))) → parts ≡ (op ∷ ops) ∷ rest → IsRun (part ++ op ∷ ops) → ⊥) → AreApart (part ∷ parts)
apart_after part [] each apart none = tt
apart_after part ([] ∷ parts) each apart none = absurd each.0
apart_after part ((op ∷ ops) ∷ parts) each apart none = (none op ops parts refl, apart)

after_goes : (d : ℕ) (run : List (Operation ℕ)) (op : Operation ℕ) (ops : List (Operation ℕ)) → AllGoOn d (run ++ op ∷ ops) → goes_on d op ≡ true
after_goes d [] op ops h = h.0
after_goes d (next ∷ run) op ops h = after_goes d run op ops h.1

run_apart : (d : ℕ) (op : Operation ℕ) (run rest : List (Operation ℕ)) → begins_run op ≡ Some d → ends_before (Some d) rest ≡ true → (next : Operation ℕ) (ops : List (Operation ℕ)) (parts : List (List (Operation ℕ))) → joined (runs rest) ≡ rest → runs rest ≡ (next ∷ ops) ∷ parts → IsRun (op ∷ run ++ next ∷ ops) → ⊥
run_apart d op run rest b e next ops parts all is h =
    let same = one_number d h.0 (begins_run op) b h.1.0 in
    let goes : goes_on d next ≡ true = subst (λ n. goes_on n next ≡ true) (sym same) (after_goes h.0 run next ops h.1.1) in
    let first : rest ≡ next ∷ ops ++ joined parts = sym all ∙ ap joined is in
    let none : not (goes_on d next) ≡ true = subst (λ l. ends_before (Some d) l ≡ true) first e in
    let wrong : true ≡ false = sym goes ∙ not_false (goes_on d next) none in
    absurd cc

alone_apart : (op next : Operation ℕ) (ops : List (Operation ℕ)) → begins_run op ≡ None → IsRun (op ∷ next ∷ ops) → ⊥
alone_apart op next ops b h = let wrong : None ≡ Some h.0 = sym b ∙ h.1.0 in absurd cc

run_or_one : (d : ℕ) (op : Operation ℕ) (run : List (Operation ℕ)) → begins_run op ≡ Some d → AllGoOn d run → IsRunOrOne (op ∷ run)
run_or_one d op [] b h = tt
run_or_one d op (next ∷ run) b h = (d, (b, h))

runs_are_cut : (count : ℕ) (ops : List (Operation ℕ)) → length ops ≤ count → IsCutAtRuns ops (runs ops)
runs_are_cut count [] le = record { all = refl; each = tt; apart = tt }
runs_are_cut zero (op ∷ ops) le = absurd (omega arith)
runs_are_cut (suc count) (op ∷ ops) le = by_begin (begins_run op) refl (λ rest le. runs_are_cut count rest le)
  where
    by_begin : (o : Option ℕ) → begins_run op ≡ o → ((rest : List (Operation ℕ)) → length rest ≤ count → IsCutAtRuns rest (runs rest)) → IsCutAtRuns (op ∷ ops) (runs (op ∷ ops))
    by_begin None b more =
        let r = more ops (omega arith) in
        subst (λ l. IsCutAtRuns (op ∷ ops) l) (sym (cut_alone op ops b)) (record {
          all = ap (λ l. op ∷ l) r.all;
          each = (tt, r.each);
          apart = apart_after (op ∷ []) (runs ops) r.each r.apart (λ next rest parts is h. alone_apart op next rest b h);
        })
    by_begin (Some d) b more =
        let s = span d ops in
        let r = more s.rest (let n = ap length s.is ∙ length-append s.run s.rest in omega arith) in
        let cut : runs (op ∷ ops) ≡ (op ∷ s.run) ∷ runs s.rest = ap (λ l. runs (op ∷ l)) s.is ∙ cut_run d op s.run s.rest b s.go s.ends in
        subst (λ l. IsCutAtRuns (op ∷ ops) l) (sym cut) (record {
          all = ap (λ l. op ∷ s.run ++ l) r.all ∙ ap (λ l. op ∷ l) (sym s.is);
          each = (run_or_one d op s.run b s.go, r.each);
          apart = apart_after (op ∷ s.run) (runs s.rest) r.each r.apart (λ next rest parts is h. run_apart d op s.run s.rest b s.ends next rest parts r.all is h);
        })

pub runs_cut : (ops : List (Operation ℕ)) → IsCutAtRuns ops (runs ops)
runs_cut ops = runs_are_cut (length ops) ops (omega arith)

-- the cut is maximal, and the only one
pub runs_are_maximal : RunsAreMaximal
runs_are_maximal ops = (runs_cut ops, λ parts cut. sym (only_cut parts cut.each cut.apart) ∙ ap runs cut.all)

-- a call is in no run
call_in_none : (before : Option ℕ) (op : Operation ℕ) → is_call op ≡ true → run_of before op ≡ None
call_in_none None (HostCall number) e = refl
call_in_none (Some d) (HostCall number) e = refl
call_in_none before (Plain op) e = absurd cc
call_in_none before (Branch cond rs1 rs2 target) e = absurd cc
call_in_none before (Jal rd link target) e = absurd cc
call_in_none before (Jalr rd rs1 imm link) e = absurd cc
call_in_none before (Pair temp rd link target) e = absurd cc
call_in_none before Sbrk e = absurd cc

-- the parts of several lists, the first after a run
abbrev cuts : Option ℕ → List (List (Operation ℕ)) → List (List (Operation ℕ))
cuts before [] = []
cuts before (w ∷ ws) = runs_from before w ++ joined (map runs ws)

cuts_none : (ws : List (List (Operation ℕ))) → cuts None ws ≡ joined (map runs ws)
cuts_none [] = refl
cuts_none (w ∷ ws) = refl

-- the first element
record First {A : Type 0} (x : A) (ws : List (List A)) : Type 0 where
  more : List A
  rest : List (List A)
  is : ws ≡ (x ∷ more) ∷ rest

first_of : {A : Type 0} (b : Bool) (x : A) (ws : List (List A)) → First x (with_first b x ws)
first_of true x ws = record { more = []; rest = ws; is = refl }
first_of false x [] = record { more = []; rest = []; is = refl }
first_of false x (w ∷ ws) = record { more = w; rest = ws; is = refl }

with_first_append : {A : Type 0} (b : Bool) (x y : A) (w : List A) (ws vs : List (List A)) → with_first b x (((y ∷ w) ∷ ws) ++ vs) ≡ with_first b x ((y ∷ w) ∷ ws) ++ vs
with_first_append true x y w ws vs = refl
with_first_append false x y w ws vs = refl

ends_by_first : (before : Option ℕ) (op : Operation ℕ) (a b : List (Operation ℕ)) → ends_before before (op ∷ a) ≡ ends_before before (op ∷ b)
ends_by_first None op a b = refl
ends_by_first (Some d) op a b = refl

pub calls_cut : (before : Option ℕ) (ops : List (Operation ℕ)) → runs_from before ops ≡ cuts before (parts is_call ops)
calls_cut before [] = refl
calls_cut before (op ∷ ops) = by_call (is_call op) refl (λ k. calls_cut k ops)
  where
    by_next : (ops : List (Operation ℕ)) → (runs_from (run_of before op) ops ≡ cuts (run_of before op) (parts is_call ops)) → runs_from before (op ∷ ops) ≡ cuts before (in_first op (parts is_call ops))
    by_next [] e = sym (append-nil (runs_from before (op ∷ [])))
    by_next (next ∷ ops) e =
        let k = run_of before op in
        let f = first_of (is_call next) next (parts is_call ops) in
        let g = first_of (ends_before (run_of k next) f.more) next (runs_from (run_of k next) f.more) in
        let there : runs_from k (next ∷ ops) ≡ ((next ∷ g.more) ∷ g.rest) ++ joined (map runs f.rest) = e ∙ ap (cuts k) f.is ∙ ap (λ l. l ++ joined (map runs f.rest)) g.is in
        let b = ends_before k (next ∷ ops) in
        ap (with_first b op) there
        ∙ with_first_append b op next g.more g.rest (joined (map runs f.rest))
        ∙ ap (λ l. with_first b op l ++ joined (map runs f.rest)) (sym g.is)
        ∙ ap (λ t. with_first t op (runs_from k (next ∷ f.more)) ++ joined (map runs f.rest)) (ends_by_first k next ops f.more)
        ∙ ap (λ ws. cuts before (in_first op ws)) (sym f.is)

    by_call : (b : Bool) → is_call op ≡ b → ((k : Option ℕ) → runs_from k ops ≡ cuts k (parts is_call ops)) → runs_from before (op ∷ ops) ≡ cuts before (with_first b op (parts is_call ops))
    by_call true call e = rw (call_in_none before op call) (ap (λ l. (op ∷ []) ∷ l) (e None ∙ cuts_none (parts is_call ops)))
    by_call false call e = by_next ops (e (run_of before op))

-- so each part between calls is cut on its own
pub runs_by_parts : (ops : List (Operation ℕ)) → runs ops ≡ joined (map runs (parts is_call ops))
runs_by_parts ops = calls_cut None ops ∙ cuts_none (parts is_call ops)
