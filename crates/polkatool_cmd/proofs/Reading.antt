-- Files that are read one after another.
use Rattle.std.proofs.Common.{◌≡◌, ℕ, ◌+◌, ◌-◌, ◌≤◌, ◌<◌, ◌^◌, List, [], ◌∷◌, ◌++◌, length, Option, Some, None, refl, sym, ap, ◌∙◌, arith, cond, true, false, Bool, subst, length-append, map, get_or, Bor}
use Rattle.std.specs.Prelude.{slice_get, nat_lt, option_map}
use Rattle.std.proofs.lemmas.Bool.{le-ltb, lt-ltb}
use Rattle.std.proofs.lemmas.Option.{slice_get-map, slice_get-get_or}
use Rattle.outside.specs.Outside.{Files}
use Rattle.link_core.specs.Parts.{total}
use Rattle.polkatool_cmd.specs.Faults.{limit_of, file_too_large, too_large_from, first_too_large}
use Rattle.polkatool_cmd.specs.declared.answer.Answer.{Answer}
use Rattle.polkatool_cmd.specs.declared.answer.Answer.TheVariants as answers
use Rattle.polkatool_cmd.specs.Linking.{IsTooLarge, FailsToRead, FailsToReadOne, HasLarge, HasFailed, FailsToReadAll}
use Rattle.polkatool_cmd.specs.Snapshot.{Holds}
use Rattle.polkatool_cmd.specs.LinkAnswers.{HoldFiles}

-- a file more that is not too large
fit_more : (number left : ℕ) (files : List (List ℕ)) (file : List ℕ) → too_large_from number left files ≡ None → length file ≤ limit_of (left - total files) → too_large_from number left (files ++ (file ∷ [])) ≡ None
unfolding total
fit_more number left [] file e le =
    let same : left - 0 ≡ left = omega arith in
    rw (le-ltb (limit_of left) (length file) (rw same at le)) refl
fit_more number left (first ∷ files) file e le = by_first (nat_lt (limit_of left) (length first)) e (λ f. let rest : left - length first - total files ≡ left - (length first + total files) = omega arith in fit_more (number + 1) (left - length first) files file f (rw rest le))
  where
    by_first : (b : Bool) → cond b (Some (file_too_large number)) (too_large_from (number + 1) (left - length first) files) ≡ None → (too_large_from (number + 1) (left - length first) files ≡ None → too_large_from (number + 1) (left - length first) (files ++ (file ∷ [])) ≡ None)
        → cond b (Some (file_too_large number)) (too_large_from (number + 1) (left - length first) (files ++ (file ∷ []))) ≡ None
    by_first true f more = absurd cc
    by_first false f more = more f

-- a file more that is too large
large_more : (number left at : ℕ) (files : List (List ℕ)) (file : List ℕ) → too_large_from number left files ≡ None → at ≡ number + length files → limit_of (left - total files) < length file → too_large_from number left (files ++ (file ∷ [])) ≡ Some (file_too_large at)
unfolding total
large_more number left at [] file e is lt =
    let same : left - 0 ≡ left = omega arith in
    let here : at ≡ number = omega (arith, is) in
    rw (lt-ltb (limit_of left) (length file) (rw same at lt), here) refl
large_more number left at (first ∷ files) file e is lt = by_first (nat_lt (limit_of left) (length first)) e (λ f. let rest : left - length first - total files ≡ left - (length first + total files) = omega arith in large_more (number + 1) (left - length first) at files file f (omega (arith, is)) (rw rest lt))
  where
    by_first : (b : Bool) → cond b (Some (file_too_large number)) (too_large_from (number + 1) (left - length first) files) ≡ None → (too_large_from (number + 1) (left - length first) files ≡ None → too_large_from (number + 1) (left - length first) (files ++ (file ∷ [])) ≡ Some (file_too_large at))
        → cond b (Some (file_too_large number)) (too_large_from (number + 1) (left - length first) (files ++ (file ∷ []))) ≡ Some (file_too_large at)
    by_first true f more = absurd cc
    by_first false f more = more f

-- a name more holds a file more
hold_more : (seen : Option Files) (names files : List (List ℕ)) (name file : List ℕ) → HoldFiles seen names files → slice_get names (length files) ≡ Some name → Holds seen name file → HoldFiles seen names (files ++ (file ∷ []))
hold_more seen [] [] name file h e held = absurd cc
hold_more seen (first ∷ names) [] name file h e held = (let same : first ≡ name = cc in (rw same held, tt))
hold_more seen [] (one ∷ files) name file h e held = absurd h
hold_more seen (first ∷ names) (one ∷ files) name file h e held = (h.0, hold_more seen names files name file h.1 e held)

total_more : (files : List (List ℕ)) (file : List ℕ) → total (files ++ (file ∷ [])) ≡ total files + length file
unfolding total
total_more [] file = omega arith
total_more (first ∷ files) file = omega (arith, total_more files file)

-- the files read of the given names, with the bytes that are left for the rest
pub record HasReadSoFar (seen : Option Files) (names files : List (List ℕ)) (at left : ℕ) : Type 0 where
  pub count : length files ≡ at
  pub held : HoldFiles seen names files
  pub fit : first_too_large files ≡ None
  pub left_is : left + total files ≡ 2 ^ 26

pub none_read : (seen : Option Files) (names files : List (List ℕ)) → files ≡ [] → HasReadSoFar seen names files 0 (2 ^ 26)
unfolding total
none_read seen names files e = rw e (record { count = refl; held = tt; fit = refl; left_is = omega arith })

-- a file more
pub read_more : (seen : Option Files) (names files files' : List (List ℕ)) (at left len : ℕ) (name file : List ℕ) → HasReadSoFar seen names files at left → slice_get names at ≡ Some name → Holds seen name file → length file ≤ limit_of left → files' ≡ files ++ (file ∷ []) → len ≡ length file → HasReadSoFar seen names files' (at + 1) (left - len)
read_more seen names files files' at left len name file h there held fits is_more is_len =
    let rest : 2 ^ 26 - total files ≡ left = omega (arith, h.left_is) in
    let here : slice_get names (length files) ≡ Some name = ap (slice_get names) h.count ∙ there in
    rw is_more (record {
      count = omega (arith, h.count, length-append files (file ∷ []));
      held = hold_more seen names files name file h.held here held;
      fit = fit_more 0 (2 ^ 26) files file h.fit (rw rest fits);
      left_is = omega (arith, h.left_is, total_more files file, fits, is_len);
    })

-- a file that is too large
read_large : (seen : Option Files) (names files : List (List ℕ)) (at left : ℕ) (name : List ℕ) → HasReadSoFar seen names files at left → slice_get names at ≡ Some name → IsTooLarge seen name left → HasLarge seen names (file_too_large at)
read_large seen names files at left name h there large =
    let rest : 2 ^ 26 - total files ≡ left = omega (arith, h.left_is) in
    let here : slice_get names (length files) ≡ Some name = ap (slice_get names) h.count ∙ there in
    record {
      files = files ++ (large.file ∷ []);
      held = hold_more seen names files name large.file h.held here large.held;
      first = large_more 0 (2 ^ 26) at files large.file h.fit (omega (arith, h.count)) (rw rest large.large);
    }

-- a file that isn't read
read_failed : (seen : Option Files) (names files : List (List ℕ)) (at left before now : ℕ) (name : List ℕ) → HasReadSoFar seen names files at left → slice_get names at ≡ Some name → FailsToRead seen name before now → HasFailed seen names before now
read_failed seen names files at left before now name h there failed =
    record { files = files; held = h.held; fit = h.fit; name = name; next = ap (slice_get names) h.count ∙ there; failed = failed }

-- the answer for a file is that for all
pub fails_to_read : (seen : Option Files) (names files : List (List ℕ)) (at left before now : ℕ) (name : List ℕ) (answer : Answer) → HasReadSoFar seen names files at left → slice_get names at ≡ Some name → FailsToReadOne seen name at left before now answer → FailsToReadAll seen names before now answer
fails_to_read seen names files at left before now name (answers.Refused fault) h there fails =
    (subst (HasLarge seen names) (sym fails.1) (read_large seen names files at left name h there fails.0), fails.2)
fails_to_read seen names files at left before now name answers.FileFault h there fails = read_failed seen names files at left before now name h there fails
fails_to_read seen names files at left before now name answers.Memory h there fails = fails
fails_to_read seen names files at left before now name answers.Done h there fails = absurd fails
fails_to_read seen names files at left before now name answers.Panicked h there fails = absurd fails
fails_to_read seen names files at left before now name answers.Faulted h there fails = absurd fails
fails_to_read seen names files at left before now name answers.OutOfGas h there fails = absurd fails
fails_to_read seen names files at left before now name answers.Unanswered h there fails = absurd fails
fails_to_read seen names files at left before now name answers.BadReply h there fails = absurd fails
fails_to_read seen names files at left before now name answers.Usage h there fails = absurd fails

-- the name with a number
pub name_there : (names : List (Bor (List ℕ))) (at : ℕ) (d : Bor (List ℕ)) → at < length names → slice_get (map (λ name. name.now) names) at ≡ Some (get_or names at d).now
name_there names at d lt = slice_get-map (λ (name : Bor (List ℕ)). name.now) names at ∙ ap (option_map (λ (name : Bor (List ℕ)). name.now)) (slice_get-get_or names at d lt)
