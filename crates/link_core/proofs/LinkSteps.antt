-- Steps of a link: the objects of files, and their faults.
use Rattle.std.proofs.Common.{◌≡◌, ℕ, zero, suc, ◌+◌, ◌-◌, ◌*◌, ◌^◌, ◌<◌, ◌≤◌, List, [], ◌∷◌, ◌++◌, length, take, get_or, Option, Some, None, refl, sym, ap, ◌∙◌, arith}
use Rattle.std.specs.Prelude.{slice_get, map, IsSomeAnd, Result, Ok, Err, MatchResult}
use Rattle.std.specs.Result.{IsErrAnd}
use Rattle.std.specs.List.{filter_map, cons_option}
use Rattle.std.specs.Option.{option_map}
use Rattle.faults.specs.Present.{each_below, first_in}
use Rattle.faults.proofs.Heads.{none_in}
use Rattle.elf_objects.specs.Objects.{Object}
use Rattle.elf_objects.specs.Faults.{faults_of}
use Rattle.elf_objects.specs.Reading.{object_of, in_object, Refuses}
use Rattle.elf_objects.specs.declared.fault.Refusal.{Refusal}
use Rattle.elf_objects.specs.declared.fault.ObjectFault.{ObjectFault}
use Rattle.elf_objects.specs.declared.fault.ObjectFault.TheVariants.{Bad, Memory}
use Rattle.elf_objects.proofs.Records.{object_of-faulty}
use Rattle.link_core.specs.Faults.{faults_in_file, object_faults, Refuses as LinkRefuses}
use Rattle.link_core.specs.LinkFaults.{of_object}
use Rattle.link_core.specs.declared.link_fault.LinkFault.{LinkFault}
use Rattle.faults.proofs.Steps.{first_in-map, first_in-found, each_below-more}

-- the first fault of a file after files without one is that of all files
pub file-fails : (files : List (List ℕ)) (at : ℕ) (file : List ℕ) (fault : ObjectFault) → at < length files → each_below at (λ i. faults_in_file i (slice_get files i)) ≡ [] → slice_get files at ≡ Some file → Refuses fault file at → LinkRefuses (λ f. first_in (object_faults files) ≡ Some f) (of_object fault)
file-fails files at file Memory lt before e refuses = tt
file-fails files at file (Bad fault) lt before e refuses =
    first_in-found (length files) at (λ i. faults_in_file i (slice_get files i)) fault lt before
    (ap (λ x. first_in (faults_in_file at x)) e ∙ first_in-map (in_object at) (faults_of file) ∙ by_first (first_in (faults_of file)) refuses.1)
  where
    by_first : (x : Option Refusal) → IsSomeAnd x (λ first. fault ≡ in_object at first) → option_map (in_object at) x ≡ Some fault
    by_first None is = absurd is
    by_first (Some first) is = ap Some (sym is)

-- a result that is an error is refused as its error is
pub fails-at : {T : Type 0} (ok : T → Type 0) (refuses : LinkFault → Type 0) (result : Result T LinkFault) (fault : LinkFault) → IsErrAnd result (λ e. e ≡ fault) → refuses fault → MatchResult result ok refuses
fails-at ok refuses (Ok x) fault is reported = absurd is
fails-at ok refuses (Err e) fault is reported = rw is reported

-- an object's file has no fault
pub no-fault : (at : ℕ) (file : List ℕ) (object : Object) → object_of file ≡ Some object → faults_in_file at (Some file) ≡ []
no-fault at file object e = by_first (first_in (faults_of file)) refl
  where
    by_first : (x : Option Refusal) → first_in (faults_of file) ≡ x → faults_in_file at (Some file) ≡ []
    by_first None f = ap (map (in_object at)) (none_in (faults_of file) f)
    by_first (Some first) f = (let none = object_of-faulty file first f in absurd cc)

pub no-faults : (files : List (List ℕ)) (at next : ℕ) (file : List ℕ) (object : Object) → next ≡ at + 1 → each_below at (λ i. faults_in_file i (slice_get files i)) ≡ [] → slice_get files at ≡ Some file → object_of file ≡ Some object → each_below next (λ i. faults_in_file i (slice_get files i)) ≡ []
no-faults files at next file object one before e is =
    each_below-more at next (λ i. faults_in_file i (slice_get files i)) one before (ap (faults_in_file at) e ∙ no-fault at file object is)

cons-front : {Y : Type 0} (o : Option Y) (ys zs : List Y) → cons_option o (ys ++ zs) ≡ cons_option o ys ++ zs
cons-front None ys zs = refl
cons-front (Some y) ys zs = refl

filter_map-more : {X Y : Type 0} (h : X → Option Y) (xs : List X) (at : ℕ) (x : X) (y : Y) → slice_get xs at ≡ Some x → h x ≡ Some y → filter_map h (take (suc at) xs) ≡ filter_map h (take at xs) ++ y ∷ []
filter_map-more h [] at x y e is = absurd cc
filter_map-more h (q ∷ xs) zero x y e is = (let same : q ≡ x = cc in rw (same, is) refl)
filter_map-more h (q ∷ xs) (suc at) x y e is = ap (cons_option (h q)) (filter_map-more h xs at x y e is) ∙ cons-front (h q) (filter_map h (take at xs)) (y ∷ [])

-- an object more
pub objects-more : (files : List (List ℕ)) (at next : ℕ) (file : List ℕ) (object : Object) (objects new : List Object) → next ≡ at + 1 → slice_get files at ≡ Some file → object_of file ≡ Some object → objects ≡ filter_map object_of (take at files) → new ≡ objects ++ object ∷ [] → new ≡ filter_map object_of (take next files)
objects-more files at next file object objects new one e is before here =
    let more : suc at ≡ next = omega (arith, one) in
    here ∙ ap (λ l. l ++ object ∷ []) before ∙ sym (filter_map-more object_of files at file object e is) ∙ ap (λ n. filter_map object_of (take n files)) more

-- there are no more objects than files
pub few-objects : (files : List (List ℕ)) (at : ℕ) → length (filter_map object_of (take at files)) ≤ at
few-objects files zero = omega arith
few-objects [] (suc at) = omega arith
few-objects (file ∷ files) (suc at) = by_head (object_of file) (few-objects files at)
  where
    by_head : (o : Option Object) → length (filter_map object_of (take at files)) ≤ at → length (cons_option o (filter_map object_of (take at files))) ≤ suc at
    by_head None le = omega (arith, le)
    by_head (Some object) le = omega (arith, le)
