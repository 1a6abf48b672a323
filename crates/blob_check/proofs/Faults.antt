-- The first fault is found rule by rule.
use Rattle.std.proofs.Common.{◌≡◌, ℕ, ◌+◌, true, false, List, ◌++◌, length, cond, Option, Some, None, Ok, Err, refl, ap, ◌∙◌, add-one}
use Rattle.std.specs.Prelude.{slice_index, not}
use Rattle.faults.specs.Present.{broken, first_in}
use Rattle.faults.specs.First.{◌or_else◌}
use Rattle.faults.proofs.Heads.{first_in-append, first_in-broken, first_in-cond, first_in-each, none_in}
use Rattle.pvm_ops.specs.Listing.{Listing, is_marked}
use Rattle.pvm_ops.specs.Opcodes.{is_known}
use Rattle.blob_codec.specs.Grammar.{Program}
use Rattle.blob_check.specs.Starts.{is_start, is_terminator}
use Rattle.blob_check.specs.Faults.{is_no_start, target_of, last_mark, faults_at, faults_of_end, faults_of_entry, faults_of, IsChecked, check_of, unless_faulty}
use Rattle.blob_check.specs.Finding.{fault_at, fault_of_end, fault_of_entry, found_in}
use Rattle.blob_check.specs.declared.checking.CheckFault.{CheckFault}
use Rattle.blob_check.specs.declared.checking.CheckFault.TheVariants.{NoFirst, UnknownOpcode, BadTarget, BadEntry, OpenEnd}

-- below no position none is marked
pub last_mark-zero : (code : Listing) → last_mark code 0 ≡ None
unfolding last_mark
last_mark-zero code = refl

-- a marked position is the last below the next
pub last_mark-here : (code : Listing) (at : ℕ) → is_marked code at ≡ true → last_mark code (at + 1) ≡ Some at
unfolding last_mark
last_mark-here code at marked = rw (add-one, marked) refl

-- another one changes nothing
pub last_mark-below : (code : Listing) (at : ℕ) → is_marked code at ≡ false → last_mark code (at + 1) ≡ last_mark code at
unfolding last_mark
last_mark-below code at other = rw (add-one, other) refl

-- of two rules, then a rest
two : {F : Type 0} (xs ys : List F) (x y : Option F) → first_in xs ≡ x → first_in ys ≡ y → first_in (xs ++ ys) ≡ (x or_else y)
two xs ys x y e f = first_in-append xs ys ∙ rw (e, f) refl

first_at : (code : Listing) (at : ℕ) → first_in (faults_at code at) ≡ fault_at code at
unfolding fault_at
first_at code at =
    let unknown = not (is_known (slice_index code.bytes at)) in
    let astray = is_no_start code (target_of code at) in
    first_in-cond (is_marked code at) (broken unknown (UnknownOpcode at) ++ broken astray (BadTarget at))
    ∙ ap (λ x. cond (is_marked code at) x None) (two _ _ _ _ (first_in-broken unknown (UnknownOpcode at)) (first_in-broken astray (BadTarget at)))

first_of_end : (code : Listing) (last : Option ℕ) → first_in (faults_of_end code last) ≡ fault_of_end code last
first_of_end code (Some at) = first_in-broken (not (is_terminator (slice_index code.bytes at))) (OpenEnd at)
first_of_end code None = refl

first_of_entry : (p : Program) (entry : ℕ) → first_in (faults_of_entry p entry) ≡ fault_of_entry p entry
first_of_entry p entry = first_in-broken (not (is_start p.code (slice_index p.table entry))) (BadEntry entry)

-- what is found is the first of all
pub found_in-first : (p : Program) → first_in (faults_of p) ≡ found_in p
unfolding found_in
found_in-first p =
    two _ _ _ _ (first_in-broken (not (is_start p.code 0)) NoFirst)
    (two _ _ _ _ (first_in-each (length p.code.bytes) (faults_at p.code) (fault_at p.code) (first_at p.code))
    (two _ _ _ _ (first_of_end p.code (last_mark p.code (length p.code.bytes)))
    (first_in-each (length p.table) (faults_of_entry p) (fault_of_entry p) (first_of_entry p))))

-- where nothing is found, there is no fault
pub is_checked : (p : Program) → found_in p ≡ None → IsChecked p
is_checked p none = none_in (faults_of p) (found_in-first p ∙ none)

-- and the check answers the program
pub check_of-none : (p : Program) → found_in p ≡ None → check_of p ≡ Ok p
check_of-none p none = ap (unless_faulty p) (found_in-first p ∙ none)

-- else what is found
pub check_of-some : (p : Program) (fault : CheckFault) → found_in p ≡ Some fault → check_of p ≡ Err fault
check_of-some p fault some = ap (unless_faulty p) (found_in-first p ∙ some)
