-- Examples of the grammar.
use Rattle.std.proofs.Common.{◌≡◌, [], ◌∷◌, Some, None, Ok, Err, refl}
use Rattle.std.specs.Prelude.{codes}
use Rattle.hex.specs.Hex.{decode_pairs}
use Rattle.transcript.specs.Grammar.{parts_of, digits_after, reply_of, replies_of}

one : reply_of (codes "r7=1 r8=Ff 10000:00fF ffffffff:01") ≡ Some (record { first = 1; second = 255; pieces = (65536, 0 ∷ 255 ∷ []) ∷ (4294967295, 1 ∷ []) ∷ [] })
unfolding parts_of digits_after decode_pairs
one = refl

past_the_end : reply_of (codes "r7=1 r8=2 ffffffff:0102") ≡ None
unfolding parts_of digits_after decode_pairs
past_the_end = refl

two_spaces : reply_of (codes "r7=1  r8=2") ≡ None
unfolding parts_of digits_after decode_pairs
two_spaces = refl

odd : reply_of (codes "r7=1 r8=2 10000:012") ≡ None
unfolding parts_of digits_after decode_pairs
odd = refl

second_line : replies_of (codes "r7=1 r8=2\n\nr7=") ≡ Err 2
unfolding parts_of digits_after
second_line = refl

no_last_line_feed : replies_of (codes "r7=1 r8=2\nr7=3 r8=4") ≡ replies_of (codes "r7=1 r8=2\nr7=3 r8=4\n")
unfolding parts_of digits_after
no_last_line_feed = refl

none : replies_of [] ≡ Ok []
unfolding parts_of
none = refl
