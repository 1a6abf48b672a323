-- What a test says of its parts.
use Rattle.std.proofs.Common.{◌≡◌, Bool, true, false, not, ◌&&◌, ◌||◌, refl}

pub both-left : (a b : Bool) → (a && b) ≡ true → a ≡ true
both-left true b e = refl
both-left false b e = cc

pub both-right : (a b : Bool) → (a && b) ≡ true → b ≡ true
both-right true b e = e
both-right false b e = cc

pub neither-left : (a b : Bool) → (a || b) ≡ false → a ≡ false
neither-left true b e = cc
neither-left false b e = refl

pub neither-right : (a b : Bool) → (a || b) ≡ false → b ≡ false
neither-right true b e = cc
neither-right false b e = e

-- where the first part of a test that fails holds, the second doesn't
pub fails-right : (a b : Bool) → (a && b) ≡ false → a ≡ true → b ≡ false
fails-right true b e h = e
fails-right false b e h = cc

pub either-right : (a b : Bool) → b ≡ true → (a || b) ≡ true
either-right true b e = refl
either-right false b e = e

pub not-false : (a : Bool) → not a ≡ false → a ≡ true
not-false true e = refl
not-false false e = cc
