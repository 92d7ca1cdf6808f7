-- Tests of order on whole numbers, and what they tell of ends, ranges and gaps.
use Rattle.std.proofs.Common.{◌≡◌, true, ◌&&◌, ℤ, pos, ◌+ℤ◌, ◌≤ℤ◌, arith}
use lib.Signed.{le_z}
use Rattle.std.proofs.lemmas.Int.{ints}
use Rattle.std.proofs.lemmas.Bool.{and_parts}
use Rattle.std.proofs.lemmas.Bool.Decides.{Decides-and, Decides-like}
use Rattle.std.specs.Bool.{Decides}
use Rattle.model.specs.Limits.{limit}
use Rattle.model.specs.Axes.{Position}
use Rattle.travel.specs.Travels.{Within, Ordered, Between}
use Rattle.travel.specs.Gantries.{in_order, lies_in, inside_ends}
use Rattle.travel.specs.Beams.{gap_fits}

pub le_judges : (a b : ℤ) → Decides (le_z a b) (a ≤ℤ b)
le_judges a b = (λ h. grind (arith, ints), λ h. grind (arith, ints))

-- three tests that passed
le_three : (a b c d e f : ℤ) → (le_z a b && le_z c d && le_z e f) ≡ true → (a ≤ℤ b) × (c ≤ℤ d) × (e ≤ℤ f)
le_three a b c d e f h =
    let k = and_parts _ _ h in
    let l = and_parts _ _ k.0 in
    ((le_judges _ _).0 l.0, (le_judges _ _).0 l.1, (le_judges _ _).0 k.1)

pub gap_wide : (home : Position) (gap : ℤ) → gap_fits home gap ≡ true →
    (pos 1 ≤ℤ gap) × (gap ≤ℤ pos limit) × ((home.x +ℤ gap) ≤ℤ home.u)
gap_wide home gap h = le_three _ _ _ _ _ _ h

pub ordered_ends : (lo home hi : ℤ) → in_order lo home hi ≡ true → Ordered lo home hi
ordered_ends lo home hi h =
    let k = and_parts _ _ h in
    let l = le_three _ _ _ _ _ _ k.0 in
    (l.0, l.1, l.2, (le_judges _ _).0 k.1)

lies_judges : (lo n hi : ℤ) → Decides (lies_in lo n hi) (Within lo n hi)
lies_judges lo n hi = Decides-and _ _ (le_judges lo n) (le_judges n hi)

pub between_judges : (lower p upper : Position) → Decides (inside_ends lower p upper) (Between lower p upper)
between_judges lower p upper =
    let xy = Decides-and _ _ (lies_judges lower.x p.x upper.x) (lies_judges lower.y p.y upper.y) in
    let xyz = Decides-and _ _ xy (lies_judges lower.z p.z upper.z) in
    Decides-like _ (λ h. record { x = h.0.0.0; y = h.0.0.1; z = h.0.1; u = h.1 }) (λ h. (((h.x, h.y), h.z), h.u))
    (Decides-and _ _ xyz (lies_judges lower.u p.u upper.u))
