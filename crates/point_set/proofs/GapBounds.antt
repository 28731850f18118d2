-- What a point with a gap lowers the least by.
use Rattle.std.proofs.Common.{◌≡◌, ℕ, ◌^◌, ◌≤◌, ◌⊎◌, inl, inr, List, length, refl, ap, arith, sym, subst, ◌∙◌}
use Rattle.std.specs.Prelude.{ℤ, pos, ◌+ℤ◌, ◌-ℤ◌, ◌*ℤ◌, ◌≤ℤ◌, ◌<ℤ◌, unsigned_abs, FitsSigned}
use Rattle.std.specs.Int.{int_min, w128}
use Rattle.std.specs.List.{AllByRecursion}
use Rattle.std.proofs.lemmas.Int.{ints, by_lt_z, fits_signed_from_abs}
use Rattle.scaled_num.specs.Share.{IsFloor, at}
use Rattle.scaled_num.proofs.Floors.{floor-none_negative, product_le}
use Rattle.scaled_num.proofs.Products.{mul-addℤ}
use Rattle.scaled_num.proofs.Sums.{each-at}
use Rattle.game_model.specs.Game.{IsBelief}
use Rattle.point_set.specs.Bounds.{HasRoom, IsLessened, IsSized, cost_at, gap_bound}
use Rattle.point_set.specs.Sawtooth.{FitsTimes, IsMostTimes}
use Rattle.point_set.proofs.PointBounds.{belief-low, bound-fits, gap-narrow, mass-light, one-times, times-low}

pub room-for : (values mass belief : List ℤ) (value gap base least : ℤ) → IsSized values mass belief value → gap ≡ value -ℤ cost_at belief values → base ≡ cost_at mass values → gap <ℤ pos 0 → least ≤ℤ base →
    unsigned_abs (base -ℤ least) ≤ 2 ^ 126 → HasRoom mass belief gap base least
room-for values mass belief value gap base least h e b down upto near = record {
  right = h.right;
  low = h.priced.low;
  light = mass-light h.most h.span values mass h.priced;
  down = down;
  narrow = subst (λ (z : ℤ). unsigned_abs z ≤ 2 ^ 126) (sym e) (omega (arith, gap-narrow values mass belief value h));
  upto = upto;
  near = near;
  product = λ times most. subst (λ (z : ℤ). FitsSigned w128 (times *ℤ z)) (sym e) (bound-fits values mass belief value times h most).product_fits;
  bound = λ times most. subst (λ (z : ℤ). FitsSigned w128 (z +ℤ times *ℤ gap)) (sym b) (subst (λ (z : ℤ). FitsSigned w128 (cost_at mass values +ℤ times *ℤ z)) (sym e) (bound-fits values mass belief value times h most).bound_fits);
}

-- a belief that fits fewer times fits
fewer-fit : (mass belief : List ℤ) (n : ℕ) (few times : ℤ) → n ≡ length mass → IsBelief n belief → few ≤ℤ times → FitsTimes mass belief times → FitsTimes mass belief few
fewer-fit mass belief n few times e right l h = λ s k.
    let part : pos 0 ≤ℤ at belief s = each-at (λ x. pos 0 ≤ℤ x) (pos 0) belief s (belief-low n belief right) (omega (arith, e, right.long)) in
    omega (arith, ints, h s k, product_le few times (at belief s) part l)

times-gap : (times gap : ℤ) → times *ℤ gap ≡ pos 0 -ℤ times *ℤ (pos 0 -ℤ gap)
times-gap times gap = turn (times *ℤ gap) (times *ℤ (pos 0 -ℤ gap)) (sym (mul-addℤ times gap (pos 0 -ℤ gap)) ∙ ap (λ (z : ℤ). times *ℤ z) (none gap) ∙ nothing times)
  where
    none : (z : ℤ) → z +ℤ (pos 0 -ℤ z) ≡ pos 0
    none z = omega (arith, ints)

    nothing : (z : ℤ) → z *ℤ pos 0 ≡ pos 0
    nothing z = omega (arith, ints)

    turn : (a b : ℤ) → a +ℤ b ≡ pos 0 → a ≡ pos 0 -ℤ b
    turn a b e = omega (arith, ints)

-- a point whose belief does not fit so often as would lower the least leaves it
pub not-lessened : (mass belief : List ℤ) (gap base least q few : ℤ) → HasRoom mass belief gap base least → IsFloor q (base -ℤ least) (pos 0 -ℤ gap) → few ≤ℤ (q +ℤ pos 1) → (FitsTimes mass belief few → ⊥) →
    IsLessened mass belief gap base least least
not-lessened mass belief gap base least q few h f upto fails = record {
  low = omega (arith, ints);
  under = λ times most. by_lt_z q times
      (λ over. absurd (fails (fewer-fit mass belief (length mass) few times refl h.right (omega (arith, ints)) most.fits)))
      (λ under. plain (times *ℤ gap) (times *ℤ (pos 0 -ℤ gap)) (q *ℤ (pos 0 -ℤ gap)) (times-gap times gap) (product_le times q (pos 0 -ℤ gap) (up gap h.down) under) f.low);
  some = inl refl;
}
  where
    up : (g : ℤ) → g <ℤ pos 0 → pos 0 ≤ℤ (pos 0 -ℤ g)
    up g l = omega (arith, ints)

    plain : (x y z : ℤ) → x ≡ pos 0 -ℤ y → y ≤ℤ z → z ≤ℤ (base -ℤ least) → least ≤ℤ (base +ℤ x)
    plain a b z e l m = omega (arith, ints)

-- so does a point whose gap is not below 0
pub gap-above : (mass belief : List ℤ) (gap base least : ℤ) → AllByRecursion (λ x. pos 0 ≤ℤ x) mass → pos 0 ≤ℤ gap → least ≤ℤ base → IsLessened mass belief gap base least least
gap-above mass belief gap base least low up upto = record {
  low = omega (arith, ints);
  under = λ times most. plain (times *ℤ gap) (product_le (pos 0) times gap up (times-low mass belief times low most));
  some = inl refl;
}
  where
    plain : (x : ℤ) → (pos 0 *ℤ gap) ≤ℤ x → least ≤ℤ (base +ℤ x)
    plain p l = omega (arith, ints)

min-is : (x y : ℤ) → ((int_min x y ≡ x) × (x ≤ℤ y)) ⊎ ((int_min x y ≡ y) × (y ≤ℤ x))
min-is a b = search (arith, ints)

pub is-lessened : (mass belief : List ℤ) (gap base least times : ℤ) → IsMostTimes mass belief times → IsLessened mass belief gap base least (int_min least (gap_bound base gap times))
is-lessened mass belief gap base least times most = elim (min-is least (gap_bound base gap times)) [
  | inl old ↦ subst (IsLessened mass belief gap base least) (sym old.0) (record { low = same least; under = λ other others. one other others old.1; some = inl refl })
  | inr new ↦ subst (IsLessened mass belief gap base least) (sym new.0) (record {
    low = new.1;
    under = λ other others. one other others (same (gap_bound base gap times));
    some = inr (times, (most, refl));
  })
]
  where
    same : (x : ℤ) → x ≤ℤ x
    same z = omega (arith, ints)

    one : {z : ℤ} (other : ℤ) → IsMostTimes mass belief other → z ≤ℤ gap_bound base gap times → z ≤ℤ gap_bound base gap other
    one {z} other others l = subst (λ (t : ℤ). z ≤ℤ gap_bound base gap t) (one-times mass belief times other most others) l

-- the number of times that is tried
pub record IsTried (q least : ℤ) : Type 0 where
  pub low : pos 0 ≤ℤ least
  pub high : least ≤ℤ pos (2 ^ 100)
  pub upto : least ≤ℤ q

pub tried : (q least : ℤ) → least ≡ int_min q (pos (2 ^ 100)) → pos 0 ≤ℤ q → IsTried q least
tried q least e low = subst (IsTried q) (sym e) (elim (min-is q (pos (2 ^ 100))) [
  | inl old ↦ subst (IsTried q) (sym old.0) (record { low = low; high = old.1; upto = omega (arith, ints) })
  | inr new ↦ subst (IsTried q) (sym new.0) (record { low = omega (arith, ints); high = omega (arith, ints); upto = new.1 })
])

pub floor-low : (mass belief : List ℤ) (gap base least q : ℤ) → HasRoom mass belief gap base least → IsFloor q (base -ℤ least) (pos 0 -ℤ gap) → pos 0 ≤ℤ q
floor-low mass belief gap base least q h f =
    let down = h.down in
    let upto = h.upto in
    floor-none_negative q (base -ℤ least) (pos 0 -ℤ gap) (omega (arith, ints)) (omega (arith, ints)) f

pub one-more : (q least : ℤ) → IsTried q least → FitsSigned w128 (least +ℤ pos 1)
one-more q least h = let low = h.low in let high = h.high in fits_signed_from_abs w128 (least +ℤ pos 1) (omega (arith, ints))
