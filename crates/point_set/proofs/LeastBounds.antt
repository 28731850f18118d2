-- The sawtooth bound as the least of the bounds of all points.
use Rattle.std.proofs.Common.{◌≡◌, ℕ, ◌+◌, ◌*◌, ◌^◌, ◌<◌, ◌≤◌, ◌⊎◌, inl, inr, List, length, get_or, take, refl, ap, arith, sym, subst, ◌∙◌}
use Rattle.std.specs.Prelude.{ℤ, pos, ◌+ℤ◌, ◌-ℤ◌, ◌*ℤ◌, ◌≤ℤ◌, ◌<ℤ◌, unsigned_abs}
use Rattle.std.specs.Int.{w128}
use Rattle.std.specs.List.{AllByRecursion}
use Rattle.std.proofs.Math.Nat.{mul-le-mul_left}
use Rattle.std.proofs.lemmas.Int.{fits_signed_from_abs, ints}
use Rattle.std.proofs.lemmas.List.{get_or-take, length-take}
use Rattle.scaled_num.specs.Share.{at}
use Rattle.scaled_num.specs.Sums.{sum_of}
use Rattle.scaled_num.proofs.Sums.{each-at, total-below}
use Rattle.game_model.specs.Game.{GameData, IsBelief, greatest_reward, span}
use Rattle.game_model.proofs.Worth.{span-small}
use Rattle.point_set.specs.Bounds.{HasRoom, IsLessened, IsPriced, IsSized, cost_at, cost_less, cost_size, gap_bound}
use Rattle.point_set.specs.Corners.{HasCorner, IsCurrentCorner, point_at}
use Rattle.point_set.specs.Kept.{AreGaps, AreValuesOf, IsKept, IsSure}
use Rattle.point_set.specs.Members.{most_points}
use Rattle.point_set.specs.Points.{PointData, PointFits, no_point}
use Rattle.point_set.specs.Sawtooth.{AreCorners, AreMeasured, IsBound, IsSawtooth, base_cost, cost_with}
use Rattle.point_set.proofs.CornerNumbers.{current-corner, sure-sum}
use Rattle.point_set.proofs.PointBounds.{belief-small, bound-fits, bound-is, gap-narrow, mass-small}
use Rattle.point_set.proofs.GapBounds.{room-for}
use Rattle.point_set.proofs.KeptGaps.{same-gap}
use Rattle.point_set.proofs.Worth.{Widths, value-abs, widths}
use Rattle.scaled_num.proofs.Products.{magnitude-is}

-- these are the values of these corners
abbrev pub AreValues : List PointData → (ℕ → ℕ) → ℕ → List ℤ → Type 0
AreValues points corners states values = (s : ℕ) → s < states → at values s ≡ (point_at points (corners s)).value

-- ---- sizes
value-within : (g : GameData) (point : PointData) → PointFits g most_points point → unsigned_abs point.value ≤ span g * unsigned_abs (sum_of point.belief)
value-within g point h = let low = h.belief.sums.0 in value-abs (span g) (unsigned_abs (sum_of point.belief)) (sum_of point.belief) point.value (magnitude-is (sum_of point.belief) (omega (arith, ints))) h.value

point-fits : (g : GameData) (points : List PointData) (k : ℕ) → AllByRecursion (PointFits g most_points) points → k < length points → PointFits g most_points (point_at points k)
point-fits g points k h l = each-at (PointFits g most_points) no_point points k h l

corner-within : (g : GameData) (points : List PointData) (s k : ℕ) → AllByRecursion (PointFits g most_points) points → IsCurrentCorner points s k → unsigned_abs (point_at points k).value ≤ span g
corner-within g points s k h c =
    let sure : IsSure (point_at points k).belief s = record { state = c.corner.state; parts = c.corner.belief } in
    let one : unsigned_abs (sum_of (point_at points k).belief) ≡ 1 = ap unsigned_abs (sure-sum (point_at points k).belief s sure) in
    let within : unsigned_abs (point_at points k).value ≤ span g * 1 = subst (λ (n : ℕ). unsigned_abs (point_at points k).value ≤ span g * n) one (value-within g (point_at points k) (point-fits g points k h c.inside)) in
    omega arith

room : (D P Q R V : ℕ) → Widths D P Q R V → 2 ^ 36 * D * V ≤ 2 ^ 124
room D P Q R V w =
    let narrow = w.narrow in
    let more : 2 ^ 36 * D * V ≤ 2 ^ 36 * D * (65536 * R * Q) = mul-le-mul_left (2 ^ 36 * D) w.spans in
    let once : D * Q * R * 1 ≤ D * Q * R * Q = mul-le-mul_left (D * Q * R) w.some in
    omega arith

pub priced : (points : List PointData) (mass values : List ℤ) (corners : ℕ → ℕ) (m : AreMeasured points mass) → length values ≡ length mass → AreCorners points (length mass) corners → AreValues points corners (length mass) values →
    IsPriced (2 ^ 36 * unsigned_abs m.game.shape.row_total) (span m.game) values mass
priced points mass values corners m long current is =
    let g : GameData = m.game in
    let w = widths g m.accepted in
    let row = w.row in
    let d = m.accepted.shape.row_total.0 in
    let total_is : pos (2 ^ 36) *ℤ g.shape.row_total ≡ pos (2 ^ 36 * unsigned_abs g.shape.row_total) = ap (λ (z : ℤ). pos (2 ^ 36) *ℤ z) (magnitude-is g.shape.row_total (omega (arith, ints))) in
    record {
      long = long;
      low = m.right.each;
      all = subst (λ (z : ℤ). sum_of mass ≤ℤ z) total_is m.right.most;
      light = omega arith;
      narrow = span-small g m.accepted;
      room = room (unsigned_abs g.shape.row_total) (unsigned_abs g.shape.discount.0) (unsigned_abs g.shape.discount.1) (greatest_reward g) (span g) w;
      each = λ s l. subst (λ (z : ℤ). unsigned_abs z ≤ span g) (sym (is s l)) (corner-within g points s (corners s) m.fit (current s l));
    }

pub sized : (points : List PointData) (mass values : List ℤ) (corners : ℕ → ℕ) (m : AreMeasured points mass) → length values ≡ length mass → AreCorners points (length mass) corners → AreValues points corners (length mass) values →
    (point : PointData) (k : ℕ) → k < length points → point_at points k ≡ point → IsSized values mass point.belief point.value
sized points mass values corners m long current is point k l e =
    subst (λ (p : PointData). IsSized values mass p.belief p.value) e (record {
      most = 2 ^ 36 * unsigned_abs m.game.shape.row_total;
      span = span m.game;
      priced = priced points mass values corners m long current is;
      right = subst (λ (n : ℕ). IsBelief n (point_at points k).belief) (sym m.right.long) (point-fits m.game points k m.fit l).belief;
      within = value-within m.game (point_at points k) (point-fits m.game points k m.fit l);
    })

-- the states of a measured mass
pub few-states : (points : List PointData) (mass : List ℤ) → AreMeasured points mass → length mass ≤ 16
few-states points mass m = let few = m.accepted.shape.states.1 in omega (arith, m.right.long)

pub each-corner : (points : List PointData) (mass : List ℤ) → AreMeasured points mass → (s : ℕ) → s < length mass → HasCorner points s
each-corner points mass m s l = m.corners s (subst (λ (n : ℕ). s < n) m.right.long l)

-- ---- exactness
pub base-is : (points : List PointData) (mass values : List ℤ) (corners : ℕ → ℕ) → AreValues points corners (length mass) values → cost_at mass values ≡ base_cost points corners mass
base-is points mass values corners is = total-below (length mass) _ _ (λ s l. ap (λ (v : ℤ). at mass s *ℤ v) (is s l))

less-is : (points : List PointData) (mass values : List ℤ) (corners : ℕ → ℕ) (point : PointData) (times : ℤ) → AreValues points corners (length mass) values →
    cost_less values mass point.belief point.value times ≡ cost_with points corners mass point times
less-is points mass values corners point times is =
    ap (λ (z : ℤ). times *ℤ point.value +ℤ z) (total-below (length mass) _ _ (λ s l. ap (λ (v : ℤ). (at mass s -ℤ times *ℤ at point.belief s) *ℤ v) (is s l)))

-- the bound of a point by its gap
pub gap-cost : (points : List PointData) (mass values : List ℤ) (corners : ℕ → ℕ) (point : PointData) (gap base times : ℤ) → AreValues points corners (length mass) values → length point.belief ≡ length mass →
    gap ≡ point.value -ℤ cost_at point.belief values → base ≡ cost_at mass values → gap_bound base gap times ≡ cost_with points corners mass point times
gap-cost points mass values corners point gap base times is long e b =
    ap (λ (z : ℤ). z +ℤ times *ℤ gap) b
    ∙ ap (λ (z : ℤ). cost_at mass values +ℤ times *ℤ z) e
    ∙ bound-is values mass point.belief point.value times long
    ∙ less-is points mass values corners point times is

-- ---- the least so far
pub record LeastSoFar (points : List PointData) (corners : ℕ → ℕ) (mass : List ℤ) (i : ℕ) (least : ℤ) : Type 0 where
  pub base : least ≤ℤ base_cost points corners mass
  pub each : (k : ℕ) (bound : ℤ) → k < i → IsBound points corners mass k bound → least ≤ℤ bound
  pub some : (least ≡ base_cost points corners mass) ⊎ ((k : ℕ) × IsBound points corners mass k least)

pub first-least : (points : List PointData) (corners : ℕ → ℕ) (mass : List ℤ) (least : ℤ) → least ≡ base_cost points corners mass → LeastSoFar points corners mass 0 least
first-least points corners mass least e = record {
  base = at-most least (base_cost points corners mass) e;
  each = λ k bound l h. absurd (omega arith);
  some = inl e;
}
  where
    at-most : (x y : ℤ) → x ≡ y → x ≤ℤ y
    at-most x y e = omega (arith, ints)

pub next-least : (points : List PointData) (corners : ℕ → ℕ) (mass : List ℤ) (i : ℕ) (gap base least result : ℤ) →
    i < length points → ((times : ℤ) → gap_bound base gap times ≡ cost_with points corners mass (point_at points i) times) →
    LeastSoFar points corners mass i least → IsLessened mass (point_at points i).belief gap base least result → LeastSoFar points corners mass (i + 1) result
next-least points corners mass i gap base least result inside cost h g = record {
  base = chain result least (base_cost points corners mass) g.low h.base;
  each = λ k bound l b. elim (place k l) [
    | inl before ↦ chain result least bound g.low (h.each k bound before b)
    | inr last ↦ here bound (subst (λ (j : ℕ). IsBound points corners mass j bound) last b)
  ];
  some = elim g.some [
    | inl old ↦ subst (λ (z : ℤ). (z ≡ base_cost points corners mass) ⊎ ((k : ℕ) × IsBound points corners mass k z)) (sym old) h.some
    | inr new ↦ inr (i, record { inside = inside; times = new.0; most = new.1.0; cost = new.1.1 ∙ cost new.0 })
  ];
}
  where
    chain : (x y z : ℤ) → x ≤ℤ y → y ≤ℤ z → x ≤ℤ z
    chain x y z l m = omega (arith, ints)

    place : (k : ℕ) → k < i + 1 → (k < i) ⊎ (k ≡ i)
    place k l = search arith

    here : (bound : ℤ) → IsBound points corners mass i bound → result ≤ℤ bound
    here bound b = subst (λ (z : ℤ). result ≤ℤ z) (cost b.times ∙ sym b.cost) (g.under b.times b.most)

-- the least is near the base
pub least-near : (points : List PointData) (mass values : List ℤ) (corners : ℕ → ℕ) (m : AreMeasured points mass) → length values ≡ length mass → AreCorners points (length mass) corners → AreValues points corners (length mass) values →
    (i : ℕ) (base least : ℤ) → base ≡ cost_at mass values → LeastSoFar points corners mass i least → unsigned_abs (base -ℤ least) ≤ 2 ^ 126
least-near points mass values corners m long current is i base least e h = elim h.some [
  | inl none ↦ at-base base least (e ∙ base-is points mass values corners is ∙ sym none)
  | inr some ↦ near some.0 some.1
]
  where
    at-base : (x y : ℤ) → x ≡ y → unsigned_abs (x -ℤ y) ≤ 2 ^ 126
    at-base x y e = omega (arith, ints)

    less : (x y p : ℤ) → y ≡ x +ℤ p → unsigned_abs p ≤ 2 ^ 125 → unsigned_abs (x -ℤ y) ≤ 2 ^ 126
    less x y p e l = omega (arith, ints)

    near : (k : ℕ) → IsBound points corners mass k least → unsigned_abs (base -ℤ least) ≤ 2 ^ 126
    near k b =
        let point : PointData = point_at points k in
        let size : IsSized values mass point.belief point.value = sized points mass values corners m long current is point k b.inside refl in
        let gap : ℤ = point.value -ℤ cost_at point.belief values in
        less base least (b.times *ℤ gap) (b.cost ∙ sym (gap-cost points mass values corners point gap base b.times is size.right.long refl e))
        (bound-fits values mass point.belief point.value b.times size b.most).product_small

pub all-least : (points : List PointData) (corners : ℕ → ℕ) (mass : List ℤ) (i : ℕ) (least : ℤ) → AreCorners points (length mass) corners → length points ≤ i → LeastSoFar points corners mass i least → IsSawtooth points mass least
all-least points corners mass i least current l h = record {
  corners = corners;
  current = current;
  base = h.base;
  least = λ k bound g. h.each k bound (omega (arith, g.inside)) g;
  some = h.some;
}

-- the values at the front of an array
pub front-values : (points : List PointData) (corners : List ℕ) (values : List ℤ) (n : ℕ) → n ≤ length corners → AreValuesOf points corners values → AreValues points (λ s. get_or corners s 0) n (take n values)
front-values points corners values n few h = λ s l. get_or-take n values s (pos 0) l ∙ h s (omega arith)

-- a kept gap is exact
pub gap-is : (points : List PointData) (mass values : List ℤ) (corners : List ℕ) (gaps : List ℤ) (i : ℕ) → AreGaps points corners gaps → length mass ≤ length corners → AreValues points (λ s. get_or corners s 0) (length mass) values → i < length points →
    IsSized values mass (point_at points i).belief (point_at points i).value → at gaps i ≡ (point_at points i).value -ℤ cost_at (point_at points i).belief values
gap-is points mass values corners gaps i h few is l size =
    same-gap (point_at points i) h.all.values values (at gaps i) (λ s k. h.all.are s (omega (arith, size.right.long)) ∙ sym (is s (omega (arith, size.right.long)))) (h.all.each i l)
    (belief-small values mass (point_at points i).belief (point_at points i).value size)
    (fits_signed_from_abs w128 _ (omega (arith, gap-narrow values mass (point_at points i).belief (point_at points i).value size)))

-- ---- what a set with its corners and gaps tells of a measured mass; the values are those of the first corners
pub record Measured (points : List PointData) (corners : List ℕ) (gaps mass values : List ℤ) : Type 0 where
  pub current : AreCorners points (length mass) (λ s. get_or corners s 0)
  pub base : cost_at mass values ≡ base_cost points (λ s. get_or corners s 0) mass
  pub small : cost_size mass values ≤ 2 ^ 124
  pub low : AllByRecursion (λ x. pos 0 ≤ℤ x) mass
  pub gaps_are : (i : ℕ) → i < length points → at gaps i ≡ (point_at points i).value -ℤ cost_at (point_at points i).belief values
  pub costs : (i : ℕ) → i < length points → (base gap times : ℤ) → base ≡ cost_at mass values → gap ≡ at gaps i → gap_bound base gap times ≡ cost_with points (λ s. get_or corners s 0) mass (point_at points i) times
  pub room : (i j : ℕ) (base gap least : ℤ) → i < length points → base ≡ cost_at mass values → gap ≡ at gaps i → gap <ℤ pos 0 → LeastSoFar points (λ s. get_or corners s 0) mass j least →
      HasRoom mass (point_at points i).belief gap base least

pub measured : (points : List PointData) (corners : List ℕ) (gaps mass values : List ℤ) → AreMeasured points mass → IsKept points corners gaps → length values ≡ 16 → AreValuesOf points corners values →
    Measured points corners gaps mass (take (length mass) values)
measured points corners gaps mass values m kept all are = record {
  current = current;
  base = base-is points mass front (λ s. get_or corners s 0) is;
  small = mass-small _ _ front mass (priced points mass front (λ s. get_or corners s 0) m long current is);
  low = m.right.each;
  gaps_are = gaps_are;
  costs = λ i l base gap times b e. gap-cost points mass front (λ s. get_or corners s 0) (point_at points i) gap base times is (size i l).right.long (e ∙ gaps_are i l) b;
  room = λ i j base gap least l b e down so. room-for front mass (point_at points i).belief (point_at points i).value gap base least (size i l) (e ∙ gaps_are i l) b down
      (subst (λ (z : ℤ). least ≤ℤ z) (sym (b ∙ base-is points mass front (λ s. get_or corners s 0) is)) so.base)
      (least-near points mass front (λ s. get_or corners s 0) m long current is j base least b so);
}
  where
    few : length mass ≤ 16
    few = few-states points mass m

    front : List ℤ
    front = take (length mass) values

    long : length front ≡ length mass
    long = omega (arith, length-take (length mass) values, few, all)

    current : AreCorners points (length mass) (λ s. get_or corners s 0)
    current s l = current-corner points corners s kept.corners_kept (each-corner points mass m s l)

    is : AreValues points (λ s. get_or corners s 0) (length mass) front
    is = front-values points corners values (length mass) (omega (arith, few, kept.corners_kept.all)) are

    size : (i : ℕ) → i < length points → IsSized front mass (point_at points i).belief (point_at points i).value
    size i l = sized points mass front (λ s. get_or corners s 0) m long current is (point_at points i) i l refl

    gaps_are : (i : ℕ) → i < length points → at gaps i ≡ (point_at points i).value -ℤ cost_at (point_at points i).belief front
    gaps_are i l = gap-is points mass front corners gaps i kept.gaps_kept (omega (arith, few, kept.corners_kept.all)) is l (size i l)
