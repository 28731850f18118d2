-- The sawtooth bound of a mass is within the span times its total.
use Rattle.std.proofs.Common.{◌≡◌, ℕ, List, [], ◌∷◌, length, inl, inr, ap, ap₂, arith, sym, subst, ◌∙◌}
use Rattle.std.specs.Prelude.{ℤ, pos, neg_ℤ, ◌+ℤ◌, ◌-ℤ◌, ◌*ℤ◌, ◌≤ℤ◌}
use Rattle.std.specs.List.{AllByRecursion}
use Rattle.std.proofs.lemmas.Int.{ints}
use Rattle.scaled_num.specs.Share.{at}
use Rattle.scaled_num.specs.Sums.{below, sum_of, total}
use Rattle.scaled_num.proofs.Floors.{product_le}
use Rattle.scaled_num.proofs.Products.{mulℤ_comm}
use Rattle.scaled_num.proofs.Ring.{ring, x, ◌⊕◌, ◌⊖◌, ◌⊗◌}
use Rattle.scaled_num.proofs.Sums.{each-at, total-below, total-places, total-scale}
use Rattle.scaled_num.proofs.Weighted.{IsUpTo, neg-times, weighted-within}
use Rattle.game_model.specs.Game.{GameData, span}
use Rattle.game_model.specs.Spans.{IsWithinSpan}
use Rattle.point_set.specs.Corners.{IsCurrentCorner, point_at}
use Rattle.point_set.specs.Members.{most_points}
use Rattle.point_set.specs.Points.{PointData, PointFits, no_point}
use Rattle.point_set.specs.Sawtooth.{AreCorners, AreMeasured, IsBound, IsSawtooth, base_cost, cost_with}
use Rattle.point_set.specs.Split.{less_times}
use Rattle.point_set.proofs.CornerNumbers.{sure-sum}
use Rattle.point_set.proofs.PointBounds.{times-low, total-less}
use Rattle.point_set.proofs.Taking.{less-at, less-long, less-none-negative}

-- a corner's value is within the span
corner-spanned : (g : GameData) (points : List PointData) (s k : ℕ) → AllByRecursion (PointFits g most_points) points → IsCurrentCorner points s k → IsUpTo (pos (span g)) (point_at points k).value
corner-spanned g points s k fit c =
    let point : PointData = point_at points k in
    let fits : PointFits g most_points point = each-at (PointFits g most_points) no_point points k fit c.inside in
    let one : sum_of point.belief ≡ pos 1 = sure-sum point.belief s (record { state = c.corner.state; parts = c.corner.belief }) in
    subst (λ (z : ℤ). IsUpTo z point.value) (ap (λ (n : ℤ). pos (span g) *ℤ n) one ∙ once (pos (span g))) fits.value
  where
    once : (z : ℤ) → z *ℤ pos 1 ≡ z
    once z = omega (arith, ints)

-- the corners' part of a mass
rest-spanned : (g : GameData) (points : List PointData) (corners : ℕ → ℕ) (rest : List ℤ) → AllByRecursion (PointFits g most_points) points → AreCorners points (length rest) corners → AllByRecursion (λ x. pos 0 ≤ℤ x) rest →
    IsUpTo (pos (span g) *ℤ sum_of rest) (base_cost points corners rest)
rest-spanned g points corners rest fit current low =
    subst (λ (z : ℤ). IsUpTo (pos (span g) *ℤ z) (base_cost points corners rest)) (total-places (λ (x : ℤ). x) (pos 0) rest)
    (weighted-within (pos (span g)) (length rest) (at rest) (λ s. (point_at points (corners s)).value)
    (λ s l. each-at (λ x. pos 0 ≤ℤ x) (pos 0) rest s low l) (λ s l. corner-spanned g points s (corners s) fit (current s l)))

-- what remains of a mass, in all
less-total : (mass belief : List ℤ) (t : ℤ) → length belief ≡ length mass → sum_of (less_times mass belief t) ≡ sum_of mass -ℤ t *ℤ sum_of belief
less-total mass belief t long =
    sym (total-places (λ (y : ℤ). y) (pos 0) (less_times mass belief t))
    ∙ ap (λ (n : ℕ). total (at (less_times mass belief t)) (below n)) (less-long mass belief t)
    ∙ total-below (length mass) _ (λ s. at mass s -ℤ t *ℤ at belief s) (λ s l. less-at mass belief t s l)
    ∙ total-less (at mass) (λ s. t *ℤ at belief s) (below (length mass))
    ∙ ap₂ (λ (a b : ℤ). a -ℤ b) (total-places (λ (y : ℤ). y) (pos 0) mass)
    (total-scale t (at belief) (below (length mass)) ∙ ap (λ (n : ℕ). t *ℤ total (at belief) (below n)) (sym long) ∙ ap (λ (z : ℤ). t *ℤ z) (total-places (λ (y : ℤ). y) (pos 0) belief))

-- what costs at the corners of what remains
less-cost : (points : List PointData) (corners : ℕ → ℕ) (mass : List ℤ) (k : ℕ) (t : ℤ) →
    cost_with points corners mass (point_at points k) t ≡ t *ℤ (point_at points k).value +ℤ base_cost points corners (less_times mass (point_at points k).belief t)
less-cost points corners mass k t =
    let belief : List ℤ = (point_at points k).belief in
    ap (λ (z : ℤ). t *ℤ (point_at points k).value +ℤ z)
    (total-below (length mass) _ (λ s. at (less_times mass belief t) s *ℤ (point_at points (corners s)).value) (λ s l. ap (λ (z : ℤ). z *ℤ (point_at points (corners s)).value) (sym (less-at mass belief t s l)))
    ∙ ap (λ (n : ℕ). total (λ s. at (less_times mass belief t) s *ℤ (point_at points (corners s)).value) (below n)) (sym (less-long mass belief t)))

times-upto : (t most y : ℤ) → pos 0 ≤ℤ t → IsUpTo most y → IsUpTo (t *ℤ most) (t *ℤ y)
times-upto t most y low h = (
  subst (λ (z : ℤ). z ≤ℤ (t *ℤ y)) (neg-times most t ∙ ap neg_ℤ (mulℤ_comm most t)) (subst (λ (z : ℤ). (neg_ℤ most *ℤ t) ≤ℤ z) (mulℤ_comm y t) (product_le (neg_ℤ most) y t low h.0)),
  subst (λ (z : ℤ). z ≤ℤ (t *ℤ most)) (mulℤ_comm y t) (subst (λ (z : ℤ). (y *ℤ t) ≤ℤ z) (mulℤ_comm most t) (product_le y most t low h.1)),
)

both-upto : (a b v w : ℤ) → IsUpTo a v → IsUpTo b w → IsUpTo (a +ℤ b) (v +ℤ w)
both-upto a b v w h k =
    let lv = h.0 in
    let hv = h.1 in
    let lw = k.0 in
    let hw = k.1 in
    (omega (arith, ints), omega (arith, ints))

bound-spanned : (points : List PointData) (corners : ℕ → ℕ) (mass : List ℤ) (k : ℕ) (bound : ℤ) (m : AreMeasured points mass) → AreCorners points (length mass) corners → IsBound points corners mass k bound → IsWithinSpan m.game mass bound
bound-spanned points corners mass k bound m current b =
    let point : PointData = point_at points k in
    let fits : PointFits m.game most_points point = each-at (PointFits m.game most_points) no_point points k m.fit b.inside in
    let t : ℤ = b.times in
    let V : ℤ = pos (span m.game) in
    let rest : List ℤ = less_times mass point.belief t in
    let long : length point.belief ≡ length mass = fits.belief.long ∙ sym m.right.long in
    let at_rest : IsUpTo (V *ℤ sum_of rest) (base_cost points corners rest) =
    rest-spanned m.game points corners rest m.fit (subst (λ (n : ℕ). AreCorners points n corners) (sym (less-long mass point.belief t)) current) (less-none-negative mass point.belief t b.most.fits) in
    subst (λ (v : ℤ). IsWithinSpan m.game mass v) (sym (b.cost ∙ less-cost points corners mass k t))
    (subst (λ (z : ℤ). IsUpTo z (t *ℤ point.value +ℤ base_cost points corners rest))
    (ap (λ (z : ℤ). t *ℤ (V *ℤ sum_of point.belief) +ℤ V *ℤ z) (less-total mass point.belief t long) ∙ whole t V (sum_of point.belief) (sum_of mass))
    (both-upto (t *ℤ (V *ℤ sum_of point.belief)) (V *ℤ sum_of rest) (t *ℤ point.value) (base_cost points corners rest)
    (times-upto t (V *ℤ sum_of point.belief) point.value (times-low mass point.belief t m.right.each b.most) fits.value) at_rest))
  where
    whole : (t v b s : ℤ) → t *ℤ (v *ℤ b) +ℤ v *ℤ (s -ℤ t *ℤ b) ≡ v *ℤ s
    whole t v b s = ring (t ∷ v ∷ b ∷ s ∷ []) ((x 0 ⊗ (x 1 ⊗ x 2)) ⊕ (x 1 ⊗ (x 3 ⊖ (x 0 ⊗ x 2)))) (x 1 ⊗ x 3) (omega arith)

pub sawtooth-spanned : (points : List PointData) (mass : List ℤ) (value : ℤ) → IsSawtooth points mass value → (m : AreMeasured points mass) → IsWithinSpan m.game mass value
sawtooth-spanned points mass value h m = elim h.some [
  | inl e ↦ subst (λ (v : ℤ). IsWithinSpan m.game mass v) (sym e) (rest-spanned m.game points h.corners mass m.fit h.current m.right.each)
  | inr b ↦ bound-spanned points h.corners mass b.0 value m h.current b.1
]
