use Rattle.std.proofs.Common.{rules, arith, Option, Some, None, ◌≡◌, ◌<◌, ◌+◌, ◌∙◌, FitsSigned, List, ℕ, ℤ, pos, subst, sym, length, get_or, refl, to_z}
use Rattle.std.specs.Prelude.{◌≤ℤ◌, ◌<ℤ◌}
use Rattle.std.specs.Int.{w128}
use Rattle.std.proofs.lemmas.Int.{ints, to_z-of_z}
use Rattle.scaled_num.specs.Share.{at}
use Rattle.game_model.proofs.Front.{length-map}
use Rattle.point_set.specs.Bounds.{HasRoom, IsLessened, gap_bound}
use Rattle.point_set.specs.Sawtooth.{base_cost, cost_with}
use Rattle.point_set.specs.Corners.{point_at}
use Rattle.point_set.specs.Members.{data_of, point_data}
use Rattle.point_set.specs.Points.{PointData}
use Rattle.point_set.proofs.GapBounds.{gap-above}
use Rattle.point_set.proofs.FirstBest.{LeadSoFar, all-led, new-leader, same-leader}
use Rattle.point_set.proofs.LeastBounds.{LeastSoFar, all-least, first-least, measured}
use Rattle.point_set.proofs.Named.{data-at}
use Rattle.point_set.proofs.sawtooth.least_bound.Goals as goal
use Rattle.point_set.proofs.sawtooth.least_bound.Goals.{then-gap-lt0+then-bound-least, then-gap-lt0+else-bound-least, else-gap-lt0}

pub cost-base-requires-clause-small : goal.cost-base-requires-clause-small
cost-base-requires-clause-small c =
    let points : List PointData = data_of c.args.points.now in
    let all : length c.corner_values-values.result ≡ 16 = search rules in
    let w = measured points c.args.corners.now c.args.gaps.now c.args.mass.now c.corner_values-values.result c.requires.measured c.requires.kept all c.corner_values-values.ensures in
    w.small

pub loop-k-init : goal.loop-k-init
loop-k-init c =
    let points : List PointData = data_of c.args.points.now in
    let all : length c.corner_values-values.result ≡ 16 = search rules in
    let w = measured points c.args.corners.now c.args.gaps.now c.args.mass.now c.corner_values-values.result c.requires.measured c.requires.kept all c.corner_values-values.ensures in
    let fits : FitsSigned w128 c.cost-base.result = search rules in
    let e : c.cost-base.result ≡ base_cost points (λ s. get_or c.args.corners.now s 0) c.args.mass.now = c.cost-base.ensures ∙ w.base in
    let lead : LeadSoFar points (λ s. get_or c.args.corners.now s 0) c.args.mass.now 0 c.cost-base.result None =
    record { so_far = first-least points (λ s. get_or c.args.corners.now s 0) c.args.mass.now c.cost-base.result e; leader = e } in
    simp to_z-of_z lead

pub lessened-bound-requires : goal.lessened-bound-requires
lessened-bound-requires c =
    let points : List PointData = data_of c.args.points.now in
    let corners : ℕ → ℕ = λ s. get_or c.args.corners.now s 0 in
    let mass : List ℤ = c.args.mass.now in
    let all : length c.corner_values-values.result ≡ 16 = search rules in
    let h = measured points c.args.corners.now c.args.gaps.now mass c.corner_values-values.result c.requires.measured c.requires.kept all c.corner_values-values.ensures in
    let k : ℕ = c.loop-k.k in
    let gap : ℤ = at c.args.gaps.now k in
    let base : ℤ = c.cost-base.result in
    let count : length points ≡ length c.args.points.now = length-map point_data c.args.points.now in
    let inside : k < length points = omega (arith, c.loop-k-test.true, c.requires.kept.gaps_kept.count) in
    let bare : k < length c.args.points.now = omega (arith, inside, count) in
    let base_fits : FitsSigned w128 base = search rules in
    let gap_fits : FitsSigned w128 gap = search rules in
    let bits = c.loop-k.auto.least in
    let so : LeastSoFar points corners mass k (to_z w128 c.loop-k.least-bits) = c.loop-k.invariant.so_far in
    let below = simp to_z-of_z at c.if-gap-lt0.true in
    let down : gap <ℤ pos 0 = omega (arith, ints, below) in
    let room : HasRoom mass (point_at points k).belief gap base (to_z w128 c.loop-k.least-bits) = h.room k k base gap (to_z w128 c.loop-k.least-bits) inside c.cost-base.ensures refl down so in
    simp to_z-of_z (subst (λ (p : PointData). HasRoom mass p.belief gap base (to_z w128 c.loop-k.least-bits)) (data-at c.args.points.now k c.index-points-k.result bare c.index-points-k.is) room)

pub loop-k-preserved : goal.loop-k-preserved
loop-k-preserved c =
    let points : List PointData = data_of c.args.points.now in
    let corners : ℕ → ℕ = λ s. get_or c.args.corners.now s 0 in
    let mass : List ℤ = c.args.mass.now in
    let all : length c.corner_values-values.result ≡ 16 = search rules in
    let h = measured points c.args.corners.now c.args.gaps.now mass c.corner_values-values.result c.requires.measured c.requires.kept all c.corner_values-values.ensures in
    let k : ℕ = c.loop-k.k in
    let gap : ℤ = at c.args.gaps.now k in
    let base : ℤ = c.cost-base.result in
    let count : length points ≡ length c.args.points.now = length-map point_data c.args.points.now in
    let inside : k < length points = omega (arith, c.loop-k-test.true, c.requires.kept.gaps_kept.count) in
    let bare : k < length c.args.points.now = omega (arith, inside, count) in
    let base_fits : FitsSigned w128 base = search rules in
    let gap_fits : FitsSigned w128 gap = search rules in
    let bits = c.loop-k.auto.least in
    let so : LeastSoFar points corners mass k (to_z w128 c.loop-k.least-bits) = c.loop-k.invariant.so_far in
    let upto : (to_z w128 c.loop-k.least-bits) ≤ℤ base = subst (λ (z : ℤ). (to_z w128 c.loop-k.least-bits) ≤ℤ z) (sym (c.cost-base.ensures ∙ h.base)) so.base in
    let costs : (times : ℤ) → gap_bound base gap times ≡ cost_with points corners mass (point_at points k) times = λ times. h.costs k inside base gap times c.cost-base.ensures refl in
    let lead : LeadSoFar points corners mass k (to_z w128 c.loop-k.least-bits) c.loop-k.best = c.loop-k.invariant in
    let shown : (x : ℤ) (o : Option ℕ) → to_z w128 c.if-gap-lt0.least-bits ≡ x → c.if-gap-lt0.best ≡ o → LeadSoFar points corners mass (k + 1) x o → LeadSoFar points corners mass (k + 1) (to_z w128 c.if-gap-lt0.least-bits) c.if-gap-lt0.best =
    λ x o e f d. subst (λ (z : ℤ). LeadSoFar points corners mass (k + 1) z c.if-gap-lt0.best) (sym e) (subst (λ (b : Option ℕ). LeadSoFar points corners mass (k + 1) x b) (sym f) d) in
    elim c.if-gap-lt0.branch [
      | then-gap-lt0+then-bound-least w ↦
          let result_fits : FitsSigned w128 w.lessened-bound.result = search rules in
          let lessened = simp to_z-of_z at w.lessened-bound.ensures in
          let test = simp to_z-of_z at w.if-bound-least.true in
          let less : w.lessened-bound.result <ℤ to_z w128 c.loop-k.least-bits = omega (arith, ints, test) in
          let is = simp to_z-of_z at w.least-is in
          let here : IsLessened mass (point_at points k).belief gap base (to_z w128 c.loop-k.least-bits) w.lessened-bound.result =
          subst (λ (p : PointData). IsLessened mass p.belief gap base (to_z w128 c.loop-k.least-bits) w.lessened-bound.result) (sym (data-at c.args.points.now k w.index-points-k.result bare w.index-points-k.is)) lessened in
          shown w.lessened-bound.result (Some k) is w.best-is (new-leader points corners mass k gap base (to_z w128 c.loop-k.least-bits) w.lessened-bound.result inside costs so here less)
      | then-gap-lt0+else-bound-least w ↦
          let result_fits : FitsSigned w128 w.lessened-bound.result = search rules in
          let lessened = simp to_z-of_z at w.lessened-bound.ensures in
          let test = simp to_z-of_z at w.if-bound-least.false in
          let from : (to_z w128 c.loop-k.least-bits) ≤ℤ w.lessened-bound.result = omega (arith, ints, test) in
          let here : IsLessened mass (point_at points k).belief gap base (to_z w128 c.loop-k.least-bits) w.lessened-bound.result =
          subst (λ (p : PointData). IsLessened mass p.belief gap base (to_z w128 c.loop-k.least-bits) w.lessened-bound.result) (sym (data-at c.args.points.now k w.index-points-k.result bare w.index-points-k.is)) lessened in
          shown (to_z w128 c.loop-k.least-bits) c.loop-k.best w.least-is w.best-is (same-leader points corners mass k gap base (to_z w128 c.loop-k.least-bits) w.lessened-bound.result c.loop-k.best inside costs lead here from)
      | else-gap-lt0 w ↦
          let above = simp to_z-of_z at w.if-gap-lt0.false in
          let up : pos 0 ≤ℤ gap = omega (arith, ints, above) in
          let here : IsLessened mass (point_at points k).belief gap base (to_z w128 c.loop-k.least-bits) (to_z w128 c.loop-k.least-bits) =
          gap-above mass (point_at points k).belief gap base (to_z w128 c.loop-k.least-bits) h.low up upto in
          shown (to_z w128 c.loop-k.least-bits) c.loop-k.best w.least-is w.best-is (same-leader points corners mass k gap base (to_z w128 c.loop-k.least-bits) (to_z w128 c.loop-k.least-bits) c.loop-k.best inside costs lead here (omega (arith, ints)))
    ]

pub returns-clause-sawtooth : goal.returns-clause-sawtooth
returns-clause-sawtooth c =
    let points : List PointData = data_of c.args.points.now in
    let all : length c.corner_values-values.result ≡ 16 = search rules in
    let w = measured points c.args.corners.now c.args.gaps.now c.args.mass.now c.corner_values-values.result c.requires.measured c.requires.kept all c.corner_values-values.ensures in
    all-least points (λ s. get_or c.args.corners.now s 0) c.args.mass.now c.loop-k.k _ w.current (omega (arith, c.requires.kept.gaps_kept.count)) c.loop-k.invariant.so_far

pub returns-clause-best : goal.returns-clause-best
returns-clause-best c =
    let points : List PointData = data_of c.args.points.now in
    let all : length c.corner_values-values.result ≡ 16 = search rules in
    let w = measured points c.args.corners.now c.args.gaps.now c.args.mass.now c.corner_values-values.result c.requires.measured c.requires.kept all c.corner_values-values.ensures in
    all-led points (λ s. get_or c.args.corners.now s 0) c.args.mass.now c.loop-k.k (to_z w128 c.loop-k.least-bits) c.loop-k.best w.current (omega (arith, c.requires.kept.gaps_kept.count)) c.loop-k.invariant
