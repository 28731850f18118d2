use Rattle.std.proofs.Common.{rules, ◌≡◌, ◌<◌, ◌∙◌, List, ap, length, get_or, ℕ}
use Rattle.std.specs.Prelude.{ℤ, ◌*ℤ◌, FitsSigned}
use Rattle.std.specs.Int.{w128}
use Rattle.std.proofs.lemmas.Int.{to_z-of_z}
use Rattle.scaled_num.proofs.Sums.{each-at}
use Rattle.point_set.specs.Members.{IsNamed, counted, data_of}
use Rattle.point_set.specs.Points.{Point, points_of}
use Rattle.point_set.specs.declared.points.Point.{Point as PointParts}
use Rattle.game_model.specs.declared.branches.Branch.{Branch as ShareParts}
use Rattle.point_set.proofs.Named.{point-at}
use Rattle.point_set.proofs.Running.{next-item}
use Rattle.point_set.proofs.Shares.{no_share}
use Rattle.point_set.proofs.values.counted_shares.Goals as goal

pub overflow_mul-sum : goal.overflow_mul-sum
overflow_mul-sum c =
    let points : List PointParts = c.args.points.now in
    let i : ℕ = c.loop-share.share-index in
    let share : ShareParts = get_or c.args.shares.now i no_share in
    let named : share.k < length points = each-at (IsNamed points) no_share c.args.shares.now i c.requires.named c.loop-share-test.true in
    let y : ℤ = (get_or points share.k c.index-points-share.result).value in
    let weight_fits : FitsSigned w128 share.weight = search rules in
    let value_fits : FitsSigned w128 y = search rules in
    let value_is : (points_of (data_of points) share.k).value ≡ y = ap (λ (p : Point). p.value) (point-at points share.k c.index-points-share.result named c.index-points-share.is) ∙ ap (λ (p : PointParts). p.value) c.index-points-share.is in
    let n = next-item (counted (points_of (data_of points))) c.args.shares.now i no_share share.weight y _ c.loop-share-test.true (ap (λ (z : ℤ). share.weight *ℤ z) value_is) c.requires.small c.loop-share.invariant.is c.loop-share.invariant.small in
    simp to_z-of_z n.product_fits

pub overflow_add-sum : goal.overflow_add-sum
overflow_add-sum c =
    let points : List PointParts = c.args.points.now in
    let i : ℕ = c.loop-share.share-index in
    let share : ShareParts = get_or c.args.shares.now i no_share in
    let named : share.k < length points = each-at (IsNamed points) no_share c.args.shares.now i c.requires.named c.loop-share-test.true in
    let y : ℤ = (get_or points share.k c.index-points-share.result).value in
    let weight_fits : FitsSigned w128 share.weight = search rules in
    let value_fits : FitsSigned w128 y = search rules in
    let value_is : (points_of (data_of points) share.k).value ≡ y = ap (λ (p : Point). p.value) (point-at points share.k c.index-points-share.result named c.index-points-share.is) ∙ ap (λ (p : PointParts). p.value) c.index-points-share.is in
    let n = next-item (counted (points_of (data_of points))) c.args.shares.now i no_share share.weight y _ c.loop-share-test.true (ap (λ (z : ℤ). share.weight *ℤ z) value_is) c.requires.small c.loop-share.invariant.is c.loop-share.invariant.small in
    let fact_0 = n.product_fits in
    simp to_z-of_z n.sum_fits

pub loop-share-preserved : goal.loop-share-preserved
loop-share-preserved c =
    let points : List PointParts = c.args.points.now in
    let i : ℕ = c.loop-share.share-index in
    let share : ShareParts = get_or c.args.shares.now i no_share in
    let named : share.k < length points = each-at (IsNamed points) no_share c.args.shares.now i c.requires.named c.loop-share-test.true in
    let y : ℤ = (get_or points share.k c.index-points-share.result).value in
    let weight_fits : FitsSigned w128 share.weight = search rules in
    let value_fits : FitsSigned w128 y = search rules in
    let value_is : (points_of (data_of points) share.k).value ≡ y = ap (λ (p : Point). p.value) (point-at points share.k c.index-points-share.result named c.index-points-share.is) ∙ ap (λ (p : PointParts). p.value) c.index-points-share.is in
    let n = next-item (counted (points_of (data_of points))) c.args.shares.now i no_share share.weight y _ c.loop-share-test.true (ap (λ (z : ℤ). share.weight *ℤ z) value_is) c.requires.small c.loop-share.invariant.is c.loop-share.invariant.small in
    let fact_0 = n.product_fits in
    let fact_1 = n.sum_fits in
    simp to_z-of_z (record { is = n.is; small = n.small })
