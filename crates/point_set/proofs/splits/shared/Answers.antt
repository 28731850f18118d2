use Rattle.std.proofs.Common.{◌≡◌, ◌<◌, ◌^◌, ◌∙◌, List, ap, length, get_or, sym, subst, ℕ}
use Rattle.std.specs.Prelude.{ℤ, pos, unsigned_abs}
use Rattle.std.proofs.lemmas.Int.{to_z-of_z}
use Rattle.scaled_num.proofs.Sums.{each-at}
use Rattle.game_model.specs.Game.{IsWithin}
use Rattle.point_set.specs.Members.{IsNamed, data_of}
use Rattle.point_set.specs.Points.{Point, points_of}
use Rattle.point_set.specs.declared.points.Point.{Point as PointParts}
use Rattle.game_model.specs.declared.branches.Branch.{Branch as ShareParts}
use Rattle.point_set.proofs.Named.{fits-at, next-share, point-at}
use Rattle.point_set.proofs.Shares.{no_share}
use Rattle.point_set.proofs.splits.shared.Goals as goal

pub overflow_mul-sum : goal.overflow_mul-sum
overflow_mul-sum c =
    let points : List PointParts = c.args.points.now in
    let i : ℕ = c.loop-share.share-index in
    let s : ℕ = c.args.s in
    let share : ShareParts = get_or c.args.shares.now i no_share in
    let named : share.k < length points = each-at (IsNamed points) no_share c.args.shares.now i c.requires.named c.loop-share-test.true in
    let p : PointParts = c.index-points-share.result in
    let fits = fits-at c.args.game.now points share.k p c.requires.fits named c.index-points-share.is in
    let y : ℤ = get_or c.parts.result.now s (pos 0) in
    let y_is : y ≡ get_or p.belief s (pos 0) = ap (λ (ps : List ℤ). get_or ps s (pos 0)) (c.parts.ensures.parts ∙ ap (λ (q : PointParts). q.belief) (sym c.index-points-share.is)) in
    let within : IsWithin (pos 0) (pos (2 ^ 20)) y = subst (IsWithin (pos 0) (pos (2 ^ 20))) (sym y_is) (each-at (IsWithin (pos 0) (pos (2 ^ 20))) (pos 0) p.belief s fits.belief.each (subst (λ (n : ℕ). s < n) (sym fits.belief.long) c.requires.state)) in
    let n = next-share (points_of (data_of points)) c.args.shares.now i s y _ c.loop-share-test.true c.requires.few c.requires.weights within
    (ap (λ (q : Point). q.belief s) (point-at points share.k p named c.index-points-share.is) ∙ ap unsigned_abs (sym y_is)) c.loop-share.invariant.is c.loop-share.invariant.small in
    let fact_0 = n.weight_fits in
    let fact_1 = n.y_fits in
    simp to_z-of_z n.product_fits

pub overflow_add-sum : goal.overflow_add-sum
overflow_add-sum c =
    let points : List PointParts = c.args.points.now in
    let i : ℕ = c.loop-share.share-index in
    let s : ℕ = c.args.s in
    let share : ShareParts = get_or c.args.shares.now i no_share in
    let named : share.k < length points = each-at (IsNamed points) no_share c.args.shares.now i c.requires.named c.loop-share-test.true in
    let p : PointParts = c.index-points-share.result in
    let fits = fits-at c.args.game.now points share.k p c.requires.fits named c.index-points-share.is in
    let y : ℤ = get_or c.parts.result.now s (pos 0) in
    let y_is : y ≡ get_or p.belief s (pos 0) = ap (λ (ps : List ℤ). get_or ps s (pos 0)) (c.parts.ensures.parts ∙ ap (λ (q : PointParts). q.belief) (sym c.index-points-share.is)) in
    let within : IsWithin (pos 0) (pos (2 ^ 20)) y = subst (IsWithin (pos 0) (pos (2 ^ 20))) (sym y_is) (each-at (IsWithin (pos 0) (pos (2 ^ 20))) (pos 0) p.belief s fits.belief.each (subst (λ (n : ℕ). s < n) (sym fits.belief.long) c.requires.state)) in
    let n = next-share (points_of (data_of points)) c.args.shares.now i s y _ c.loop-share-test.true c.requires.few c.requires.weights within
    (ap (λ (q : Point). q.belief s) (point-at points share.k p named c.index-points-share.is) ∙ ap unsigned_abs (sym y_is)) c.loop-share.invariant.is c.loop-share.invariant.small in
    let fact_0 = n.weight_fits in
    let fact_1 = n.y_fits in
    let fact_2 = n.product_fits in
    simp to_z-of_z n.sum_fits

pub loop-share-preserved : goal.loop-share-preserved
loop-share-preserved c =
    let points : List PointParts = c.args.points.now in
    let i : ℕ = c.loop-share.share-index in
    let s : ℕ = c.args.s in
    let share : ShareParts = get_or c.args.shares.now i no_share in
    let named : share.k < length points = each-at (IsNamed points) no_share c.args.shares.now i c.requires.named c.loop-share-test.true in
    let p : PointParts = c.index-points-share.result in
    let fits = fits-at c.args.game.now points share.k p c.requires.fits named c.index-points-share.is in
    let y : ℤ = get_or c.parts.result.now s (pos 0) in
    let y_is : y ≡ get_or p.belief s (pos 0) = ap (λ (ps : List ℤ). get_or ps s (pos 0)) (c.parts.ensures.parts ∙ ap (λ (q : PointParts). q.belief) (sym c.index-points-share.is)) in
    let within : IsWithin (pos 0) (pos (2 ^ 20)) y = subst (IsWithin (pos 0) (pos (2 ^ 20))) (sym y_is) (each-at (IsWithin (pos 0) (pos (2 ^ 20))) (pos 0) p.belief s fits.belief.each (subst (λ (n : ℕ). s < n) (sym fits.belief.long) c.requires.state)) in
    let n = next-share (points_of (data_of points)) c.args.shares.now i s y _ c.loop-share-test.true c.requires.few c.requires.weights within
    (ap (λ (q : Point). q.belief s) (point-at points share.k p named c.index-points-share.is) ∙ ap unsigned_abs (sym y_is)) c.loop-share.invariant.is c.loop-share.invariant.small in
    let fact_0 = n.weight_fits in
    let fact_1 = n.y_fits in
    let fact_2 = n.product_fits in
    let fact_3 = n.sum_fits in
    simp to_z-of_z (record { is = n.is; small = n.small })
