use Rattle.std.proofs.Common.{ℕ, arith, below_more, length, get_or, rules, subst}
use Rattle.point_set.specs.Points.{PointData, PointFits, no_point}
use Rattle.controller.proofs.points.points_fit.Goals as goal
use Rattle.scaled_num.proofs.Each.{each-by-place}

pub loop-j-preserved : goal.loop-j-preserved
loop-j-preserved c =
    let found : PointFits c.args.game.now c.len.result (get_or c.args.points.now.members c.loop-j.j no_point) =
    subst (λ (point : PointData). PointFits c.args.game.now c.len.result point) c.point.ensures (c.point_fits.ensures.0 c.if-not-point_fits.false) in
    below_more (λ (k : ℕ). PointFits c.args.game.now (length c.args.points.now.members) (get_or c.args.points.now.members k no_point)) c.loop-j.j c.loop-j.invariant
    (subst (λ (n : ℕ). PointFits c.args.game.now n (get_or c.args.points.now.members c.loop-j.j no_point)) c.len.ensures.count found)

pub returns : goal.returns
returns c = (
  λ t. each-by-place (PointFits c.args.game.now (length c.args.points.now.members)) no_point c.args.points.now.members (λ k l. c.loop-j.invariant k (omega (arith, c.len-j-end.ensures.count))),
  λ h. search rules,
)
