use Rattle.std.proofs.Common.{ℕ, Bool, filter, not, subst}
use Rattle.point_set.specs.Corners.{point_at}
use Rattle.stage_game.specs.Chosen.{downwards}
use Rattle.stage_game.specs.Preferred.{GoesOn}
use Rattle.stage_game.specs.UpperCandidates.{is_at_corner, most_others}
use Rattle.stage_game.proofs.Preferring.{others-all, others-more}
use Rattle.stage_game.proofs.preferred.prefer_others.Goals as goal

pub loop-i-preserved : goal.loop-i-preserved
loop-i-preserved c =
    let q : ℕ → Bool = λ (k : ℕ). not (is_at_corner (point_at c.args.points.now.members k)) in
    others-more q c.len-count.result c.loop-i.i c.args.others.now.items c.loop-i.others.items c.prefer_other.new.others.items c.loop-i-test.true c.loop-i.invariant c.in_ok-prefer_other.ensures

pub returns : goal.returns
returns c =
    let q : ℕ → Bool = λ (k : ℕ). not (is_at_corner (point_at c.args.points.now.members k)) in
    subst (λ (n : ℕ). GoesOn most_others (filter q (downwards n)) c.args.others.now.items c.loop-i.others.items) c.len-count.ensures.count
    (others-all q c.len-count.result c.loop-i.i c.args.others.now.items c.loop-i.others.items c.loop-i-test.false c.loop-i.invariant)
