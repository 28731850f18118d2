use Rattle.std.proofs.Common.{arith, ◌<◌, ℕ, subst, sym}
use Rattle.belief.proofs.Parts.{corner-parts}
use Rattle.game_model.specs.Game.{AreCoprime}
use Rattle.point_set.specs.Corners.{HasCorner}
use Rattle.worked_rows.proofs.SeedsServe.{both-states}
use Rattle.worked_rows.proofs.stages.twelve_points.Goals as goal

pub push_point-requires-clause-coprime : goal.push_point-requires-clause-coprime
push_point-requires-clause-coprime c = subst AreCoprime (sym c.corner.ensures) (corner-parts 2 0 (omega arith) (omega arith)).coprime

pub push_point-requires-2-clause-coprime : goal.push_point-requires-2-clause-coprime
push_point-requires-2-clause-coprime c = subst AreCoprime (sym c.corner-2.ensures) (corner-parts 2 1 (omega arith) (omega arith)).coprime

pub push_point-requires-3-clause-coprime : goal.push_point-requires-3-clause-coprime
push_point-requires-3-clause-coprime c = subst AreCoprime (sym c.copied.ensures) c.requires.coprime

pub loop-init : goal.loop-init
loop-init c = record {
  corners = λ s l. both-states (HasCorner c.push_point-3.new.set.members)
      (c.in_ok-push_point-3.ensures.keeps 0 (c.in_ok-push_point-2.ensures.keeps 0 (c.in_ok-push_point.ensures.adds 0 (omega arith) c.corner.ensures)))
      (c.in_ok-push_point-3.ensures.keeps 1 (c.in_ok-push_point-2.ensures.adds 1 (omega arith) c.corner-2.ensures))
      s (subst (λ (n : ℕ). s < n) c.requires.states l);
  fit = c.in_ok-push_point-3.ensures.fit;
}

pub push_point-requires-in-loop-clause-coprime : goal.push_point-requires-in-loop-clause-coprime
push_point-requires-in-loop-clause-coprime c = subst AreCoprime (sym c.copied-in-loop.ensures) c.requires.coprime

pub loop-preserved : goal.loop-preserved
loop-preserved c = record {
  corners = λ s l. c.in_ok-push_point-4.ensures.keeps s (c.loop.invariant.corners s l);
  fit = c.in_ok-push_point-4.ensures.fit;
}
