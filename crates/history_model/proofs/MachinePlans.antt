-- The plans of a certificate's nodes and points play as their machines say.
use Rattle.std.proofs.Common.{◌≡◌, ℕ, ◌≢◌, ◌*◌, ◌/◌, ◌<◌, [], length, refl, subst}
use Rattle.alpha_set.specs.Nodes.{nodes_of}
use Rattle.controller.proofs.Members.{nodes-keep, points-keep}
use Rattle.game_model.specs.Game.{numbers}
use Rattle.history_model.specs.Halves.{common}
use Rattle.history_model.specs.MachinePlans.{ActionsPlay, BroughtDivides, NodesPlay, PointsPlay}
use Rattle.history_model.specs.Machines.{brought}
use Rattle.history_model.proofs.Machines.{action-matches, node-matches, point-matches, same-multiple}
use Rattle.history_model.proofs.Splitting.{masses-divide}
use Rattle.point_set.specs.Points.{points_of}

pub nodes-play : NodesPlay
nodes-play g k stands n i li =
    node-matches (numbers g) (nodes_of k.nodes) (length k.nodes) i (λ i a o li la lo. (nodes-keep g k stands.fits i li).named a o la lo) n [] i refl li

pub points-play : PointsPlay
points-play g k stands n j s lj =
    point-matches (numbers g) (points_of k.points) (length k.points) (common g k) j s stands.fits.some_points
    (λ j a o lj la lo. (points-keep g k stands.fits j lj).named a o la lo) n [] j s refl refl lj

pub actions-play : ActionsPlay
actions-play g action n = action-matches g action n []

pub brought-divides : BroughtDivides
brought-divides g points count =
    subst (λ (z : ℕ). (j a o t : ℕ) → j < count → a < g.own_actions → o < g.observations → t < g.states →
    brought g (points j) a o t ≢ 0 → brought g (points j) a o t * (z / brought g (points j) a o t) ≡ z)
    (same-multiple g points count) (masses-divide g points count)
