-- A point that fits a game and so many points fits it and more points.
use Rattle.std.proofs.Common.{ℕ, ◌≤◌, arith}
use Rattle.game_model.specs.Branches.{IsBranch}
use Rattle.game_model.specs.Game.{GameData, numbers}
use Rattle.game_model.proofs.Pay.{each-from}
use Rattle.point_set.specs.Points.{PointData, PointFits, most_share}

pub fits-more : (g : GameData) (few many : ℕ) (point : PointData) → few ≤ many → PointFits g few point → PointFits g many point
fits-more g few many point l h = record {
  belief = h.belief;
  coprime = h.coprime;
  value = h.value;
  states = h.states;
  actions = h.actions;
  mixes = h.mixes;
  splits = record {
    rising = h.splits.rising;
    each = each-from (IsBranch (numbers g) few most_share) (IsBranch (numbers g) many most_share) point.splits (λ b i. record { own = i.own; seen = i.seen; member = omega arith; weight = i.weight }) h.splits.each;
  };
}
