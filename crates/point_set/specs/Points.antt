-- Points of a splitting strategy: when a point fits a game, and when it stands.
use Rattle.std.specs.Prelude.{ℕ, ℤ, pos, neg_ℤ, ◌+ℤ◌, ◌*ℤ◌, ◌≤ℤ◌, List, [], map, filter, ◌≡◌, ◌<◌, ◌*◌, ◌^◌, ◌==◌, ◌&&◌, slice_index_or, sum_by, unsigned_abs}
use Rattle.scaled_num.specs.Sums.{below, total, sum_of}
use Rattle.belief.specs.Mixes.{AreMixes, MixesData, mass_of, mix_at}
use Rattle.game_model.specs.Branches.{AreBranches, Branch, Continuation, continuation_of, continuations_at, mix_total}
use Rattle.game_model.specs.Game.{AreCoprime, GameData, IsBelief, IsWithin, numbers, span, unit}
use Rattle.game_model.specs.Numbers.{Numbers}

-- a point: a belief, its value in units times the belief's total, mixes of the informed player, and its shares
pub record PointData : Type 0 where
  pub belief : List ℤ
  pub value : ℤ
  pub mixes : MixesData
  pub splits : List Branch

-- the greatest weight of a share
abbrev pub most_share : ℤ
most_share = pos (2 ^ 66)

-- a point fits a game and a number of points
pub record PointFits (g : GameData) (points : ℕ) (point : PointData) : Type 0 where
  pub belief : IsBelief g.shape.states point.belief
  pub coprime : AreCoprime point.belief
  pub value : IsWithin (neg_ℤ (pos (span g) *ℤ sum_of point.belief)) (pos (span g) *ℤ sum_of point.belief) point.value
  pub states : point.mixes.states ≡ g.shape.states
  pub actions : point.mixes.actions ≡ g.shape.informed_actions
  pub mixes : AreMixes point.mixes
  pub splits : AreBranches (numbers g) points most_share point.splits

-- ---- the numbers of a point, which the rules and the plans take
pub record Point : Type 0 where
  pub belief : ℕ → ℕ
  pub value : ℤ
  pub mixes : ℕ → ℕ → ℕ
  pub splits : List Continuation

abbrev pub no_point : PointData
no_point = record { belief = []; value = pos 0; mixes = record { states = 0; actions = 0; weights = [] }; splits = [] }

abbrev pub point_of : PointData → Point
point_of point = record {
  belief = λ s. unsigned_abs (slice_index_or point.belief s (pos 0));
  value = point.value;
  mixes = λ s c. unsigned_abs (mix_at point.mixes s c);
  splits = map continuation_of point.splits;
}

-- the points of a list, by number
abbrev pub points_of : List PointData → ℕ → Point
points_of points j = point_of (slice_index_or points j no_point)

-- the shares after an own action and an observation
abbrev pub shares_at : Point → ℕ → ℕ → List Continuation
shares_at point a o = continuations_at point.splits a o

-- the mass that a point brings to a next state under its own mixes
abbrev pub mass : Numbers → Point → ℕ → ℕ → ℕ → ℕ
mass g point a o t = mass_of g point.belief point.mixes a o t

-- what the shares after an own action and an observation bring to a next state
abbrev pub shared : (ℕ → Point) → Point → ℕ → ℕ → ℕ → ℕ
shared points point a o t = sum_by (λ share. share.weight * (points share.member).belief t) (shares_at point a o)

-- the split rule at the own action a, the observation o and the next state t: the shares make up the mass
abbrev pub SplitHolds : Numbers → (ℕ → Point) → Point → ℕ → ℕ → ℕ → Type 0
SplitHolds g points point a o t = shared points point a o t ≡ mass g point a o t

-- what one stage costs at most after the own action a, in units of M * D * Q
abbrev pub point_worth : Numbers → (ℕ → Point) → Point → ℕ → ℤ
point_worth g points point a =
    total (λ s. total (λ c. pos (point.belief s * point.mixes s c) *ℤ g.reward s a c *ℤ pos (unit * g.row_total * g.discount_under)) (below g.informed_actions)) (below g.states)
    +ℤ pos g.discount_over *ℤ total (λ o. total (λ share. pos share.weight *ℤ (points share.member).value) (shares_at point a o)) (below g.observations)

-- the value rule at the own action a: in one stage the value loses nothing
abbrev pub ValueHolds : Numbers → (ℕ → Point) → Point → ℕ → Type 0
ValueHolds g points point a = point_worth g points point a ≤ℤ (point.value *ℤ pos (mix_total * g.row_total * g.discount_under))

-- a point stands where both rules hold everywhere
pub record PointStands (g : Numbers) (points : ℕ → Point) (point : Point) : Type 0 where
  pub split : (a o t : ℕ) → a < g.own_actions → o < g.observations → t < g.states → SplitHolds g points point a o t
  pub value : (a : ℕ) → a < g.own_actions → ValueHolds g points point a
