-- The shares that split masses into corners, in the making; and a point whose shares name the points of a set.
use Rattle.std.specs.Prelude.{ℕ, ℤ, pos, List, flat_map, length, map, ◌<◌, ◌≡◌}
use Rattle.std.specs.List.{AllByRecursion}
use Rattle.scaled_num.specs.Sums.{below}
use Rattle.game_model.specs.Branches.{Branch}
use Rattle.game_model.specs.Game.{GameData, numbers}
use Rattle.belief.specs.Mixes.{MixesData, pure_mixes}
use Rattle.point_set.specs.Faults.{SplitsHold}
use Rattle.point_set.specs.Members.{most_points}
use Rattle.point_set.specs.Points.{PointData, PointFits, PointStands, point_of, points_of}
use Rattle.backup.specs.Rounds.{AreSettled}
use Rattle.belief.specs.Beliefs.{corner_of}
use Rattle.scaled_num.specs.Share.{at}
use Rattle.backup.specs.Seeds.{AreSeedPoints, corner_points, corner_split, mass_at}

-- one share for each of the first n corners, with these weights
abbrev pub row_shares : (ℕ → ℤ) → ℕ → ℕ → ℕ → List Branch
row_shares weights a o n = map (λ t. record { own = a; seen = o; member = t; weight = weights t }) (below n)

-- the shares after an own action and an observation, also those with no weight
abbrev pub seen_shares : GameData → List ℤ → MixesData → ℕ → ℕ → List Branch
seen_shares g belief mixes a o = row_shares (λ t. pos (mass_at g belief mixes a o t)) a o g.shape.states

-- the shares after an own action and the first n observations
abbrev pub own_shares : GameData → List ℤ → MixesData → ℕ → ℕ → List Branch
own_shares g belief mixes a n = flat_map (seen_shares g belief mixes a) (below n)

-- the shares after the first n own actions
abbrev pub first_shares : GameData → List ℤ → MixesData → ℕ → List Branch
first_shares g belief mixes n = flat_map (λ a. own_shares g belief mixes a g.shape.observations) (below n)

-- a belief and mixes are over the states and the informed actions of a game
pub record AreOver (g : GameData) (parts : List ℤ) (mixes : MixesData) : Type 0 where
  pub belief : length parts ≡ g.shape.states
  pub states : mixes.states ≡ g.shape.states
  pub actions : mixes.actions ≡ g.shape.informed_actions

-- a point is split among points, all of them fitting the game
pub record IsSplitAmong (g : GameData) (points : List PointData) (point : PointData) : Type 0 where
  pub each : AllByRecursion (PointFits g most_points) points
  pub fits : PointFits g most_points point
  pub named : AllByRecursion (λ (share : Branch). share.member < length points) point.splits
  pub splits : SplitsHold (numbers g) (points_of points) (point_of point)

-- the corner points of settled values with these replies
pub record AreCorners (g : GameData) (replies : List ℕ) (points : List PointData) : Type 0 where
  pub values : List ℤ
  pub settled : AreSettled g values replies
  pub same : points ≡ corner_points g values (pure_mixes g replies)

-- the first n corner points
abbrev pub first_corners : GameData → List ℤ → MixesData → ℕ → List PointData
first_corners g values mixes n = map (λ s. corner_split g (corner_of g.shape.states s) (at values s) mixes) (below n)

-- the seed points, which fit the game and stand
pub record AreSeeds (g : GameData) (points : List PointData) : Type 0 where
  pub seeds : AreSeedPoints g points
  pub fit : AllByRecursion (PointFits g (length points)) points
  pub stand : (j : ℕ) → j < length points → PointStands (numbers g) (points_of points) (points_of points j)
