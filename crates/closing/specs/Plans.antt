-- The parts of plans that are made after each own action and observation.
use Rattle.std.specs.Prelude.{ℕ, ℤ, pos, Bool, List, [], ◌∷◌, filter, flat_map, length, map, not, slice_index, ◌++◌, ◌+◌, ◌≡◌, ◌<◌, ◌≤◌}
use Rattle.std.specs.List.{AllByRecursion}
use Rattle.scaled_num.specs.Share.{at}
use Rattle.scaled_num.specs.Sums.{below, total}
use Rattle.game_model.specs.Branches.{Branch, IsBranchBefore, mix_total}
use Rattle.game_model.specs.Game.{GameData, IsWithin}
use Rattle.point_set.specs.Points.{PointData}
use Rattle.point_set.specs.Split.{IsWanted, is_corner, most_others, most_wish}
use Rattle.stage_game.specs.Masses.{over_pairs}

-- each branch is before all that follow
abbrev pub AreInOrder : List Branch → Type 0
AreInOrder [] = Unit {0}
AreInOrder (b ∷ rest) = AllByRecursion (IsBranchBefore b) rest × AreInOrder rest

-- branches after an own action and an observation, in order
pub record AreAfter (a o : ℕ) (branches : List Branch) : Type 0 where
  pub places : AllByRecursion (λ b. (b.own ≡ a) × (b.seen ≡ o)) branches
  pub order : AreInOrder branches

-- steps after an own action and an observation, whose weights sum to the weight of the action
pub record AreStepsFor (nodes a o : ℕ) (weight : ℤ) (steps : List Branch) : Type 0 where
  pub after : AreAfter a o steps
  pub members : AllByRecursion (λ b. b.member < nodes) steps
  pub weights : AllByRecursion (λ b. IsWithin (pos 1) (pos mix_total) b.weight) steps
  pub sums : total (λ b. b.weight) steps ≡ weight

-- wishes after an own action and an observation, by which a mass can be split
pub record AreWishesFor (points : List PointData) (states a o : ℕ) (wishes : List Branch) : Type 0 where
  pub after : AreAfter a o wishes
  pub wanted : IsWanted points states (map (λ b. (b.member, b.weight)) wishes)

-- such branches stand behind those before
pub record AddsSuch (R : List Branch → Type 0) (old new : List Branch) : Type 0 where
  pub added : List Branch
  pub right : R added
  pub same : new ≡ old ++ added

-- for each of so many numbers such branches, in order, stand behind those before
pub record AddsForEach (R : ℕ → List Branch → Type 0) (count : ℕ) (old new : List Branch) : Type 0 where
  pub after : ℕ → List Branch
  pub right : (i : ℕ) → i < count → R i (after i)
  pub same : new ≡ old ++ flat_map after (below count)

-- such branches for each own action and observation, in order
pub record AreForPairs (g : GameData) (R : ℕ → ℕ → List Branch → Type 0) (all : List Branch) : Type 0 where
  pub after : ℕ → ℕ → List Branch
  pub right : (a o : ℕ) → a < g.shape.own_actions → o < g.shape.observations → R a o (after a o)
  pub same : all ≡ over_pairs g after

-- a branch to each member after an own action and an observation, with the weights in order
abbrev pub numbered_one : ℕ → ℕ → List ℤ → ℕ → Branch
numbered_one a o weights i = record { own = a; seen = o; member = i; weight = at weights i }

abbrev pub numbered : ℕ → ℕ → List ℤ → List Branch
numbered a o weights = map (numbered_one a o weights) (below (length weights))

-- a branch whose member is no current corner
abbrev pub is_other : List ℕ → Branch → Bool
is_other corners b = not (is_corner (λ s. slice_index corners s) (length corners) b.member)

-- wishes for some of the members below a count, of which so many are no corner
pub record AreWished (corners : List ℕ) (a o count others : ℕ) (wishes : List Branch) : Type 0 where
  pub after : AreAfter a o wishes
  pub members : AllByRecursion (λ b. b.member < count) wishes
  pub weights : AllByRecursion (λ b. IsWithin (pos 0) (pos most_wish) b.weight) wishes
  pub few : length (filter (is_other corners) wishes) ≤ others
  pub most : others ≤ most_others
  pub none : count ≡ 0 → others ≡ 0
  pub some : 0 < count → 1 ≤ length wishes

-- the member k is wished or not, and then so many are no corner
pub record TakesWish (corners : List ℕ) (a o k others later : ℕ) (old new : List Branch) : Type 0 where
  pub added : List Branch
  pub same : new ≡ old ++ added
  pub right : (before : List Branch) → AreWished corners a o k others before → AreWished corners a o (k + 1) later (before ++ added)
