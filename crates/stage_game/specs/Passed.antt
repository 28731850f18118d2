-- What the loops of reading have added to a list of branches.
use Rattle.std.specs.Prelude.{ℕ, ℤ, List, flat_map, ◌++◌, ◌≡◌, ◌<◌}
use Rattle.scaled_num.specs.Sums.{below}
use Rattle.game_model.specs.Branches.{Branch}
use Rattle.game_model.specs.Game.{GameData}
use Rattle.simplex.specs.Dictionary.{Dictionary}
use Rattle.stage_game.specs.Advice.{AreStepsAfter, AreWantedAfter}

-- the steps after an own action and an observation stand behind those before
pub record AddsStepsAfter (g : GameData) (candidates : List ℕ) (d : Dictionary) (own : List ℤ) (a o : ℕ) (old new : List Branch) : Type 0 where
  pub steps : List Branch
  pub read : AreStepsAfter g candidates d own a o steps
  pub same : new ≡ old ++ steps

-- the steps after an own action, by observation in order, stand behind those before
pub record AddsSteps (g : GameData) (candidates : List ℕ) (d : Dictionary) (own : List ℤ) (a : ℕ) (old new : List Branch) : Type 0 where
  pub after : ℕ → List Branch
  pub read : (o : ℕ) → o < g.shape.observations → AreStepsAfter g candidates d own a o (after o)
  pub same : new ≡ old ++ flat_map after (below g.shape.observations)

-- the wanted weights after an own action and an observation stand behind those before
pub record AddsWantedAfter (g : GameData) (candidates : List ℕ) (d : Dictionary) (a o : ℕ) (old new : List Branch) : Type 0 where
  pub wanted : List Branch
  pub read : AreWantedAfter g candidates d a o wanted
  pub same : new ≡ old ++ wanted

-- the wanted weights after an own action, by observation in order, stand behind those before
pub record AddsWanted (g : GameData) (candidates : List ℕ) (d : Dictionary) (a : ℕ) (old new : List Branch) : Type 0 where
  pub after : ℕ → List Branch
  pub read : (o : ℕ) → o < g.shape.observations → AreWantedAfter g candidates d a o (after o)
  pub same : new ≡ old ++ flat_map after (below g.shape.observations)
