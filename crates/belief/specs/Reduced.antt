-- What a mass becomes as a belief.
use Rattle.std.specs.Prelude.{ℕ, ℤ, pos, List, map, ◌≡◌, ◌^◌, ◌*ℤ◌, ◌≤ℤ◌, ◌<ℤ◌}
use Rattle.scaled_num.specs.Share.{IsShared}
use Rattle.scaled_num.specs.Sums.{sum_of}
use Rattle.game_model.specs.Game.{AreCoprime}

-- the greatest total of a belief
abbrev pub most_total : ℤ
most_total = pos (2 ^ 20)

-- numbers in lowest terms: coprime, and so many times over they are the numbers
pub record AreLowest (numbers lowest : List ℤ) : Type 0 where
  pub divisor : ℕ
  pub times : numbers ≡ map (λ x. pos divisor *ℤ x) lowest
  pub coprime : AreCoprime lowest

-- what the greatest total, shared by these weights, is in lowest terms
pub record IsSharedOut (weights parts : List ℤ) : Type 0 where
  pub shares : List ℤ
  pub shared : IsShared weights most_total shares
  pub lowest : AreLowest shares parts

-- The belief of a mass: the mass in lowest terms where that has the total of a belief, and else the greatest
-- total of a belief shared out by it.
pub record IsReduced (mass parts : List ℤ) : Type 0 where
  pub lowest : List ℤ
  pub are_lowest : AreLowest mass lowest
  pub light : sum_of lowest ≤ℤ most_total → parts ≡ lowest
  pub heavy : most_total <ℤ sum_of lowest → IsSharedOut lowest parts
