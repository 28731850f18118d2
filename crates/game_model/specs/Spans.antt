-- How large what a mass costs or is worth can be.
use Rattle.std.specs.Prelude.{List, ℤ, pos, neg_ℤ, ◌*ℤ◌}
use Rattle.scaled_num.specs.Sums.{sum_of}
use Rattle.game_model.specs.Game.{GameData, IsWithin, span}

-- in magnitude at most the span times the total of a mass
abbrev pub IsWithinSpan : GameData → List ℤ → ℤ → Type 0
IsWithinSpan g mass value = IsWithin (neg_ℤ (pos (span g) *ℤ sum_of mass)) (pos (span g) *ℤ sum_of mass) value
