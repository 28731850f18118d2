use Rattle.std.proofs.Common.{◌^◌, arith}
use Rattle.std.proofs.lemmas.Int.{ints}
use Rattle.std.specs.Prelude.{ℤ, pos, ◌≤ℤ◌}
use Rattle.scaled_num.specs.Sums.{sum_of}
use Rattle.hsvi_trial.proofs.ZeroSums.{mass-light}
use Rattle.hsvi_trial.proofs.choices.has_mass.Goals as goal

pub sum-requires-clause-most : goal.sum-requires-clause-most
sum-requires-clause-most c = wide (sum_of c.args.mass.now) (mass-light c.args.game.now c.law_game.ensures.accepted c.args.mass.now c.requires)
  where
    wide : (x : ℤ) → x ≤ℤ pos (2 ^ 66) → x ≤ℤ pos (2 ^ 126)
    wide x h = omega (arith, ints)
