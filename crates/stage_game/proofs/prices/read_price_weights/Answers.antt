use Rattle.std.proofs.Common.{◌^◌, List, ℤ, pos, ◌≤ℤ◌, sym, subst, arith}
use Rattle.scaled_num.proofs.Floors.{NoneNegative}
use Rattle.scaled_num.specs.Sums.{sum_of}
use Rattle.stage_game.proofs.Shifted.{left-not-negative, left-small}
use Rattle.stage_game.proofs.prices.read_price_weights.Goals as goal

pub returns-clause-positive : goal.returns-clause-positive
returns-clause-positive c = subst NoneNegative (sym c.shift.ensures) (left-not-negative c.read_prices.new.prices c.least_shift-bits.result c.least_shift-bits.ensures.least.fits)

pub returns-clause-small : goal.returns-clause-small
returns-clause-small c =
    subst (λ (weights : List ℤ). sum_of weights ≤ℤ pos (2 ^ 100)) (sym c.shift.ensures)
    (left-small c.read_prices.new.prices c.least_shift-bits.result (omega (arith, c.read_prices.ensures.prices.long)) c.least_shift-bits.ensures.least.fits)
