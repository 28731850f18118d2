use Rattle.stage_game.proofs.Shifted.{IsShiftSoFar}
use Rattle.stage_game.proofs.prices.least_shift.Given as goal

abbrev pub invariant-loop-place : goal.invariant-loop-place
invariant-loop-place l = IsShiftSoFar l.fn.prices l.place l.bits
