use Rattle.std.proofs.Common.{◌≡◌, ℕ, length, inl, inr, subst, arith}
use Rattle.stage_game.proofs.Shifted.{IsShiftSoFar, shift-all, shift-more}
use Rattle.stage_game.proofs.prices.least_shift.Goals as goal
use Rattle.stage_game.proofs.prices.least_shift.Goals.{then-bits-own, else-bits-own}

pub loop-place-preserved : goal.loop-place-preserved
loop-place-preserved c =
    let more = shift-more c.args.prices.now c.loop-place.place c.loop-place.bits c.shift_of-own.result c.if-bits-own.bits c.loop-place.invariant c.shift_of-own.ensures.few c.shift_of-own.ensures.fits c.shift_of-own.ensures.least in
    elim c.if-bits-own.branch [
      | then-bits-own w ↦ more (omega arith) (omega arith) (inr w.bits-is)
      | else-bits-own w ↦ more (omega arith) (omega arith) (inl w.bits-is)
    ]

pub returns-clause-least : goal.returns-clause-least
returns-clause-least c =
    let done : c.loop-place.place ≡ length c.args.prices.now = omega arith in
    shift-all c.args.prices.now c.loop-place.bits (subst (λ (n : ℕ). IsShiftSoFar c.args.prices.now n c.loop-place.bits) done c.loop-place.invariant)
