use Rattle.std.proofs.Common.{arith, rules}
use Rattle.std.specs.Prelude.{FitsSigned, ◌*ℤ◌}
use Rattle.std.specs.Int.{w128}
use Rattle.std.proofs.lemmas.Int.{ints, to_z-of_z, fits_signed_from_abs}
use Rattle.scaled_num.specs.Share.{at}
use Rattle.scaled_num.specs.Sums.{sum_of}
use Rattle.stage_game.specs.Scaling.{scale}
use Rattle.stage_game.proofs.BeliefShares.{belief-quotient, part-of}
use Rattle.stage_game.proofs.LowerNumbers.{bits-few}
use Rattle.stage_game.proofs.Quotients.{ceil-is}
use Rattle.stage_game.proofs.scaling.goal_of.Goals as goal

pub returns : goal.returns
returns c =
    let few = bits-few c.args.bits c.requires.bits in
    let p = part-of c.args.game.now.shape.states c.args.belief.now c.requires.belief.right c.args.s c.requires.state in
    let q = belief-quotient c.args.game.now.shape.states c.args.belief.now c.requires.belief.right c.args.bits few c.args.s c.requires.state in
    let low = p.low in
    let high = p.high in
    let most = p.most in
    let small = q.small in
    let part_fits : FitsSigned w128 (at c.args.belief.now c.args.s) = omega (arith, ints) in
    let whole_fits : FitsSigned w128 (sum_of c.args.belief.now) = omega (arith, ints) in
    let scale_fits : FitsSigned w128 (scale c.args.bits) = omega (arith, ints) in
    let product_fits : FitsSigned w128 (scale c.args.bits *ℤ at c.args.belief.now c.args.s) = fits_signed_from_abs w128 _ (omega arith) in
    let found_fits : FitsSigned w128 c.ceil_div.result = search rules in
    let above = simp (c.scale_of.ensures.exact, c.parts.ensures.parts, c.total.ensures, to_z-of_z) at c.ceil_div.ensures.high in
    let under = simp (c.scale_of.ensures.exact, c.parts.ensures.parts, c.total.ensures, to_z-of_z) at c.ceil_div.ensures.low in
    simp to_z-of_z (ceil-is (scale c.args.bits *ℤ at c.args.belief.now c.args.s) (sum_of c.args.belief.now) c.ceil_div.result q.divisor above under)
