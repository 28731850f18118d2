use Rattle.std.proofs.Common.{◌^◌, ◌<◌, ℤ, FitsSigned, to_z-of_z, rules, arith, unsigned_abs}
use Rattle.std.specs.Int.{w128}
use Rattle.std.proofs.lemmas.Int.{ints}
use Rattle.simplex.specs.Reading.{IsPrice}
use Rattle.stage_game.specs.Reading.{last_of}
use Rattle.stage_game.proofs.Last.{at-last, price-small}
use Rattle.stage_game.proofs.prices.counted_price.Goals as goal

pub overflow_cast-result : goal.overflow_cast-result
overflow_cast-result c =
    let price : ℤ = c.price-price.result in
    let fits : FitsSigned w128 price = search rules in
    let small : unsigned_abs price < 2 ^ 62 =
    price-small (last_of c.args.solver.now) c.args.row price c.requires.last.readable c.requires.row (at-last c.args.solver.now.last (λ d. IsPrice d c.args.row price) c.requires.last.some c.price-price.ensures) in
    simp to_z-of_z (grind (arith, ints), omega (arith, ints))

pub returns-else-price-lt0-clause-small : goal.returns-else-price-lt0-clause-small
returns-else-price-lt0-clause-small c =
    let price : ℤ = c.price-price.result in
    let fits : FitsSigned w128 price = search rules in
    let small : unsigned_abs price < 2 ^ 62 =
    price-small (last_of c.args.solver.now) c.args.row price c.requires.last.readable c.requires.row (at-last c.args.solver.now.last (λ d. IsPrice d c.args.row price) c.requires.last.some c.price-price.ensures) in
    simp to_z-of_z small
