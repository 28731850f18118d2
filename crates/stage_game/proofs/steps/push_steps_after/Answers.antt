use Rattle.std.proofs.Common.{◌^◌, ℤ, FitsSigned, get_or, length, pos, ◌*ℤ◌, ◌≤ℤ◌, rules, to_z-of_z, arith}
use Rattle.std.specs.Int.{w128}
use Rattle.std.proofs.lemmas.Int.{ints}
use Rattle.scaled_num.proofs.Floors.{product_le}
use Rattle.scaled_num.proofs.Sums.{each-at}
use Rattle.scaled_num.specs.Sums.{sum_of}
use Rattle.game_model.specs.Branches.{mix_total}
use Rattle.game_model.specs.Game.{IsWithin}
use Rattle.stage_game.proofs.LowerFitting.{block-inside}
use Rattle.stage_game.proofs.steps.push_steps_after.Goals as goal

pub read_primal_weights-requires-clause-variables : goal.read_primal_weights-requires-clause-variables
read_primal_weights-requires-clause-variables c =
    let g = c.args.game.now in
    let inside = block-inside c.args.a c.args.o g.shape.own_actions g.shape.observations (length c.args.candidates.now) c.requires.action c.requires.observation in
    rw (c.states.ensures, c.own_actions.ensures, c.observations.ensures) (omega (arith, inside, c.requires.variables, c.requires.weights))

pub take_share-requires-clause-total : goal.take_share-requires-clause-total
take_share-requires-clause-total c =
    let weight : ℤ = get_or c.args.own.now c.args.a (pos 0) in
    let fits : FitsSigned w128 weight = search rules in
    let within : IsWithin (pos 0) (pos mix_total) weight = each-at (IsWithin (pos 0) (pos mix_total)) (pos 0) c.args.own.now c.args.a c.requires.own.each (omega (arith, c.requires.own.long)) in
    simp to_z-of_z within.0

small-product : (s x : ℤ) → s ≤ℤ pos (2 ^ 100) → pos 0 ≤ℤ x → x ≤ℤ pos 65536 → (s *ℤ x) ≤ℤ pos (2 ^ 126)
small-product s x small low most = let product : (s *ℤ x) ≤ℤ (pos (2 ^ 100) *ℤ x) = product_le s (pos (2 ^ 100)) x low small in omega (arith, ints, product)

pub take_share-requires-clause-product : goal.take_share-requires-clause-product
take_share-requires-clause-product c =
    let weight : ℤ = get_or c.args.own.now c.args.a (pos 0) in
    let fits : FitsSigned w128 weight = search rules in
    let within : IsWithin (pos 0) (pos mix_total) weight = each-at (IsWithin (pos 0) (pos mix_total)) (pos 0) c.args.own.now c.args.a c.requires.own.each (omega (arith, c.requires.own.long)) in
    simp to_z-of_z (small-product (sum_of c.read_primal_weights.new.weights) weight c.read_primal_weights.ensures.small within.0 within.1)
