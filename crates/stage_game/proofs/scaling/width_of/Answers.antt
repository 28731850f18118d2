use Rattle.std.proofs.Common.{arith, ◌≡◌, ◌∙◌, ◌*◌, ap, max, rules}
use Rattle.std.specs.Prelude.{ℤ, pos, FitsSigned, unsigned_abs}
use Rattle.std.specs.Int.{w128}
use Rattle.std.proofs.lemmas.Int.{ints, to_z-of_z, fits_signed_from_abs}
use Rattle.game_model.specs.Game.{span}
use Rattle.game_model.proofs.Worth.{span-small}
use Rattle.stage_game.proofs.scaling.width_of.Goals as goal

pub width_from-requires : goal.width_from-requires
width_from-requires c =
    let small = span-small c.args.game.now c.law_game.ensures.accepted in
    let is : c.span.result ≡ pos (span c.args.game.now) = c.span.ensures in
    let fits : FitsSigned w128 c.span.result = fits_signed_from_abs w128 c.span.result (omega (arith, ints)) in
    simp to_z-of_z (record { low = omega (arith, ints); high = omega (arith, ints) })

pub returns : goal.returns
returns c =
    let small = span-small c.args.game.now c.law_game.ensures.accepted in
    let is : c.span.result ≡ pos (span c.args.game.now) = c.span.ensures in
    let fits : FitsSigned w128 c.span.result = fits_signed_from_abs w128 c.span.result (omega (arith, ints)) in
    let w_fits : FitsSigned w128 c.width_from.result = search rules in
    let same = simp to_z-of_z at c.width_from.ensures in
    simp to_z-of_z (same ∙ ap (λ (z : ℤ). pos (max 1 (2 * unsigned_abs z))) is)
