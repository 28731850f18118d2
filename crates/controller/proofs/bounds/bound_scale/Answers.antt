use Rattle.std.proofs.Common.{◌≡◌, ◌≤◌, ◌*◌, ◌∙◌, ◌^◌, arith}
use Rattle.std.specs.Prelude.{pos, FitsSigned}
use Rattle.std.specs.Int.{w128}
use Rattle.std.proofs.lemmas.Int.{fits_signed_from_abs, to_z-of_z}
use Rattle.game_model.specs.Game.{GameData}
use Rattle.controller.specs.Certificates.{first_total}
use Rattle.controller.proofs.StartSums.{first-total-is, first-total-within}
use Rattle.controller.proofs.bounds.bound_scale.Goals as goal

pub returns-clause-exact : goal.returns-clause-exact
returns-clause-exact c =
    let g : GameData = c.args.game.now in
    let is : c.first_total.result ≡ pos (first_total g) = c.first_total.ensures ∙ first-total-is g c.law_game.ensures.accepted in
    let small : first_total g ≤ 2 ^ 20 = (first-total-within g c.law_game.ensures.accepted).1 in
    let fits : FitsSigned w128 (pos (first_total g)) = fits_signed_from_abs w128 (pos (first_total g)) (omega arith) in
    let product : FitsSigned w128 (pos (first_total g * 65536)) = fits_signed_from_abs w128 (pos (first_total g * 65536)) (omega arith) in
    simp (is, to_z-of_z)
