use Rattle.std.proofs.Common.{rules, sym, ◌∙◌}
use Rattle.std.specs.Prelude.{FitsSigned}
use Rattle.std.specs.Int.{w128}
use Rattle.std.proofs.lemmas.Int.{to_z-of_z}
use Rattle.game_model.specs.Game.{IsGame}
use Rattle.game_model.proofs.FirstProduct.{product-is}
use Rattle.game_model.proofs.accepted.Game.first_product.Goals as goal

pub returns : goal.returns
returns c =
    let fits : FitsSigned w128 c.weighted.result = search rules in
    let game : IsGame c.args.self.now = search rules in
    simp to_z-of_z (search rules ∙ sym (product-is c.args.self.now c.args.vector.now game))
