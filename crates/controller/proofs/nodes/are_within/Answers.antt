use Rattle.std.proofs.Common.{arith, rules}
use Rattle.std.specs.Prelude.{pos, FitsSigned}
use Rattle.std.specs.Int.{w128}
use Rattle.std.proofs.lemmas.Int.{to_z-of_z}
use Rattle.game_model.specs.Game.{IsWithin}
use Rattle.controller.proofs.nodes.are_within.Goals as goal
use Rattle.scaled_num.proofs.Each.{each-by-place}

pub returns : goal.returns
returns c =
    let low_fits : FitsSigned w128 c.args.low = search rules in
    let high_fits : FitsSigned w128 c.args.high = search rules in
    let each = simp to_z-of_z at c.loop-x.invariant in
    (λ t. each-by-place (IsWithin c.args.low c.args.high) (pos 0) c.args.numbers.now (λ k l. each k (omega arith)), λ h. search rules)
