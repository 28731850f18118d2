use Rattle.std.proofs.Common.{rules, arith, ◌<◌, length}
use Rattle.std.specs.Prelude.{FitsSigned}
use Rattle.std.specs.Int.{w128}
use Rattle.std.proofs.lemmas.Int.{to_z-of_z}
use Rattle.game_model.specs.Bounds.{IsLeastOf}
use Rattle.game_model.specs.Game.{GameData, numbers}
use Rattle.game_model.proofs.Least.{written}
use Rattle.alpha_set.specs.Members.{mix_of, worth_by}
use Rattle.alpha_set.proofs.stages.least_worths.Goals as goal

pub loop-s-preserved : goal.loop-s-preserved
loop-s-preserved c =
    let g : GameData = c.args.game.now in
    let fits : FitsSigned w128 c.least_worth.result = search rules in
    let inside : c.loop-s.s < length c.loop-s.worths = search (rules, arith) in
    simp to_z-of_z (written (λ k x. IsLeastOf (worth_by (numbers g) (mix_of c.args.mix.now) c.args.table.now k) g.shape.informed_actions x) c.loop-s.worths c.loop-s.s c.least_worth.result inside
    c.loop-s.invariant c.least_worth.ensures)
