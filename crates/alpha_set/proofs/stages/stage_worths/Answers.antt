use Rattle.game_model.specs.Game.{GameData, numbers}
use Rattle.alpha_set.specs.Members.{data_of, mix_of, node_data, worth_by}
use Rattle.alpha_set.specs.Nodes.{node_of, node_worth, nodes_of}
use Rattle.game_model.specs.Bounds.{IsLeastOf}
use Rattle.scaled_num.specs.Share.{at}
use Rattle.std.proofs.Common.{List, subst}
use Rattle.std.specs.Prelude.{ℤ}
use Rattle.alpha_set.proofs.Rules.{least-same, worth-is}
use Rattle.alpha_set.proofs.stages.stage_worths.Goals as goal

pub returns-clause-least : goal.returns-clause-least
returns-clause-least c =
    let g : GameData = c.args.game.now in
    λ s l. least-same (worth_by (numbers g) (mix_of c.args.node.now.mix.items) c.fill.new.table s) (node_worth (numbers g) (nodes_of (data_of c.args.nodes.now)) (node_of (node_data c.args.node.now)) s) g.shape.informed_actions (at c.least_worths.new.worths s)
    (λ d. worth-is g (nodes_of (data_of c.args.nodes.now)) (node_of (node_data c.args.node.now)) c.fill.new.table c.fill.ensures.worths s d)
    (subst (λ (mix : List ℤ). IsLeastOf (worth_by (numbers g) (mix_of mix) c.fill.new.table s) g.shape.informed_actions (at c.least_worths.new.worths s)) c.deref.ensures.value (c.least_worths.ensures.least s l))
