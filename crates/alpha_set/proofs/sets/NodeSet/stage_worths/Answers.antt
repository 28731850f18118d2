use Rattle.std.proofs.Common.{rules, List, ℕ, ◌<◌, ◌≡◌, subst}
use Rattle.scaled_num.specs.Share.{at}
use Rattle.game_model.specs.Bounds.{IsLeastOf}
use Rattle.game_model.specs.Game.{GameData, numbers}
use Rattle.alpha_set.specs.Members.{data_of, node_data}
use Rattle.alpha_set.specs.Nodes.{NodeData, node_of, node_worth, nodes_of}
use Rattle.alpha_set.proofs.sets.NodeSet.stage_worths.Goals as goal

pub returns-clause-least : goal.returns-clause-least
returns-clause-least c =
    let g : GameData = c.args.game.now in
    let same : data_of c.deref.result.now ≡ c.args.self.now.members = search rules in
    subst
    (λ (members : List NodeData). (s : ℕ) → s < g.shape.states → IsLeastOf (node_worth (numbers g) (nodes_of members) (node_of (node_data c.args.node.now)) s) g.shape.informed_actions (at c.stage_worths.new.worths s))
    same c.stage_worths.ensures.least
