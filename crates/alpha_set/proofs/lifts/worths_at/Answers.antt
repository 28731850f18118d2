use Rattle.std.proofs.Common.{◌≡◌, ◌∙◌, ◌<◌, List, get_or, length, sym, subst, ap}
use Rattle.scaled_num.specs.Share.{at}
use Rattle.scaled_num.proofs.Sums.{each-at}
use Rattle.game_model.proofs.Front.{length-map}
use Rattle.game_model.specs.Bounds.{IsLeastOf}
use Rattle.game_model.specs.Game.{GameData, numbers}
use Rattle.alpha_set.specs.Members.{data_of, node_data}
use Rattle.alpha_set.specs.Nodes.{NodeData, NodeFits, no_node, node_of, node_worth, nodes_of}
use Rattle.alpha_set.specs.declared.nodes.Node.{Node}
use Rattle.alpha_set.proofs.Lifting.{data-at, fitting-member}
use Rattle.alpha_set.proofs.lifts.worths_at.Goals as goal

here : (c : goal.After-stage_worths-arg-1) → node_data c.index-nodes-number.result ≡ get_or (data_of c.args.nodes.now) c.args.number no_node
here c = ap node_data c.index-nodes-number.is ∙ data-at c.args.nodes.now c.args.number c.index-nodes-number.result c.requires.member

pub stage_worths-requires-clause-member : goal.stage_worths-requires-clause-member
stage_worths-requires-clause-member c =
    let g : GameData = c.args.game.now in
    let nodes : List Node = c.args.nodes.now in
    let inside : c.args.number < length (data_of nodes) = subst (λ n. c.args.number < n) (sym (length-map node_data nodes)) c.requires.member in
    fitting-member g nodes c.index-nodes-number.result c.requires.few c.requires.fits
    (subst (NodeFits g (length nodes)) (sym (here c)) (each-at (NodeFits g (length nodes)) no_node (data_of nodes) c.args.number c.requires.fits inside))

pub returns-clause-least : goal.returns-clause-least
returns-clause-least c =
    let g : GameData = c.args.game.now in
    let nodes : List NodeData = data_of c.args.nodes.now in
    let same : node_data c.index-nodes-number.result ≡ get_or nodes c.args.number no_node =
    ap node_data c.index-nodes-number.is ∙ data-at c.args.nodes.now c.args.number c.index-nodes-number.result c.requires.member in
    λ s l. subst (λ (x : NodeData). IsLeastOf (node_worth (numbers g) (nodes_of nodes) (node_of x) s) g.shape.informed_actions (at c.stage_worths.new.worths s)) same (c.stage_worths.ensures.least s l)
