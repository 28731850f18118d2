use Rattle.std.proofs.Common.{◌≡◌, List, ap, length, map, rules, ◌∙◌}
use Rattle.std.specs.Vec.{vec_len}
use Rattle.game_model.specs.Branches.{Branch, branch_of}
use Rattle.alpha_set.specs.Members.{node_data}
use Rattle.alpha_set.specs.Nodes.{NodeData}
use Rattle.std.specs.Prelude.{◌++◌, ◌∷◌, []}
use Rattle.cert_text.proofs.Last.{last_set, mapped_push}
use Rattle.cert_text.proofs.draft.add_step.Goals as goal

pub returns-in_ok-push : goal.returns-in_ok-push
returns-in_ok-push c =
    let counted : vec_len c.args.nodes.now ≡ length c.args.nodes.now.items = search rules in
    let old : NodeData = node_data c.in-Some.node.now in
    last_set node_data (λ (n : NodeData). record n { next = n.next ++ branch_of c.args.b ∷ [] }) c.args.nodes.now.items _ c.in-Some.node.now _ counted c.in-Some.ensures.item.3.0 c.in-Some.ensures.item.3.1
    (ap (λ (bs : List Branch). record old { next = bs }) (ap (map branch_of) c.in_ok-push.ensures.items ∙ mapped_push branch_of _ _))
