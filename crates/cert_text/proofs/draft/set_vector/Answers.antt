use Rattle.std.proofs.Common.{◌≡◌, refl, length, rules}
use Rattle.std.specs.Vec.{vec_len}
use Rattle.alpha_set.specs.Members.{node_data}
use Rattle.alpha_set.specs.Nodes.{NodeData}
use Rattle.cert_text.proofs.Last.{last_set}
use Rattle.cert_text.proofs.draft.set_vector.Goals as goal

pub returns-in-Some : goal.returns-in-Some
returns-in-Some c =
    let counted : vec_len c.args.nodes.now ≡ length c.args.nodes.now.items = search rules in
    last_set node_data (λ (n : NodeData). record n { vector = c.args.vector.items }) c.args.nodes.now.items _ c.in-Some.node.now _ counted c.in-Some.ensures.item.3.0 c.in-Some.ensures.item.3.1 refl
