use Rattle.std.proofs.Common.{rules, List, ◌≡◌, length, map, ap, refl, subst, sym}
use Rattle.alpha_set.specs.Members.{node_data}
use Rattle.alpha_set.specs.Nodes.{NodeData}
use Rattle.game_model.specs.Branches.{branch_of}
use Rattle.game_model.specs.Game.{GameData}
use Rattle.stage_game.specs.AdviceData.{LowerAdviceData}
use Rattle.stage_game.specs.Data.{lower_data}
use Rattle.backup.specs.Entries.{AreEntries}
use Rattle.backup.proofs.NewNodes.{IsMade, blank-fits, made}
use Rattle.backup.proofs.new_nodes.new_node.Goals as goal

pub write_entries-requires-clause-fits : goal.write_entries-requires-clause-fits
write_entries-requires-clause-fits c =
    blank-fits c.args.game.now (length c.args.nodes.now.members) (lower_data c.args.advice.now) (node_data c.in_ok-node.node) c.requires.advice c.in_ok-node.ensures.mix (ap (map branch_of) c.in_ok-node.ensures.next)
    c.in_ok-node.ensures.vector

made_node : (c : goal.After-entries-3-1) →
    IsMade c.args.game.now c.args.nodes.now.members (lower_data c.args.advice.now)
    (record { vector = c.copy_from_slice.new.self.items; mix = c.in_ok-node.node.mix.items; next = map branch_of c.in_ok-node.node.next.items })
made_node c =
    let g : GameData = c.args.game.now in
    let nodes : List NodeData = c.args.nodes.now.members in
    let advice : LowerAdviceData = lower_data c.args.advice.now in
    let blank : NodeData = node_data c.in_ok-node.node in
    let same : c.copy_from_slice.new.self.items ≡ c.write_entries.new.entries = search rules in
    made g nodes advice blank _ c.requires.advice c.in_ok-node.ensures.mix (ap (map branch_of) c.in_ok-node.ensures.next) refl refl (subst (AreEntries g nodes blank) (sym same) c.write_entries.ensures)

pub returns-clause-node : goal.returns-clause-node
returns-clause-node c = (made_node c).new

pub returns-clause-fits : goal.returns-clause-fits
returns-clause-fits c = (made_node c).fits

pub returns-clause-stands : goal.returns-clause-stands
returns-clause-stands c = (made_node c).stands

pub returns-clause-stays : goal.returns-clause-stays
returns-clause-stays c = (made_node c).stays
