use Rattle.std.proofs.Common.{◌≡◌, arith}
use Rattle.game_model.specs.Game.{GameData}
use Rattle.alpha_set.specs.Members.{node_data}
use Rattle.alpha_set.specs.Nodes.{no_node}
use Rattle.backup.specs.Seeds.{AreSeedNodes, IsSeedNode}
use Rattle.backup.proofs.AlwaysSets.{seed-nodes-fit, seed-nodes-stand}
use Rattle.backup.proofs.Places.{long-more, one-more}
use Rattle.backup.proofs.nodes.seed_nodes.Goals as goal

pub loop-a-preserved : goal.loop-a-preserved
loop-a-preserved c = record {
  count = long-more c.loop-a.nodes.members c.add.new.nodes.members (node_data c.in_ok-always.field-0) c.loop-a.a c.loop-a.invariant.count c.in_ok-add.ensures;
  each = one-more (λ k x. IsSeedNode c.args.game.now k x) no_node c.loop-a.nodes.members c.add.new.nodes.members (node_data c.in_ok-always.field-0) c.loop-a.a c.loop-a.invariant.count c.in_ok-add.ensures
      c.loop-a.invariant.each c.in_ok-always.ensures;
}

all-seeds : (c : goal.After-loop-a) → AreSeedNodes c.args.game.now c.loop-a.nodes.members
all-seeds c =
    let g : GameData = c.args.game.now in
    let done : c.loop-a.a ≡ g.shape.own_actions = omega arith in
    record { count = omega arith; each = λ k l. c.loop-a.invariant.each k (omega arith) }

pub returns-clause-fit : goal.returns-clause-fit
returns-clause-fit c = seed-nodes-fit c.args.game.now c.law_game.ensures.accepted c.loop-a.nodes.members (all-seeds c)

pub returns-clause-stand : goal.returns-clause-stand
returns-clause-stand c = seed-nodes-stand c.args.game.now c.law_game.ensures.accepted c.loop-a.nodes.members (all-seeds c)
