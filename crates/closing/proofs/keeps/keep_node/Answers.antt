use Rattle.std.proofs.Common.{List, [], ◌∷◌, length, sym, subst}
use Rattle.std.specs.Prelude.{ℤ}
use Rattle.alpha_set.specs.Members.{node_data}
use Rattle.alpha_set.specs.Worth.{AreWeighed}
use Rattle.backup.proofs.LowerRuns.{weighed-at}
use Rattle.closing.specs.Better.{NodesGoOn}
use Rattle.closing.proofs.Kept.{nodes-added, nodes-replaced, nodes-weighed}
use Rattle.closing.proofs.keeps.keep_node.Goals as goal

pub worth-requires : goal.worth-requires
worth-requires c =
    subst (λ (mass : List ℤ). AreWeighed (node_data c.args.node ∷ []) mass) (sym c.parts.ensures.parts)
    (weighed-at c.args.game.now c.law_game.ensures.accepted (length c.args.nodes.now.members) (node_data c.args.node) c.args.belief.now c.requires.nodes.few c.requires.fits c.requires.belief)

pub worth-requires-2-clause-weighed : goal.worth-requires-2-clause-weighed
worth-requires-2-clause-weighed c =
    subst (AreWeighed c.args.nodes.now.members) (sym c.parts-2.ensures.parts) (nodes-weighed c.args.game.now c.args.nodes.now.members c.args.belief.now c.law_game.ensures.accepted c.requires.nodes c.requires.belief)

pub returns-in-Some : goal.returns-in-Some
returns-in-Some c =
    let found = rw c.in-Some.is at c.first_below.ensures in
    subst (NodesGoOn c.args.game.now c.args.nodes.now.members) (sym c.replace.ensures.members)
    (nodes-replaced c.args.game.now c.args.nodes.now.members c.in-Some.number (node_data c.args.node) c.requires.nodes found.0 found.1 c.requires.fits c.requires.stays)

pub returns-in-None : goal.returns-in-None
returns-in-None c =
    nodes-added c.args.game.now c.args.nodes.now.members (node_data c.args.node) c.add_node.new.nodes.members c.requires.nodes c.add_node.ensures.few c.requires.fits c.requires.stays c.add_node.ensures.added
