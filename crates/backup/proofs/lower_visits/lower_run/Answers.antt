use Rattle.std.proofs.Common.{List, [], ◌∷◌, length, subst, sym}
use Rattle.std.specs.Prelude.{ℤ}
use Rattle.alpha_set.specs.Members.{node_data}
use Rattle.alpha_set.specs.Worth.{AreWeighed}
use Rattle.backup.proofs.LowerRuns.{weighed-at}
use Rattle.backup.proofs.lower_visits.lower_run.Goals as goal

pub worth-worth-requires : goal.worth-worth-requires
worth-worth-requires c =
    subst (λ (mass : List ℤ). AreWeighed (node_data c.in_ok-node.node ∷ []) mass) (sym c.parts.ensures.parts)
    (weighed-at c.args.game.now c.law_game.ensures.accepted (length c.args.nodes.now.members) (node_data c.in_ok-node.node) c.args.belief.now c.len.ensures.few c.in_ok-node.ensures.fits c.requires.belief)
