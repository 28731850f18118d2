use Rattle.std.proofs.Common.{subst, sym}
use Rattle.belief.specs.Beliefs.{AreParts}
use Rattle.belief.proofs.Parts.{first-parts}
use Rattle.belief.proofs.beliefs.Belief.first_of.Goals as goal

pub of_parts-requires : goal.of_parts-requires
of_parts-requires c = subst AreParts (sym c.first.ensures) (first-parts c.args.game.now c.law_game.ensures.accepted)
