use Rattle.std.proofs.Common.{subst, sym}
use Rattle.belief.specs.Beliefs.{AreParts}
use Rattle.belief.proofs.Parts.{corner-front, corner-parts}
use Rattle.belief.proofs.beliefs.Belief.corner.Goals as goal

pub invariant_of-result : goal.invariant_of-result
invariant_of-result c = (c.requires.few, subst AreParts (sym (corner-front c.args.states c.args.s c.requires.state c.requires.few)) (corner-parts c.args.states c.args.s c.requires.state c.requires.few))

pub returns : goal.returns
returns c = corner-front c.args.states c.args.s c.requires.state c.requires.few
