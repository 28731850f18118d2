use Rattle.game_model.proofs.Expected.{SoFar}
use Rattle.game_model.proofs.seeds.expected.Given as goal

abbrev pub invariant-loop-landing : goal.invariant-loop-landing
invariant-loop-landing l = SoFar l.row l.vector l.landing-index l.sum
