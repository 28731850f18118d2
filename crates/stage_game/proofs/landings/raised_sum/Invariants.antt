use Rattle.std.proofs.Common.{map}
use Rattle.std.specs.Prelude.{◌+ℤ◌}
use Rattle.game_model.proofs.Expected.{SoFar}
use Rattle.stage_game.proofs.landings.raised_sum.Given as goal

abbrev pub invariant-loop-landing : goal.invariant-loop-landing
invariant-loop-landing l = SoFar l.landings (map (λ x. x +ℤ l.raise) l.vector) l.landing-index l.sum
