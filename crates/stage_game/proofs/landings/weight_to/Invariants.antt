use Rattle.std.proofs.Common.{◌≡◌, take}
use Rattle.std.specs.Prelude.{pos}
use Rattle.belief.specs.Masses.{landed}
use Rattle.stage_game.proofs.landings.weight_to.Given as goal

abbrev pub invariant-loop-landing : goal.invariant-loop-landing
invariant-loop-landing l = l.sum ≡ pos (landed (take l.landing-index l.landings) l.t)
