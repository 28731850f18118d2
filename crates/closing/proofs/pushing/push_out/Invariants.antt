use Rattle.game_model.specs.Game.{IsMass}
use Rattle.closing.proofs.pushing.push_out.Given as goal

abbrev pub invariant-loop : goal.invariant-loop
invariant-loop l = IsMass l.game l.parts
