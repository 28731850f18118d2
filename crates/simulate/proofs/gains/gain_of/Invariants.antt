use Rattle.std.proofs.Common.{◌≡◌, ◌-◌, ◌^◌, drop, length}
use Rattle.game_model.specs.Game.{numbers}
use Rattle.simulate.specs.Plays.{gain_of}
use Rattle.simulate.proofs.gains.gain_of.Given as goal

abbrev pub invariant-loop-done : goal.invariant-loop-done
invariant-loop-done l = record {
  gain : l.gain ≡ gain_of (numbers l.game) (drop (length l.steps - l.done) l.steps);
  power : l.power ≡ (numbers l.game).discount_under ^ l.done;
}
