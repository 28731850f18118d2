use Rattle.std.proofs.Common.{◌≡◌, ◌^◌, ◌≤◌}
use Rattle.game_model.specs.Game.{numbers}
use Rattle.simulate.specs.Lengths.{most_gain}
use Rattle.simulate.proofs.gains.longest.Given as goal

abbrev pub invariant-loop-stages : goal.invariant-loop-stages
invariant-loop-stages l = record {
  power : l.power ≡ (numbers l.game).discount_under ^ l.stages;
  short : most_gain l.game l.stages ≤ 2 ^ 120;
}
