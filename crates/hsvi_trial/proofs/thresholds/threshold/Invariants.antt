use Rattle.std.proofs.Common.{◌≡◌, ◌≤◌, ◌*◌}
use Rattle.controller.specs.Data.{fraction_data}
use Rattle.game_model.specs.Game.{span}
use Rattle.hsvi_trial.specs.Thresholds.{threshold}
use Rattle.hsvi_trial.proofs.thresholds.threshold.Given as goal

abbrev pub invariant-loop : goal.invariant-loop
invariant-loop l = record {
  so_far : l.distance ≡ threshold l.fn.game (fraction_data l.fn.gap) l.counter;
  most : l.distance ≤ 2 * span l.fn.game;
}
