use Rattle.std.proofs.Common.{length, ◌≡◌}
use Rattle.hsvi_trial.specs.Choices.{IsBestBefore}
use Rattle.hsvi_trial.proofs.choices.View.best_with.Given as goal

abbrev pub invariant-loop-o : goal.invariant-loop-o
invariant-loop-o l = record {
  best : IsBestBefore l.fn.self.game l.fn.self.view l.fn.a l.o l.best;
  long : length l.weights ≡ l.fn.self.game.shape.states;
}
