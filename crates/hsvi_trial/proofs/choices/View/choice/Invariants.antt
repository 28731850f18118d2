use Rattle.hsvi_trial.specs.Choices.{IsBestBefore}
use Rattle.hsvi_trial.proofs.choices.View.choice.Given as goal

abbrev pub invariant-loop-a : goal.invariant-loop-a
invariant-loop-a l = IsBestBefore l.fn.self.game l.fn.self.view l.a 0 l.best
