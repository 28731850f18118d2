use Rattle.std.proofs.Common.{ap, arith, subst, ◌≡◌, ℕ}
use Rattle.hsvi_trial.specs.Choices.{IsBestBefore}
use Rattle.hsvi_trial.specs.Views.{ViewData}
use Rattle.hsvi_trial.proofs.BestPairs.{row-ends}
use Rattle.hsvi_trial.proofs.choices.View.best_with.Goals as goal

pub returns : goal.returns
returns c =
    let all : c.self.inside.game.now.shape.observations ≡ c.args.self.now.game.shape.observations = ap (λ (d : ViewData). d.game.shape.observations) c.self.view_is in
    let same : c.loop-o.o ≡ c.args.self.now.game.shape.observations = omega arith in
    row-ends c.args.self.now.game c.args.self.now.view c.args.a c.loop-o.best
    (subst (λ (n : ℕ). IsBestBefore c.args.self.now.game c.args.self.now.view c.args.a n c.loop-o.best) same c.loop-o.invariant.best)
