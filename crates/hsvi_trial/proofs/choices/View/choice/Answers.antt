use Rattle.std.proofs.Common.{Option, ap, arith, subst, ◌≡◌, ℕ}
use Rattle.hsvi_trial.specs.Choices.{IsBestBefore}
use Rattle.hsvi_trial.specs.Views.{ViewData}
use Rattle.hsvi_trial.specs.declared.choices.Best.{Best}
use Rattle.hsvi_trial.proofs.BestPairs.{none-chosen, some-chosen}
use Rattle.hsvi_trial.proofs.choices.View.choice.Goals as goal

pub returns-in-Some : goal.returns-in-Some
returns-in-Some c =
    let all : c.self.inside.game.now.shape.own_actions ≡ c.args.self.now.game.shape.own_actions = ap (λ (d : ViewData). d.game.shape.own_actions) c.self.view_is in
    let same : c.loop-a.a ≡ c.args.self.now.game.shape.own_actions = omega arith in
    some-chosen c.args.self.now.game c.args.self.now.view c.in-Some.best
    (subst (λ (o : Option Best). IsBestBefore c.args.self.now.game c.args.self.now.view c.args.self.now.game.shape.own_actions 0 o) c.in-Some.is
    (subst (λ (n : ℕ). IsBestBefore c.args.self.now.game c.args.self.now.view n 0 c.loop-a.best) same c.loop-a.invariant))

pub returns-in-None : goal.returns-in-None
returns-in-None c =
    let all : c.self.inside.game.now.shape.own_actions ≡ c.args.self.now.game.shape.own_actions = ap (λ (d : ViewData). d.game.shape.own_actions) c.self.view_is in
    let same : c.loop-a.a ≡ c.args.self.now.game.shape.own_actions = omega arith in
    none-chosen c.args.self.now.game c.args.self.now.view
    (subst (λ (o : Option Best). IsBestBefore c.args.self.now.game c.args.self.now.view c.args.self.now.game.shape.own_actions 0 o) c.in-None.is
    (subst (λ (n : ℕ). IsBestBefore c.args.self.now.game c.args.self.now.view n 0 c.loop-a.best) same c.loop-a.invariant))
