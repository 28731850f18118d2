use Rattle.std.proofs.Common.{arith, refl, rules, sym, subst, ◌∙◌, ◌≡◌, true, false}
use Rattle.std.proofs.lemmas.Int.{ints, to_z-of_z}
use Rattle.std.specs.Int.{w128}
use Rattle.std.specs.Prelude.{FitsSigned, ℤ, ◌≤ℤ◌, ◌<ℤ◌}
use Rattle.game_model.specs.Game.{IsGame, IsMass}
use Rattle.hsvi_trial.specs.Choices.{IsView, best_excess}
use Rattle.hsvi_trial.specs.Views.{ViewData}
use Rattle.hsvi_trial.specs.declared.choices.Best.{Best}
use Rattle.hsvi_trial.proofs.BestPairs.{pair-better, pair-stays}
use Rattle.hsvi_trial.proofs.Excesses.{has-here, none-there, same-there, view-mass}
use Rattle.hsvi_trial.proofs.choices.View.better.Goals as goal

pub has_mass-requires : goal.has_mass-requires
has_mass-requires c =
    let is : IsView c.args.self.now.game c.args.self.now.view = subst (λ (d : ViewData). IsView d.game d.view) c.self.view_is c.self.invariant in
    let game : IsGame c.args.self.now.game = subst (λ (d : ViewData). IsGame d.game) c.self.view_is c.law_game.ensures.accepted in
    subst (λ (d : ViewData). IsMass d.game c.args.mass.now) (sym c.self.view_is)
    (subst (IsMass c.args.self.now.game) (sym c.requires.mass) (view-mass c.args.self.now.game c.args.self.now.view game is c.args.a c.args.o c.requires.own c.requires.seen))

pub returns-then-not-has_mass : goal.returns-then-not-has_mass
returns-then-not-has_mass c =
    let none : c.has_mass.result ≡ false = c.if-not-has_mass.true in
    pair-stays c.args.self.now.game c.args.self.now.view c.args.a c.args.o c.args.best c.requires.before
    (none-there c.args.self.now.game c.args.self.now.view c.args.a c.args.o c.args.mass.now (best_excess c.args.best) c.requires.mass (sym c.has_mass.ensures ∙ none))

pub excess-excess-requires-clause-mass : goal.excess-excess-requires-clause-mass
excess-excess-requires-clause-mass c =
    let is : IsView c.args.self.now.game c.args.self.now.view = subst (λ (d : ViewData). IsView d.game d.view) c.self.view_is c.self.invariant in
    let game : IsGame c.args.self.now.game = subst (λ (d : ViewData). IsGame d.game) c.self.view_is c.law_game.ensures.accepted in
    subst (IsMass c.args.self.now.game) (sym c.requires.mass) (view-mass c.args.self.now.game c.args.self.now.view game is c.args.a c.args.o c.requires.own c.requires.seen)

pub returns-then-excess-excess_of : goal.returns-then-excess-excess_of
returns-then-excess-excess_of c =
    let excess_fits : FitsSigned w128 c.excess-excess.result = search rules in
    let most_fits : FitsSigned w128 c.excess_of.result = search rules in
    let some : c.has_mass.result ≡ true = c.if-not-has_mass.false in
    let has = has-here c.args.self.now.game c.args.self.now.view c.args.a c.args.o c.args.mass.now c.excess-excess.result c.requires.own c.requires.seen c.requires.mass (sym c.has_mass.ensures ∙ some) c.excess-excess.ensures in
    let below : c.excess-excess.result ≤ℤ c.excess_of.result = omega (arith, ints, simp to_z-of_z at c.if-excess-excess_of.true) in
    pair-stays c.args.self.now.game c.args.self.now.view c.args.a c.args.o c.args.best c.requires.before
    (λ other h. subst (λ (z : ℤ). z ≤ℤ best_excess c.args.best) (sym (same-there c.args.self.now.game c.args.self.now.view c.args.a c.args.o c.excess-excess.result other has h))
    (subst (λ (z : ℤ). c.excess-excess.result ≤ℤ z) c.excess_of.ensures below))

pub returns : goal.returns
returns c =
    let excess_fits : FitsSigned w128 c.excess-excess.result = search rules in
    let most_fits : FitsSigned w128 c.excess_of.result = search rules in
    let some : c.has_mass.result ≡ true = c.if-not-has_mass.false in
    let has = has-here c.args.self.now.game c.args.self.now.view c.args.a c.args.o c.args.mass.now c.excess-excess.result c.requires.own c.requires.seen c.requires.mass (sym c.has_mass.ensures ∙ some) c.excess-excess.ensures in
    let above : c.excess_of.result <ℤ c.excess-excess.result = omega (arith, ints, simp to_z-of_z at c.if-excess-excess_of.false) in
    let new : Best = record { own = c.args.a; seen = c.args.o; excess = c.excess-excess.result } in
    simp to_z-of_z
    (pair-better c.args.self.now.game c.args.self.now.view c.args.a c.args.o c.args.best new c.requires.before refl refl has
    (λ other h. same-there c.args.self.now.game c.args.self.now.view c.args.a c.args.o c.excess-excess.result other has h)
    (subst (λ (z : ℤ). z <ℤ c.excess-excess.result) c.excess_of.ensures above))
