use Rattle.std.proofs.Common.{ℕ, ◌^◌, ◌≡◌, ◌∙◌, List, arith, length, refl, sym, subst}
use Rattle.std.proofs.lemmas.Int.{ints}
use Rattle.std.specs.List.{AllByRecursion}
use Rattle.std.specs.Prelude.{IsTrue, ℤ, pos, ◌≤ℤ◌}
use Rattle.belief.specs.After.{mass_after}
use Rattle.belief.specs.Reduced.{IsReduced}
use Rattle.game_model.specs.Game.{IsBelief, IsMass}
use Rattle.scaled_num.specs.Sums.{sum_of}
use Rattle.stage_game.specs.Masses.{is_some_mass}
use Rattle.stage_game.proofs.RightMasses.{mass-right}
use Rattle.hsvi_trial.proofs.ReducedLong.{reduced-long}
use Rattle.hsvi_trial.proofs.ZeroSums.{mass-light, not-zero}
use Rattle.hsvi_trial.proofs.choices.belief_after.Goals as goal

pub reduce-requires-clause-weights : goal.reduce-requires-clause-weights
reduce-requires-clause-weights c =
    let right : IsMass c.args.game.now (mass_after c.args.game.now c.args.belief.now c.args.informed.now c.args.a c.args.o) =
    mass-right c.args.game.now c.law_game.ensures.accepted c.args.belief.now c.requires.belief.right c.args.informed.now c.requires.informed c.args.a c.args.o c.requires.own c.requires.seen in
    subst (λ (xs : List ℤ). AllByRecursion (λ x. pos 0 ≤ℤ x) xs) (sym c.mass.ensures.list) right.each

pub reduce-requires-clause-total : goal.reduce-requires-clause-total
reduce-requires-clause-total c =
    let right : IsMass c.args.game.now (mass_after c.args.game.now c.args.belief.now c.args.informed.now c.args.a c.args.o) =
    mass-right c.args.game.now c.law_game.ensures.accepted c.args.belief.now c.requires.belief.right c.args.informed.now c.requires.informed c.args.a c.args.o c.requires.own c.requires.seen in
    wide (sum_of c.mass.new.out)
    (subst (λ (xs : List ℤ). sum_of xs ≤ℤ pos (2 ^ 66)) (sym c.mass.ensures.list) (mass-light c.args.game.now c.law_game.ensures.accepted _ right))
  where
    wide : (x : ℤ) → x ≤ℤ pos (2 ^ 66) → x ≤ℤ pos (2 ^ 100)
    wide x h = omega (arith, ints)

pub unreachable-requires : goal.unreachable-requires
unreachable-requires c = not-zero c.mass.new.out (subst (λ (xs : List ℤ). IsTrue (is_some_mass xs)) (sym c.mass.ensures.list) c.requires.some) (c.in-None.ensures.none.0 refl)

pub returns-clause-fits : goal.returns-clause-fits
returns-clause-fits c =
    let right : IsMass c.args.game.now (mass_after c.args.game.now c.args.belief.now c.args.informed.now c.args.a c.args.o) =
    mass-right c.args.game.now c.law_game.ensures.accepted c.args.belief.now c.requires.belief.right c.args.informed.now c.requires.informed c.args.a c.args.o c.requires.own c.requires.seen in
    let reduced : IsReduced (mass_after c.args.game.now c.args.belief.now c.args.informed.now c.args.a c.args.o) c.in-Some.next =
    subst (λ (xs : List ℤ). IsReduced xs c.in-Some.next) c.mass.ensures.list c.in-Some.ensures.reduced in
    let long : length c.in-Some.next ≡ c.args.game.now.shape.states = reduced-long _ c.in-Some.next reduced ∙ right.long in
    record { right = subst (λ (n : ℕ). IsBelief n c.in-Some.next) long c.parts-parts.ensures.kept.belief; coprime = c.parts-parts.ensures.kept.coprime }
