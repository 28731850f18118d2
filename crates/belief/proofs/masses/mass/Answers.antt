use Rattle.std.proofs.Common.{rules, ◌≡◌, ◌<◌, ◌∙◌, ℕ, List, ap, length, get_or, arith}
use Rattle.std.specs.Prelude.{ℤ, pos, ◌+ℤ◌, FitsSigned, sum_by, unsigned_abs}
use Rattle.std.specs.Int.{w128}
use Rattle.std.proofs.lemmas.Int.{ints, to_z-of_z}
use Rattle.scaled_num.specs.Sums.{below}
use Rattle.game_model.specs.Game.{GameData}
use Rattle.belief.specs.Beliefs.{weight_at}
use Rattle.belief.specs.Masses.{from_state}
use Rattle.belief.proofs.AfterMasses.{is-after}
use Rattle.belief.proofs.Sums.{mass-small, next-state}
use Rattle.belief.proofs.masses.mass.Goals as goal

pub add_state-requires-clause-room : goal.add_state-requires-clause-room
add_state-requires-clause-room c =
    let g : GameData = c.args.game.now in
    λ t l.
    let small = mass-small g c.law_game.ensures.accepted c.args.belief.now c.args.mixes.now c.args.a c.args.o t c.loop-s.s c.parts-parts.ensures.kept.belief.each c.requires.belief
    c.states-s-end.ensures.kept.right c.requires.states c.requires.actions c.requires.own (search (rules, arith)) in
    (rw (c.loop-s.invariant t l) (omega (arith, ints)), rw (c.loop-s.invariant t l) (omega (arith, ints)))

pub loop-s-preserved : goal.loop-s-preserved
loop-s-preserved c =
    let g : GameData = c.args.game.now in
    let parts : List ℤ = c.parts-parts.result.now in
    let fits : FitsSigned w128 (get_or parts c.loop-s.s (pos 0)) = search rules in
    let added = simp to_z-of_z at c.add_state.ensures in
    λ t l.
    let lt : t < length c.loop-s.out = search (rules, arith) in
    let f : ℕ → ℕ = λ s. from_state g c.args.mixes.now (weight_at c.args.belief.now s) s c.args.a c.args.o t in
    added t lt
    ∙ ap (λ (z : ℤ). z +ℤ pos (from_state g c.args.mixes.now (unsigned_abs (get_or parts c.loop-s.s (pos 0))) c.loop-s.s c.args.a c.args.o t)) (c.loop-s.invariant t lt)
    ∙ ap (λ (ps : List ℤ). pos (sum_by f (below c.loop-s.s)) +ℤ pos (from_state g c.args.mixes.now (weight_at ps c.loop-s.s) c.loop-s.s c.args.a c.args.o t)) c.parts-parts.ensures.parts
    ∙ next-state f c.loop-s.s

pub returns-clause-exact : goal.returns-clause-exact
returns-clause-exact c =
    let all : c.loop-s.s ≡ c.args.game.now.shape.states =
    omega (arith, c.loop-s-test.false, c.loop-s.auto.s-end, c.states-s-end.ensures.states, c.requires.states) in
    λ t l.
    let lt : t < length c.loop-s.out = search (rules, arith) in
    c.loop-s.invariant t lt ∙ ap (λ (n : ℕ). pos (sum_by (λ s. from_state c.args.game.now c.args.mixes.now (weight_at c.args.belief.now s) s c.args.a c.args.o t) (below n))) all

pub returns-clause-list : goal.returns-clause-list
returns-clause-list c =
    let long : length c.loop-s.out ≡ c.args.game.now.shape.states = search (rules, arith) in
    is-after c.args.game.now c.args.belief.now c.args.mixes.now c.args.a c.args.o c.loop-s.out long (returns-clause-exact c)
