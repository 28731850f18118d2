use Rattle.std.proofs.Common.{length, ap, arith, ◌∙◌}
use Rattle.std.specs.List.{sum}
use Rattle.std.proofs.lemmas.List.Sums.{sum-map}
use Rattle.std.proofs.lemmas.List.FromFn.{length-map-range_with_len}
use Rattle.scaled_num.specs.Sums.{below}
use Rattle.game_model.specs.Game.{GameData, first_at}
use Rattle.simulate.proofs.Begun.{state-sum}
use Rattle.simulate.proofs.starts.draw_state.Goals as goal

pub draw_place-requires-clause-some : goal.draw_place-requires-clause-some
draw_place-requires-clause-some c =
    let g : GameData = c.args.game.now in
    let total = ap sum (c.deref.ensures.value ∙ c.in_ok-weights.ensures) ∙ sum-map (first_at g) (below g.shape.states) in
    omega (arith, total, (state-sum g c.law_game.ensures.accepted).0)

pub draw_place-requires-clause-most : goal.draw_place-requires-clause-most
draw_place-requires-clause-most c =
    let g : GameData = c.args.game.now in
    let total = ap sum (c.deref.ensures.value ∙ c.in_ok-weights.ensures) ∙ sum-map (first_at g) (below g.shape.states) in
    omega (arith, total, (state-sum g c.law_game.ensures.accepted).1)

pub overflow_cast-result : goal.overflow_cast-result
overflow_cast-result c =
    let g : GameData = c.args.game.now in
    let few = c.law_game.ensures.accepted.shape.states.1 in
    let inside = c.draw_place.ensures.within in
    omega (arith, inside, few, ap length (c.deref.ensures.value ∙ c.in_ok-weights.ensures) ∙ length-map-range_with_len (first_at g) 0 g.shape.states)
