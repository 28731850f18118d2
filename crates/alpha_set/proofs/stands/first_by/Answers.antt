use Rattle.std.proofs.Common.{ℕ, ◌<◌, arith, below_more, refl}
use Rattle.game_model.specs.Game.{GameData, numbers}
use Rattle.scaled_num.proofs.First.{all-flat, first-flat}
use Rattle.alpha_set.specs.Faults.{state_places}
use Rattle.alpha_set.specs.Members.{AllHoldBy, HoldsBy, node_data}
use Rattle.alpha_set.specs.Nodes.{node_of}
use Rattle.alpha_set.proofs.stands.first_by.Goals as goal

pub returns-in-Some-clause-first : goal.returns-in-Some-clause-first
returns-in-Some-clause-first c =
    let g : GameData = c.args.game.now in
    first-flat (λ (place : ℕ × ℕ). HoldsBy (numbers g) (node_of (node_data c.args.node.now)) c.args.table.now place.0 place.1) (state_places (numbers g)) g.shape.states c.loop-s.s
    (c.loop-s.s, c.in-Some.c) (omega (arith, c.states-s-end.ensures)) c.loop-s.invariant c.in-Some.ensures.first

pub loop-s-preserved : goal.loop-s-preserved
loop-s-preserved c =
    below_more (λ (t : ℕ). AllHoldBy c.args.game.now c.args.node.now c.args.table.now (state_places (numbers c.args.game.now) t)) c.loop-s.s c.loop-s.invariant (c.in_default.ensures.none refl)

pub returns-clause-none : goal.returns-clause-none
returns-clause-none c = λ none.
    let g : GameData = c.args.game.now in
    all-flat (λ (place : ℕ × ℕ). HoldsBy (numbers g) (node_of (node_data c.args.node.now)) c.args.table.now place.0 place.1) (state_places (numbers g)) g.shape.states
    (λ t lt. c.loop-s.invariant t (omega (arith, c.states-s-end.ensures)))
