use Rattle.std.proofs.Common.{ℕ, ◌<◌, arith, below_more, refl}
use Rattle.game_model.specs.Game.{GameData, numbers}
use Rattle.scaled_num.proofs.First.{all-flat, first-flat}
use Rattle.point_set.specs.Faults.{split_place, split_places_after}
use Rattle.point_set.specs.Members.{AllHoldAmong}
use Rattle.point_set.proofs.Failing.{HoldsHere}
use Rattle.point_set.proofs.splits.first_split.Goals as goal

pub returns-in-Some-clause-first : goal.returns-in-Some-clause-first
returns-in-Some-clause-first c =
    let g : GameData = c.args.game.now in
    first-flat (HoldsHere g c.args.points.now c.args.point.now) (split_places_after (numbers g)) g.shape.own_actions c.loop-a.a
    (split_place (c.loop-a.a, c.in-Some.o, c.in-Some.s)) (omega (arith, c.own_actions-a-end.ensures)) c.loop-a.invariant c.in-Some.ensures.first

pub loop-a-preserved : goal.loop-a-preserved
loop-a-preserved c =
    below_more (λ (b : ℕ). AllHoldAmong c.args.game.now c.args.points.now c.args.point.now (split_places_after (numbers c.args.game.now) b)) c.loop-a.a c.loop-a.invariant (c.in_default.ensures.none refl)

pub returns-clause-none : goal.returns-clause-none
returns-clause-none c = λ none.
    let g : GameData = c.args.game.now in
    all-flat (HoldsHere g c.args.points.now c.args.point.now) (split_places_after (numbers g)) g.shape.own_actions (λ b lb. c.loop-a.invariant b (omega (arith, c.own_actions-a-end.ensures)))
