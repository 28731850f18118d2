use Rattle.std.proofs.Common.{ℕ, ◌<◌, arith, below_more, refl}
use Rattle.game_model.specs.Game.{GameData, numbers}
use Rattle.scaled_num.proofs.First.{all-flat, first-flat}
use Rattle.point_set.specs.Faults.{split_place, split_places_seen}
use Rattle.point_set.specs.Members.{AllHoldAmong}
use Rattle.point_set.proofs.Failing.{HoldsHere}
use Rattle.point_set.proofs.splits.first_after.Goals as goal

pub returns-in-Some-clause-first : goal.returns-in-Some-clause-first
returns-in-Some-clause-first c =
    let g : GameData = c.args.game.now in
    first-flat (HoldsHere g c.args.points.now c.args.point.now) (split_places_seen (numbers g) c.args.a) g.shape.observations c.loop-o.o
    (split_place (c.args.a, c.loop-o.o, c.in-Some.s)) (omega (arith, c.observations-o-end.ensures)) c.loop-o.invariant c.in-Some.ensures.first

pub loop-o-preserved : goal.loop-o-preserved
loop-o-preserved c =
    below_more (λ (p : ℕ). AllHoldAmong c.args.game.now c.args.points.now c.args.point.now (split_places_seen (numbers c.args.game.now) c.args.a p)) c.loop-o.o c.loop-o.invariant (c.in_default.ensures.none refl)

pub returns-clause-none : goal.returns-clause-none
returns-clause-none c = λ none.
    let g : GameData = c.args.game.now in
    all-flat (HoldsHere g c.args.points.now c.args.point.now) (split_places_seen (numbers g) c.args.a) g.shape.observations (λ p lp. c.loop-o.invariant p (omega (arith, c.observations-o-end.ensures)))
