use Rattle.std.proofs.Common.{◌≡◌, ℕ, ◌<◌, arith, true}
use Rattle.scaled_num.proofs.First.{all-map, first-map}
use Rattle.point_set.specs.Faults.{value_place}
use Rattle.point_set.proofs.Failing.{HoldsHere}
use Rattle.point_set.proofs.values.first_value.Goals as goal

pub returns-then-not-holds-clause-first : goal.returns-then-not-holds-clause-first
returns-then-not-holds-clause-first c =
    first-map (HoldsHere c.args.game.now c.args.points.now c.args.point.now) value_place c.args.game.now.shape.own_actions c.loop-a.a (omega (arith, c.own_actions-a-end.ensures)) c.loop-a.invariant
    (λ h. let yes : c.holds.result ≡ true = c.holds.ensures.1 h in cc)

pub returns-clause-none : goal.returns-clause-none
returns-clause-none c = λ none.
    all-map (HoldsHere c.args.game.now c.args.points.now c.args.point.now) value_place c.args.game.now.shape.own_actions (λ b lb. c.loop-a.invariant b (omega (arith, c.own_actions-a-end.ensures)))
