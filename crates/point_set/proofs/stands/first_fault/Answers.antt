use Rattle.std.proofs.Common.{refl, ap}
use Rattle.std.specs.Option.{is_some}
use Rattle.game_model.specs.Game.{GameData, numbers}
use Rattle.scaled_num.proofs.First.{first-left, first-right}
use Rattle.point_set.specs.Faults.{split_place, split_places, value_place, value_places}
use Rattle.point_set.proofs.Failing.{HoldsHere, fails-nowhere, splits-from, stands-from}
use Rattle.point_set.proofs.stands.first_fault.Goals as goal

pub first_value-requires-clause-splits : goal.first_value-requires-clause-splits
first_value-requires-clause-splits c = splits-from c.args.game.now c.args.points.now c.args.point.now (c.in_default.ensures.none refl)

pub returns-in_err-a-clause-none : goal.returns-in_err-a-clause-none
returns-in_err-a-clause-none c =
    (λ _. stands-from c.args.game.now c.args.points.now c.args.point.now (c.in_default.ensures.none refl) (c.in_err-a.ensures.none refl), λ _. ap is_some c.from_residual.ensures)

pub returns-in-Some-clause-first : goal.returns-in-Some-clause-first
returns-in-Some-clause-first c =
    let g : GameData = c.args.game.now in
    first-left (HoldsHere g c.args.points.now c.args.point.now) (split_places (numbers g)) (value_places (numbers g)) (split_place (c.in-Some.a, c.in-Some.o, c.in-Some.s)) c.in-Some.ensures.first

pub returns-in-Some-clause-none : goal.returns-in-Some-clause-none
returns-in-Some-clause-none c =
    let g : GameData = c.args.game.now in
    (λ e. cc, λ stands. absurd (fails-nowhere g c.args.points.now c.args.point.now stands (split_place (c.in-Some.a, c.in-Some.o, c.in-Some.s)) (returns-in-Some-clause-first c)))

pub returns-clause-first : goal.returns-clause-first
returns-clause-first c =
    let g : GameData = c.args.game.now in
    first-right (HoldsHere g c.args.points.now c.args.point.now) (split_places (numbers g)) (value_places (numbers g)) (value_place c.in_ok-a.a) (c.in_default.ensures.none refl) c.in_ok-a.ensures.first

pub returns-clause-none : goal.returns-clause-none
returns-clause-none c =
    let g : GameData = c.args.game.now in
    (λ e. cc, λ stands. absurd (fails-nowhere g c.args.points.now c.args.point.now stands (value_place c.in_ok-a.a) (returns-clause-first c)))
