use Rattle.std.proofs.Common.{List, [], ◌∷◌, filter, get_or, subst, sym, take, ℕ}
use Rattle.std.specs.Prelude.{ℤ}
use Rattle.std.specs.List.{AllByRecursion}
use Rattle.scaled_num.proofs.Sums.{each-at}
use Rattle.point_set.specs.Points.{PointData}
use Rattle.belief.specs.After.{mass_after}
use Rattle.game_model.specs.Game.{GameData}
use Rattle.stage_game.specs.Masses.{is_some_mass}
use Rattle.stage_game.specs.Preferred.{GoesOnBest}
use Rattle.stage_game.proofs.Appends.{IsInside, pairs-inside}
use Rattle.stage_game.proofs.Preferring.{masses-all, masses-more, masses_after, best-more, best-none}
use Rattle.stage_game.proofs.preferred.prefer_best.Goals as goal

pub prefer_best_after-requires-clause-own : goal.prefer_best_after-requires-clause-own
prefer_best_after-requires-clause-own c =
    let g : GameData = c.args.game.now in
    let all : AllByRecursion (IsInside g.shape.own_actions g.shape.observations) c.args.after.now = subst (AllByRecursion (IsInside g.shape.own_actions g.shape.observations)) (sym c.requires.after) (pairs-inside g.shape.own_actions g.shape.observations) in
    (each-at (IsInside g.shape.own_actions g.shape.observations) (0, 0) c.args.after.now c.loop-pair.pair-index all c.loop-pair-test.true).0

pub prefer_best_after-requires-clause-observation : goal.prefer_best_after-requires-clause-observation
prefer_best_after-requires-clause-observation c =
    let g : GameData = c.args.game.now in
    let all : AllByRecursion (IsInside g.shape.own_actions g.shape.observations) c.args.after.now = subst (AllByRecursion (IsInside g.shape.own_actions g.shape.observations)) (sym c.requires.after) (pairs-inside g.shape.own_actions g.shape.observations) in
    (each-at (IsInside g.shape.own_actions g.shape.observations) (0, 0) c.args.after.now c.loop-pair.pair-index all c.loop-pair-test.true).1

pub loop-pair-init : goal.loop-pair-init
loop-pair-init c = best-none c.args.points.now.members c.args.others.now.items

pub loop-pair-preserved : goal.loop-pair-preserved
loop-pair-preserved c =
    let g : GameData = c.args.game.now in
    let points : List PointData = c.args.points.now.members in
    let p : ℕ × ℕ = get_or c.args.after.now c.loop-pair.pair-index (0, 0) in
    let i : ℕ = c.loop-pair.pair-index in
    let before : List (List ℤ) = masses_after g c.args.belief.now c.args.mixes.now (take i c.args.after.now) in
    let here : List (List ℤ) = filter is_some_mass (mass_after g c.args.belief.now c.args.mixes.now p.0 p.1 ∷ []) in
    subst (λ (ms : List (List ℤ)). GoesOnBest points ms c.args.others.now.items c.prefer_best_after.new.others.items)
    (masses-more g c.args.belief.now c.args.mixes.now c.args.after.now i c.loop-pair-test.true)
    (best-more points before here c.args.others.now.items c.loop-pair.others.items c.prefer_best_after.new.others.items c.loop-pair.invariant c.in_ok-prefer_best_after.ensures)

pub returns : goal.returns
returns c =
    subst (λ (ms : List (List ℤ)). GoesOnBest c.args.points.now.members ms c.args.others.now.items c.loop-pair.others.items)
    (masses-all c.args.game.now c.args.belief.now c.args.mixes.now c.args.after.now c.loop-pair.pair-index c.loop-pair-test.false c.requires.after)
    c.loop-pair.invariant
