use Rattle.std.proofs.Common.{List, [], ◌∷◌, filter, get_or, subst, sym, take, ℕ}
use Rattle.std.specs.Prelude.{ℤ}
use Rattle.std.specs.List.{AllByRecursion}
use Rattle.scaled_num.proofs.Sums.{each-at}
use Rattle.alpha_set.specs.Nodes.{NodeData}
use Rattle.belief.specs.After.{mass_after}
use Rattle.game_model.specs.Game.{GameData}
use Rattle.stage_game.specs.Masses.{is_some_mass}
use Rattle.stage_game.specs.Preferred.{GoesOnWorthy}
use Rattle.stage_game.proofs.Appends.{IsInside, pairs-inside}
use Rattle.stage_game.proofs.Preferring.{masses-all, masses-more, masses_after, worthy-more, worthy-none}
use Rattle.stage_game.proofs.preferred.prefer_worthy.Goals as goal

pub prefer_worthy_after-requires-clause-own : goal.prefer_worthy_after-requires-clause-own
prefer_worthy_after-requires-clause-own c =
    let g : GameData = c.args.game.now in
    let all : AllByRecursion (IsInside g.shape.own_actions g.shape.observations) c.args.after.now = subst (AllByRecursion (IsInside g.shape.own_actions g.shape.observations)) (sym c.requires.after) (pairs-inside g.shape.own_actions g.shape.observations) in
    (each-at (IsInside g.shape.own_actions g.shape.observations) (0, 0) c.args.after.now c.loop-pair.pair-index all c.loop-pair-test.true).0

pub prefer_worthy_after-requires-clause-observation : goal.prefer_worthy_after-requires-clause-observation
prefer_worthy_after-requires-clause-observation c =
    let g : GameData = c.args.game.now in
    let all : AllByRecursion (IsInside g.shape.own_actions g.shape.observations) c.args.after.now = subst (AllByRecursion (IsInside g.shape.own_actions g.shape.observations)) (sym c.requires.after) (pairs-inside g.shape.own_actions g.shape.observations) in
    (each-at (IsInside g.shape.own_actions g.shape.observations) (0, 0) c.args.after.now c.loop-pair.pair-index all c.loop-pair-test.true).1

pub loop-pair-init : goal.loop-pair-init
loop-pair-init c = worthy-none c.args.nodes.now.members c.args.kept.now.items

pub loop-pair-preserved : goal.loop-pair-preserved
loop-pair-preserved c =
    let g : GameData = c.args.game.now in
    let nodes : List NodeData = c.args.nodes.now.members in
    let p : ℕ × ℕ = get_or c.args.after.now c.loop-pair.pair-index (0, 0) in
    let i : ℕ = c.loop-pair.pair-index in
    let before : List (List ℤ) = masses_after g c.args.belief.now c.args.mixes.now (take i c.args.after.now) in
    let here : List (List ℤ) = filter is_some_mass (mass_after g c.args.belief.now c.args.mixes.now p.0 p.1 ∷ []) in
    subst (λ (ms : List (List ℤ)). GoesOnWorthy nodes ms c.args.kept.now.items c.prefer_worthy_after.new.kept.items)
    (masses-more g c.args.belief.now c.args.mixes.now c.args.after.now i c.loop-pair-test.true)
    (worthy-more nodes before here c.args.kept.now.items c.loop-pair.kept.items c.prefer_worthy_after.new.kept.items c.loop-pair.invariant c.in_ok-prefer_worthy_after.ensures)

pub returns : goal.returns
returns c =
    subst (λ (ms : List (List ℤ)). GoesOnWorthy c.args.nodes.now.members ms c.args.kept.now.items c.loop-pair.kept.items)
    (masses-all c.args.game.now c.args.belief.now c.args.mixes.now c.args.after.now c.loop-pair.pair-index c.loop-pair-test.false c.requires.after)
    c.loop-pair.invariant
