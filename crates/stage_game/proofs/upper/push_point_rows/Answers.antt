use Rattle.std.proofs.Common.{◌≡◌, ◌∙◌, ◌++◌, ℕ, ◌<◌, ◌≤◌, List, ap, get_or, length, map, flat_map, subst, sym}
use Rattle.std.specs.Prelude.{ℤ}
use Rattle.std.specs.List.{AllByRecursion}
use Rattle.std.proofs.lemmas.List.{take_all}
use Rattle.scaled_num.specs.Sums.{below}
use Rattle.scaled_num.proofs.Sums.{each-at}
use Rattle.game_model.specs.Game.{GameData}
use Rattle.point_set.specs.Corners.{point_at}
use Rattle.point_set.specs.Points.{PointData}
use Rattle.stage_game.specs.Pairs.{pairs}
use Rattle.stage_game.specs.PointParts.{part_data, part_row}
use Rattle.stage_game.specs.UpperProgram.{point_row}
use Rattle.stage_game.specs.Variables.{Variable, variables}
use Rattle.stage_game.specs.declared.upper.PointPart.{PointPart}
use Rattle.stage_game.proofs.Appends.{IsInside, block-more, pairs-inside}
use Rattle.stage_game.proofs.PointRows.{part-rows-made, parts-long}
use Rattle.stage_game.proofs.RowLists.{member_rows-made}
use Rattle.stage_game.proofs.upper.push_point_rows.Goals as goal

pub push_rows_after-requires-clause-own : goal.push_rows_after-requires-clause-own
push_rows_after-requires-clause-own c =
    let g : GameData = c.args.game.now in
    let same : c.deref-pair-items.result.now ≡ pairs g.shape.own_actions g.shape.observations =
    c.deref-pair-items.ensures.value ∙ c.in_ok-after.ensures ∙ ap (λ (n : ℕ). pairs n c.observations.result) c.own_actions.ensures ∙ ap (λ (n : ℕ). pairs g.shape.own_actions n) c.observations.ensures in
    let all : AllByRecursion (IsInside g.shape.own_actions g.shape.observations) c.deref-pair-items.result.now = subst (AllByRecursion (IsInside g.shape.own_actions g.shape.observations)) (sym same) (pairs-inside g.shape.own_actions g.shape.observations) in
    (each-at (IsInside g.shape.own_actions g.shape.observations) (0, 0) c.deref-pair-items.result.now c.loop-pair.pair-index all c.loop-pair-test.true).0

pub push_rows_after-requires-clause-observation : goal.push_rows_after-requires-clause-observation
push_rows_after-requires-clause-observation c =
    let g : GameData = c.args.game.now in
    let same : c.deref-pair-items.result.now ≡ pairs g.shape.own_actions g.shape.observations =
    c.deref-pair-items.ensures.value ∙ c.in_ok-after.ensures ∙ ap (λ (n : ℕ). pairs n c.observations.result) c.own_actions.ensures ∙ ap (λ (n : ℕ). pairs g.shape.own_actions n) c.observations.ensures in
    let all : AllByRecursion (IsInside g.shape.own_actions g.shape.observations) c.deref-pair-items.result.now = subst (AllByRecursion (IsInside g.shape.own_actions g.shape.observations)) (sym same) (pairs-inside g.shape.own_actions g.shape.observations) in
    (each-at (IsInside g.shape.own_actions g.shape.observations) (0, 0) c.deref-pair-items.result.now c.loop-pair.pair-index all c.loop-pair-test.true).1

pub push_rows_after-requires-clause-long : goal.push_rows_after-requires-clause-long
push_rows_after-requires-clause-long c =
    let g : GameData = c.args.game.now in
    subst (AllByRecursion (λ (part : PointPart). length part.block.items ≡ g.shape.states)) (sym c.deref.ensures.value)
    (parts-long g c.args.bits c.args.points.now.members c.args.candidates.now c.in_ok-parts.parts.items c.in_ok-parts.ensures)

pub loop-pair-preserved : goal.loop-pair-preserved
loop-pair-preserved c =
    let g : GameData = c.args.game.now in
    let same : c.deref-pair-items.result.now ≡ pairs g.shape.own_actions g.shape.observations =
    c.deref-pair-items.ensures.value ∙ c.in_ok-after.ensures ∙ ap (λ (n : ℕ). pairs n c.observations.result) c.own_actions.ensures ∙ ap (λ (n : ℕ). pairs g.shape.own_actions n) c.observations.ensures in
    let points : List PointData = c.args.points.now.members in
    let vars : List Variable = variables g (below g.shape.states) in
    let p : ℕ × ℕ = get_or c.deref-pair-items.result.now c.loop-pair.pair-index (0, 0) in
    let here : p ≡ get_or (pairs g.shape.own_actions g.shape.observations) c.loop-pair.pair-index (0, 0) = ap (λ (ps : List (ℕ × ℕ)). get_or ps c.loop-pair.pair-index (0, 0)) same in
    let inside : c.loop-pair.pair-index < length (pairs g.shape.own_actions g.shape.observations) = subst (λ (ps : List (ℕ × ℕ)). c.loop-pair.pair-index < length ps) same c.loop-pair-test.true in
    let rows : ℕ × ℕ → List (List ℤ) = λ (p : ℕ × ℕ). map (λ k. map (point_row g c.args.bits (point_at points k) p.0 p.1) vars) c.args.candidates.now in
    let before : List (List ℤ) = map (λ row. row.items) c.args.rows.now.items in
    let made : map (λ (part : PointPart). map (part_row (part_data part) p.0 p.1) vars) c.deref.result.now ≡ rows p =
    ap (λ (parts : List PointPart). map (λ (part : PointPart). map (part_row (part_data part) p.0 p.1) vars) parts) c.deref.ensures.value
    ∙ part-rows-made g c.args.bits points c.args.candidates.now c.in_ok-parts.parts.items p.0 p.1 c.in_ok-parts.ensures in
    c.in_ok-push_rows_after.ensures
    ∙ ap (λ (xs : List (List ℤ)). map (λ row. row.items) c.loop-pair.rows.items ++ xs) (made ∙ ap rows here)
    ∙ ap (λ (xs : List (List ℤ)). xs ++ rows (get_or (pairs g.shape.own_actions g.shape.observations) c.loop-pair.pair-index (0, 0))) c.loop-pair.invariant
    ∙ block-more rows before (pairs g.shape.own_actions g.shape.observations) c.loop-pair.pair-index (0, 0) inside

pub returns : goal.returns
returns c =
    let g : GameData = c.args.game.now in
    let same : c.deref-pair-items.result.now ≡ pairs g.shape.own_actions g.shape.observations =
    c.deref-pair-items.ensures.value ∙ c.in_ok-after.ensures ∙ ap (λ (n : ℕ). pairs n c.observations.result) c.own_actions.ensures ∙ ap (λ (n : ℕ). pairs g.shape.own_actions n) c.observations.ensures in
    let points : List PointData = c.args.points.now.members in
    let vars : List Variable = variables g (below g.shape.states) in
    let rows : ℕ × ℕ → List (List ℤ) = λ (p : ℕ × ℕ). map (λ k. map (point_row g c.args.bits (point_at points k) p.0 p.1) vars) c.args.candidates.now in
    let before : List (List ℤ) = map (λ row. row.items) c.args.rows.now.items in
    let whole : length (pairs g.shape.own_actions g.shape.observations) ≤ c.loop-pair.pair-index = subst (λ (ps : List (ℕ × ℕ)). length ps ≤ c.loop-pair.pair-index) same c.loop-pair-test.false in
    c.loop-pair.invariant
    ∙ ap (λ (ps : List (ℕ × ℕ)). before ++ flat_map rows ps) (take_all c.loop-pair.pair-index (pairs g.shape.own_actions g.shape.observations) whole)
    ∙ ap (λ (xs : List (List ℤ)). before ++ xs) (member_rows-made g (λ k a o. point_row g c.args.bits (point_at points k) a o) c.args.candidates.now vars)
