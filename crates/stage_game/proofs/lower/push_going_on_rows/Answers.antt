use Rattle.std.proofs.Common.{◌≡◌, ◌∙◌, ◌++◌, ◌∷◌, [], ℕ, ◌<◌, ◌≤◌, List, ap, get_or, length, map, replicate, subst, sym}
use Rattle.std.specs.Prelude.{ℤ, pos}
use Rattle.std.specs.List.{AllByRecursion}
use Rattle.std.proofs.lemmas.List.{length-replicate, map-append, take_all}
use Rattle.scaled_num.proofs.Sums.{each-at}
use Rattle.game_model.specs.Game.{GameData}
use Rattle.stage_game.specs.LowerProgram.{going_on_row}
use Rattle.stage_game.specs.Pairs.{pairs}
use Rattle.stage_game.specs.Variables.{variables}
use Rattle.stage_game.proofs.Appends.{IsInside, item-more, pairs-inside}
use Rattle.stage_game.proofs.GoingOn.{going-is_pair}
use Rattle.stage_game.proofs.RowLists.{pair_rows-made}
use Rattle.stage_game.proofs.lower.push_going_on_rows.Goals as goal

pub pair_row-requires-clause-action : goal.pair_row-requires-clause-action
pair_row-requires-clause-action c =
    let g : GameData = c.args.game.now in
    let same : c.deref-pair-items.result.now ≡ pairs g.shape.own_actions g.shape.observations =
    c.deref-pair-items.ensures.value ∙ c.in_ok-after.ensures ∙ ap (λ (n : ℕ). pairs n c.observations.result) c.own_actions.ensures ∙ ap (λ (n : ℕ). pairs g.shape.own_actions n) c.observations.ensures in
    let all : AllByRecursion (IsInside g.shape.own_actions g.shape.observations) c.deref-pair-items.result.now = subst (AllByRecursion (IsInside g.shape.own_actions g.shape.observations)) (sym same) (pairs-inside g.shape.own_actions g.shape.observations) in
    (each-at (IsInside g.shape.own_actions g.shape.observations) (0, 0) c.deref-pair-items.result.now c.loop-pair.pair-index all c.loop-pair-test.true).0

pub pair_row-requires-clause-observation : goal.pair_row-requires-clause-observation
pair_row-requires-clause-observation c =
    let g : GameData = c.args.game.now in
    let same : c.deref-pair-items.result.now ≡ pairs g.shape.own_actions g.shape.observations =
    c.deref-pair-items.ensures.value ∙ c.in_ok-after.ensures ∙ ap (λ (n : ℕ). pairs n c.observations.result) c.own_actions.ensures ∙ ap (λ (n : ℕ). pairs g.shape.own_actions n) c.observations.ensures in
    let all : AllByRecursion (IsInside g.shape.own_actions g.shape.observations) c.deref-pair-items.result.now = subst (AllByRecursion (IsInside g.shape.own_actions g.shape.observations)) (sym same) (pairs-inside g.shape.own_actions g.shape.observations) in
    (each-at (IsInside g.shape.own_actions g.shape.observations) (0, 0) c.deref-pair-items.result.now c.loop-pair.pair-index all c.loop-pair-test.true).1

pub loop-pair-preserved : goal.loop-pair-preserved
loop-pair-preserved c = λ ends long.
    let g : GameData = c.args.game.now in
    let same : c.deref-pair-items.result.now ≡ pairs g.shape.own_actions g.shape.observations =
    c.deref-pair-items.ensures.value ∙ c.in_ok-after.ensures ∙ ap (λ (n : ℕ). pairs n c.observations.result) c.own_actions.ensures ∙ ap (λ (n : ℕ). pairs g.shape.own_actions n) c.observations.ensures in
    let p : ℕ × ℕ = get_or c.deref-pair-items.result.now c.loop-pair.pair-index (0, 0) in
    let here : p ≡ get_or (pairs g.shape.own_actions g.shape.observations) c.loop-pair.pair-index (0, 0) = ap (λ (ps : List (ℕ × ℕ)). get_or ps c.loop-pair.pair-index (0, 0)) same in
    let inside : c.loop-pair.pair-index < length (pairs g.shape.own_actions g.shape.observations) = subst (λ (ps : List (ℕ × ℕ)). c.loop-pair.pair-index < length ps) same c.loop-pair-test.true in
    let row : ℕ × ℕ → List ℤ = λ (p : ℕ × ℕ). map (going_on_row p.0 p.1) (variables g ends) in
    let before : List (List ℤ) = map (λ row. row.items) c.args.rows.now.items in
    let ones : c.deref.result.now ≡ replicate c.args.count (pos 1) = c.deref.ensures.value ∙ c.in_ok-block.ensures.items_if_clones_equal (λ y h. h) in
    let block_long : length c.deref.result.now ≡ c.args.count = ap (λ (xs : List ℤ). length xs) ones ∙ length-replicate c.args.count (pos 1) in
    let made : c.in_ok-pair_row.field-0.items ≡ row p =
    c.in_ok-pair_row.ensures (going_on_row p.0 p.1) ends (long ∙ sym block_long) (going-is_pair p.0 p.1 ends c.deref.result.now (ones ∙ ap (λ (n : ℕ). replicate n (pos 1)) (sym long))) in
    ap (λ (rows : List _). map (λ row. row.items) rows) c.in_ok-push.ensures.items
    ∙ map-append (λ row. row.items) c.loop-pair.rows.items (c.in_ok-pair_row.field-0 ∷ [])
    ∙ ap (λ (x : List ℤ). map (λ row. row.items) c.loop-pair.rows.items ++ x ∷ []) (made ∙ ap row here)
    ∙ ap (λ (xs : List (List ℤ)). xs ++ row (get_or (pairs g.shape.own_actions g.shape.observations) c.loop-pair.pair-index (0, 0)) ∷ []) (c.loop-pair.invariant ends long)
    ∙ item-more row before (pairs g.shape.own_actions g.shape.observations) c.loop-pair.pair-index (0, 0) inside

pub returns : goal.returns
returns c = λ ends long.
    let g : GameData = c.args.game.now in
    let same : c.deref-pair-items.result.now ≡ pairs g.shape.own_actions g.shape.observations =
    c.deref-pair-items.ensures.value ∙ c.in_ok-after.ensures ∙ ap (λ (n : ℕ). pairs n c.observations.result) c.own_actions.ensures ∙ ap (λ (n : ℕ). pairs g.shape.own_actions n) c.observations.ensures in
    let row : ℕ × ℕ → List ℤ = λ (p : ℕ × ℕ). map (going_on_row p.0 p.1) (variables g ends) in
    let before : List (List ℤ) = map (λ row. row.items) c.args.rows.now.items in
    let whole : length (pairs g.shape.own_actions g.shape.observations) ≤ c.loop-pair.pair-index = subst (λ (ps : List (ℕ × ℕ)). length ps ≤ c.loop-pair.pair-index) same c.loop-pair-test.false in
    c.loop-pair.invariant ends long
    ∙ ap (λ (ps : List (ℕ × ℕ)). before ++ map row ps) (take_all c.loop-pair.pair-index (pairs g.shape.own_actions g.shape.observations) whole)
    ∙ ap (λ (rows : List (List ℤ)). before ++ rows) (pair_rows-made g going_on_row (variables g ends))
