use Rattle.std.proofs.Common.{◌≡◌, ◌∙◌, ◌++◌, ℕ, ◌≤◌, List, ap, length, map, subst, sym}
use Rattle.std.specs.Prelude.{ℤ}
use Rattle.std.specs.List.{AllByRecursion}
use Rattle.std.proofs.lemmas.List.{take_all}
use Rattle.scaled_num.specs.Sums.{below}
use Rattle.scaled_num.proofs.Sums.{each-at}
use Rattle.game_model.specs.Game.{GameData}
use Rattle.stage_game.specs.UpperProgram.{upper_worth_row}
use Rattle.stage_game.specs.Pairs.{pairs}
use Rattle.stage_game.specs.Variables.{variables}
use Rattle.stage_game.proofs.Appends.{IsInside, pairs-inside}
use Rattle.stage_game.proofs.RowLists.{worth_rows-made}
use Rattle.stage_game.proofs.upper.push_worth_rows.Goals as goal

pub worth_row-requires-clause-state : goal.worth_row-requires-clause-state
worth_row-requires-clause-state c =
    let g : GameData = c.args.game.now in
    let same : c.deref-place-items.result.now ≡ pairs g.shape.states g.shape.informed_actions =
    c.deref-place-items.ensures.value ∙ c.in_ok-places.ensures ∙ ap (λ (n : ℕ). pairs n c.informed_actions.result) c.states.ensures ∙ ap (λ (n : ℕ). pairs g.shape.states n) c.informed_actions.ensures in
    let all : AllByRecursion (IsInside g.shape.states g.shape.informed_actions) c.deref-place-items.result.now = subst (AllByRecursion (IsInside g.shape.states g.shape.informed_actions)) (sym same) (pairs-inside g.shape.states g.shape.informed_actions) in
    (each-at (IsInside g.shape.states g.shape.informed_actions) (0, 0) c.deref-place-items.result.now c.loop-place.place-index all c.loop-place-test.true).0

pub worth_row-requires-clause-informed : goal.worth_row-requires-clause-informed
worth_row-requires-clause-informed c =
    let g : GameData = c.args.game.now in
    let same : c.deref-place-items.result.now ≡ pairs g.shape.states g.shape.informed_actions =
    c.deref-place-items.ensures.value ∙ c.in_ok-places.ensures ∙ ap (λ (n : ℕ). pairs n c.informed_actions.result) c.states.ensures ∙ ap (λ (n : ℕ). pairs g.shape.states n) c.informed_actions.ensures in
    let all : AllByRecursion (IsInside g.shape.states g.shape.informed_actions) c.deref-place-items.result.now = subst (AllByRecursion (IsInside g.shape.states g.shape.informed_actions)) (sym same) (pairs-inside g.shape.states g.shape.informed_actions) in
    (each-at (IsInside g.shape.states g.shape.informed_actions) (0, 0) c.deref-place-items.result.now c.loop-place.place-index all c.loop-place-test.true).1

pub returns : goal.returns
returns c =
    let g : GameData = c.args.game.now in
    let row : ℕ × ℕ → List ℤ = λ (p : ℕ × ℕ). map (upper_worth_row g c.args.bits p.0 p.1) (variables g (below g.shape.states)) in
    let before : List (List ℤ) = map (λ row. row.items) c.args.rows.now.items in
    let same : c.deref-place-items.result.now ≡ pairs g.shape.states g.shape.informed_actions =
    c.deref-place-items.ensures.value ∙ c.in_ok-places.ensures ∙ ap (λ (n : ℕ). pairs n c.informed_actions.result) c.states.ensures ∙ ap (λ (n : ℕ). pairs g.shape.states n) c.informed_actions.ensures in
    let whole : length (pairs g.shape.states g.shape.informed_actions) ≤ c.loop-place.place-index = subst (λ (ps : List (ℕ × ℕ)). length ps ≤ c.loop-place.place-index) same c.loop-place-test.false in
    c.loop-place.invariant
    ∙ ap (λ (ps : List (ℕ × ℕ)). before ++ map row ps) (take_all c.loop-place.place-index (pairs g.shape.states g.shape.informed_actions) whole)
    ∙ ap (λ (rows : List (List ℤ)). before ++ rows) (worth_rows-made g (upper_worth_row g c.args.bits) (variables g (below g.shape.states)))
