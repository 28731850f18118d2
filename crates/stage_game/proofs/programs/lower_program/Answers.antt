use Rattle.std.proofs.Common.{◌≡◌, ◌∙◌, ◌++◌, ◌∷◌, [], ℕ, ◌+◌, ◌*◌, ◌<◌, ◌≤◌, List, ap, arith, length, map, refl, replicate, sym}
use Rattle.std.specs.Prelude.{ℤ, pos}
use Rattle.std.proofs.lemmas.List.{length-append, length-replicate, map-append}
use Rattle.std.proofs.lemmas.Nat.{mul-le}
use Rattle.scaled_num.proofs.Places.{IfOk-then}
use Rattle.game_model.specs.Game.{GameData}
use Rattle.alpha_set.specs.Nodes.{NodeData}
use Rattle.stage_game.specs.LowerProgram.{going_on_row, lower_worth_row}
use Rattle.stage_game.specs.Masses.{over_pairs}
use Rattle.stage_game.specs.Scaling.{goal_at, worth_rows}
use Rattle.stage_game.specs.Variables.{ProgramData, Variable, variables}
use Rattle.stage_game.proofs.Counts.{goal-narrow, length-lower_rows, length-mapped, length-variables}
use Rattle.stage_game.proofs.LowerNumbers.{lower-narrow}
use Rattle.stage_game.proofs.RowLists.{over_all}
use Rattle.stage_game.proofs.Serving.{program-serves}
use Rattle.stage_game.proofs.programs.lower_program.Goals as goal

pub finish-requires-clause-rows : goal.finish-requires-clause-rows
finish-requires-clause-rows c =
    let g : GameData = c.args.game.now in
    let nodes : List NodeData = c.args.nodes.now.members in
    let ends : List ℕ = c.args.candidates.now in
    let numbers : List (Variable → ℤ) = worth_rows g (lower_worth_row g c.args.bits nodes) ++ over_pairs g (λ a o. going_on_row a o ∷ []) in
    let first : map (λ row. row.items) c.push_worth_rows.new.rows.items ≡ over_all (variables g ends) (worth_rows g (lower_worth_row g c.args.bits nodes)) =
    c.in_ok-push_worth_rows.ensures ∙ ap (λ (rows : List _). map (λ row. row.items) rows ++ over_all (variables g ends) (worth_rows g (lower_worth_row g c.args.bits nodes))) c.in_ok-rows.ensures.items in
    let all : map (λ row. row.items) c.push_going_on_rows.new.rows.items ≡ over_all (variables g ends) numbers =
    c.in_ok-push_going_on_rows.ensures ends refl
    ∙ ap (λ (rows : List (List ℤ)). rows ++ over_all (variables g ends) (over_pairs g (λ a o. going_on_row a o ∷ []))) first
    ∙ sym (map-append (λ (number : Variable → ℤ). map number (variables g ends)) (worth_rows g (lower_worth_row g c.args.bits nodes)) (over_pairs g (λ a o. going_on_row a o ∷ []))) in
    let count : length c.push_going_on_rows.new.rows.items ≡ g.shape.states * g.shape.informed_actions + g.shape.own_actions * g.shape.observations =
    sym (length-mapped (λ row. row.items) c.push_going_on_rows.new.rows.items) ∙ ap (λ (rows : List (List ℤ)). length rows) all ∙ length-mapped (λ (number : Variable → ℤ). map number (variables g ends)) numbers ∙ length-lower_rows g (lower_worth_row g c.args.bits nodes) going_on_row in
    let shape = c.law_game.ensures.accepted.shape in
    let places : g.shape.states * g.shape.informed_actions ≤ 16 * 6 = mul-le g.shape.states g.shape.informed_actions 16 6 shape.states.1 shape.informed_actions.1 in
    let after : g.shape.own_actions * g.shape.observations ≤ 6 * 8 = mul-le g.shape.own_actions g.shape.observations 6 8 shape.own_actions.1 shape.observations.1 in
    omega arith

pub returns-clause-written : goal.returns-clause-written
returns-clause-written c =
    let g : GameData = c.args.game.now in
    let nodes : List NodeData = c.args.nodes.now.members in
    let ends : List ℕ = c.args.candidates.now in
    let numbers : List (Variable → ℤ) = worth_rows g (lower_worth_row g c.args.bits nodes) ++ over_pairs g (λ a o. going_on_row a o ∷ []) in
    let first : map (λ row. row.items) c.push_worth_rows.new.rows.items ≡ over_all (variables g ends) (worth_rows g (lower_worth_row g c.args.bits nodes)) =
    c.in_ok-push_worth_rows.ensures ∙ ap (λ (rows : List _). map (λ row. row.items) rows ++ over_all (variables g ends) (worth_rows g (lower_worth_row g c.args.bits nodes))) c.in_ok-rows.ensures.items in
    let all : map (λ row. row.items) c.push_going_on_rows.new.rows.items ≡ over_all (variables g ends) numbers =
    c.in_ok-push_going_on_rows.ensures ends refl
    ∙ ap (λ (rows : List (List ℤ)). rows ++ over_all (variables g ends) (over_pairs g (λ a o. going_on_row a o ∷ []))) first
    ∙ sym (map-append (λ (number : Variable → ℤ). map number (variables g ends)) (worth_rows g (lower_worth_row g c.args.bits nodes)) (over_pairs g (λ a o. going_on_row a o ∷ []))) in
    IfOk-then c.finish.result c.finish.ensures (λ p h. h ends numbers refl all)

pub returns-clause-serves : goal.returns-clause-serves
returns-clause-serves c =
    let g : GameData = c.args.game.now in
    let nodes : List NodeData = c.args.nodes.now.members in
    let ends : List ℕ = c.args.candidates.now in
    let numbers : List (Variable → ℤ) = worth_rows g (lower_worth_row g c.args.bits nodes) ++ over_pairs g (λ a o. going_on_row a o ∷ []) in
    let first : map (λ row. row.items) c.push_worth_rows.new.rows.items ≡ over_all (variables g ends) (worth_rows g (lower_worth_row g c.args.bits nodes)) =
    c.in_ok-push_worth_rows.ensures ∙ ap (λ (rows : List _). map (λ row. row.items) rows ++ over_all (variables g ends) (worth_rows g (lower_worth_row g c.args.bits nodes))) c.in_ok-rows.ensures.items in
    let all : map (λ row. row.items) c.push_going_on_rows.new.rows.items ≡ over_all (variables g ends) numbers =
    c.in_ok-push_going_on_rows.ensures ends refl
    ∙ ap (λ (rows : List (List ℤ)). rows ++ over_all (variables g ends) (over_pairs g (λ a o. going_on_row a o ∷ []))) first
    ∙ sym (map-append (λ (number : Variable → ℤ). map number (variables g ends)) (worth_rows g (lower_worth_row g c.args.bits nodes)) (over_pairs g (λ a o. going_on_row a o ∷ []))) in
    let inside = c.requires.candidates.named.inside in
    let shape = c.law_game.ensures.accepted.shape in
    let some : 0 < length (variables g ends) = omega (arith, length-variables g ends, shape.states.0) in
    IfOk-then c.finish.result c.finish.ensures (λ p h. program-serves p (variables g ends) numbers (goal_at c.args.belief.now c.args.bits) (h ends numbers refl all) some
    (lower-narrow g c.law_game.ensures.accepted c.args.bits c.requires.bits nodes c.requires.nodes.fit ends inside)
    (goal-narrow g c.args.belief.now c.args.bits (length nodes) ends inside c.requires.bits c.requires.belief.right))

pub returns-clause-rows : goal.returns-clause-rows
returns-clause-rows c =
    let g : GameData = c.args.game.now in
    let nodes : List NodeData = c.args.nodes.now.members in
    let ends : List ℕ = c.args.candidates.now in
    let numbers : List (Variable → ℤ) = worth_rows g (lower_worth_row g c.args.bits nodes) ++ over_pairs g (λ a o. going_on_row a o ∷ []) in
    let first : map (λ row. row.items) c.push_worth_rows.new.rows.items ≡ over_all (variables g ends) (worth_rows g (lower_worth_row g c.args.bits nodes)) =
    c.in_ok-push_worth_rows.ensures ∙ ap (λ (rows : List _). map (λ row. row.items) rows ++ over_all (variables g ends) (worth_rows g (lower_worth_row g c.args.bits nodes))) c.in_ok-rows.ensures.items in
    let all : map (λ row. row.items) c.push_going_on_rows.new.rows.items ≡ over_all (variables g ends) numbers =
    c.in_ok-push_going_on_rows.ensures ends refl
    ∙ ap (λ (rows : List (List ℤ)). rows ++ over_all (variables g ends) (over_pairs g (λ a o. going_on_row a o ∷ []))) first
    ∙ sym (map-append (λ (number : Variable → ℤ). map number (variables g ends)) (worth_rows g (lower_worth_row g c.args.bits nodes)) (over_pairs g (λ a o. going_on_row a o ∷ []))) in
    IfOk-then c.finish.result c.finish.ensures (λ p h.
    ap (λ (d : ProgramData). length d.limits) (h ends numbers refl all) ∙ limits-long numbers ∙ ap (λ (n : ℕ). n + 1) (length-lower_rows g (lower_worth_row g c.args.bits nodes) going_on_row))
  where
    limits-long : (numbers : List (Variable → ℤ)) → length (replicate (length numbers) (pos 0) ++ pos 1 ∷ []) ≡ length numbers + 1
    limits-long numbers = length-append (replicate (length numbers) (pos 0)) (pos 1 ∷ []) ∙ omega (arith, length-replicate (length numbers) (pos 0))

pub returns-clause-variables : goal.returns-clause-variables
returns-clause-variables c =
    let g : GameData = c.args.game.now in
    let nodes : List NodeData = c.args.nodes.now.members in
    let ends : List ℕ = c.args.candidates.now in
    let numbers : List (Variable → ℤ) = worth_rows g (lower_worth_row g c.args.bits nodes) ++ over_pairs g (λ a o. going_on_row a o ∷ []) in
    let first : map (λ row. row.items) c.push_worth_rows.new.rows.items ≡ over_all (variables g ends) (worth_rows g (lower_worth_row g c.args.bits nodes)) =
    c.in_ok-push_worth_rows.ensures ∙ ap (λ (rows : List _). map (λ row. row.items) rows ++ over_all (variables g ends) (worth_rows g (lower_worth_row g c.args.bits nodes))) c.in_ok-rows.ensures.items in
    let all : map (λ row. row.items) c.push_going_on_rows.new.rows.items ≡ over_all (variables g ends) numbers =
    c.in_ok-push_going_on_rows.ensures ends refl
    ∙ ap (λ (rows : List (List ℤ)). rows ++ over_all (variables g ends) (over_pairs g (λ a o. going_on_row a o ∷ []))) first
    ∙ sym (map-append (λ (number : Variable → ℤ). map number (variables g ends)) (worth_rows g (lower_worth_row g c.args.bits nodes)) (over_pairs g (λ a o. going_on_row a o ∷ []))) in
    IfOk-then c.finish.result c.finish.ensures (λ p h.
    ap (λ (d : ProgramData). length d.goal) (h ends numbers refl all) ∙ length-mapped (goal_at c.args.belief.now c.args.bits) (variables g ends) ∙ length-variables g ends)
