use Rattle.std.proofs.Common.{◌≡◌, ◌∙◌, ◌++◌, ◌∷◌, [], ℕ, ◌+◌, ◌*◌, ◌<◌, ◌≤◌, List, ap, arith, length, map, replicate, sym}
use Rattle.std.specs.Prelude.{ℤ, pos}
use Rattle.std.proofs.lemmas.List.{length-append, length-replicate, map-append}
use Rattle.std.proofs.lemmas.Nat.{mul-le}
use Rattle.scaled_num.proofs.Places.{IfOk-then}
use Rattle.game_model.specs.Game.{GameData}
use Rattle.scaled_num.specs.Sums.{below}
use Rattle.scaled_num.proofs.Sums.{below-each}
use Rattle.std.proofs.lemmas.List.FromFn.{length-range_with_len}
use Rattle.point_set.specs.Corners.{point_at}
use Rattle.point_set.specs.Points.{PointData}
use Rattle.stage_game.specs.UpperProgram.{point_row, upper_worth_row}
use Rattle.stage_game.specs.Masses.{over_pairs}
use Rattle.stage_game.specs.Scaling.{goal_at, worth_rows}
use Rattle.stage_game.specs.Variables.{ProgramData, Variable, variables}
use Rattle.stage_game.proofs.Counts.{goal-narrow, length-mapped, length-upper_rows, length-variables}
use Rattle.stage_game.proofs.UpperNumbers.{upper-narrow}
use Rattle.stage_game.proofs.FewPoints.{few-candidates}
use Rattle.stage_game.proofs.RowLists.{over_all}
use Rattle.stage_game.proofs.Serving.{program-serves}
use Rattle.stage_game.proofs.programs.upper_program.Goals as goal

pub overflow_mul-pairs-2 : goal.overflow_mul-pairs-2
overflow_mul-pairs-2 c =
    let g : GameData = c.args.game.now in
    let n : ℕ = length c.args.candidates.now in
    let shape = c.law_game.ensures.accepted.shape in
    let after : g.shape.own_actions * g.shape.observations ≤ 6 * 8 = mul-le g.shape.own_actions g.shape.observations 6 8 shape.own_actions.1 shape.observations.1 in
    let few : n ≤ 24 = omega (arith, few-candidates g c.args.points.now.members c.args.candidates.now c.requires.candidates, shape.states.1) in
    let blocks : g.shape.own_actions * g.shape.observations * n ≤ 6 * 8 * 24 = mul-le (g.shape.own_actions * g.shape.observations) n (6 * 8) 24 after few in
    let same : c.own_actions.result * c.observations.result * n ≡ g.shape.own_actions * g.shape.observations * n =
    ap (λ (k : ℕ). k * c.observations.result * n) c.own_actions.ensures ∙ ap (λ (k : ℕ). g.shape.own_actions * k * n) c.observations.ensures in
    omega arith

pub overflow_add-places : goal.overflow_add-places
overflow_add-places c =
    let g : GameData = c.args.game.now in
    let n : ℕ = length c.args.candidates.now in
    let shape = c.law_game.ensures.accepted.shape in
    let after : g.shape.own_actions * g.shape.observations ≤ 6 * 8 = mul-le g.shape.own_actions g.shape.observations 6 8 shape.own_actions.1 shape.observations.1 in
    let few : n ≤ 24 = omega (arith, few-candidates g c.args.points.now.members c.args.candidates.now c.requires.candidates, shape.states.1) in
    let blocks : g.shape.own_actions * g.shape.observations * n ≤ 6 * 8 * 24 = mul-le (g.shape.own_actions * g.shape.observations) n (6 * 8) 24 after few in
    let same : c.own_actions.result * c.observations.result * n ≡ g.shape.own_actions * g.shape.observations * n =
    ap (λ (k : ℕ). k * c.observations.result * n) c.own_actions.ensures ∙ ap (λ (k : ℕ). g.shape.own_actions * k * n) c.observations.ensures in
    let places : g.shape.states * g.shape.informed_actions ≤ 16 * 6 = mul-le g.shape.states g.shape.informed_actions 16 6 shape.states.1 shape.informed_actions.1 in
    let there : c.states-states.result * c.informed_actions.result ≡ g.shape.states * g.shape.informed_actions =
    ap (λ (k : ℕ). k * c.informed_actions.result) c.states-states.ensures ∙ ap (λ (k : ℕ). g.shape.states * k) c.informed_actions.ensures in
    omega arith

pub overflow_add-places-2 : goal.overflow_add-places-2
overflow_add-places-2 c =
    let g : GameData = c.args.game.now in
    let n : ℕ = length c.args.candidates.now in
    let shape = c.law_game.ensures.accepted.shape in
    let after : g.shape.own_actions * g.shape.observations ≤ 6 * 8 = mul-le g.shape.own_actions g.shape.observations 6 8 shape.own_actions.1 shape.observations.1 in
    let few : n ≤ 24 = omega (arith, few-candidates g c.args.points.now.members c.args.candidates.now c.requires.candidates, shape.states.1) in
    let blocks : g.shape.own_actions * g.shape.observations * n ≤ 6 * 8 * 24 = mul-le (g.shape.own_actions * g.shape.observations) n (6 * 8) 24 after few in
    let same : c.own_actions.result * c.observations.result * n ≡ g.shape.own_actions * g.shape.observations * n =
    ap (λ (k : ℕ). k * c.observations.result * n) c.own_actions.ensures ∙ ap (λ (k : ℕ). g.shape.own_actions * k * n) c.observations.ensures in
    let places : g.shape.states * g.shape.informed_actions ≤ 16 * 6 = mul-le g.shape.states g.shape.informed_actions 16 6 shape.states.1 shape.informed_actions.1 in
    let there : c.states-states.result * c.informed_actions.result ≡ g.shape.states * g.shape.informed_actions =
    ap (λ (k : ℕ). k * c.informed_actions.result) c.states-states.ensures ∙ ap (λ (k : ℕ). g.shape.states * k) c.informed_actions.ensures in
    omega arith

pub finish-requires-clause-rows : goal.finish-requires-clause-rows
finish-requires-clause-rows c =
    let g : GameData = c.args.game.now in
    let points : List PointData = c.args.points.now.members in
    let ends : List ℕ = below g.shape.states in
    let numbers : List (Variable → ℤ) = worth_rows g (upper_worth_row g c.args.bits) ++ over_pairs g (λ a o. map (λ k. point_row g c.args.bits (point_at points k) a o) c.args.candidates.now) in
    let first : map (λ row. row.items) c.push_worth_rows.new.rows.items ≡ over_all (variables g ends) (worth_rows g (upper_worth_row g c.args.bits)) =
    c.in_ok-push_worth_rows.ensures ∙ ap (λ (rows : List _). map (λ row. row.items) rows ++ over_all (variables g ends) (worth_rows g (upper_worth_row g c.args.bits))) c.in_ok-rows.ensures.items in
    let all : map (λ row. row.items) c.push_point_rows.new.rows.items ≡ over_all (variables g ends) numbers =
    c.in_ok-push_point_rows.ensures
    ∙ ap (λ (rows : List (List ℤ)). rows ++ over_all (variables g ends) (over_pairs g (λ a o. map (λ k. point_row g c.args.bits (point_at points k) a o) c.args.candidates.now))) first
    ∙ sym (map-append (λ (number : Variable → ℤ). map number (variables g ends)) (worth_rows g (upper_worth_row g c.args.bits)) (over_pairs g (λ a o. map (λ k. point_row g c.args.bits (point_at points k) a o) c.args.candidates.now))) in
    let count : length c.push_point_rows.new.rows.items ≡ g.shape.states * g.shape.informed_actions + g.shape.own_actions * g.shape.observations * length c.args.candidates.now =
    sym (length-mapped (λ row. row.items) c.push_point_rows.new.rows.items) ∙ ap (λ (rows : List (List ℤ)). length rows) all ∙ length-mapped (λ (number : Variable → ℤ). map number (variables g ends)) numbers ∙ length-upper_rows g (upper_worth_row g c.args.bits) (λ k a o. point_row g c.args.bits (point_at points k) a o) c.args.candidates.now in
    let shape = c.law_game.ensures.accepted.shape in
    let places : g.shape.states * g.shape.informed_actions ≤ 16 * 6 = mul-le g.shape.states g.shape.informed_actions 16 6 shape.states.1 shape.informed_actions.1 in
    let after : g.shape.own_actions * g.shape.observations ≤ 6 * 8 = mul-le g.shape.own_actions g.shape.observations 6 8 shape.own_actions.1 shape.observations.1 in
    let few : length c.args.candidates.now ≤ 24 = omega (arith, few-candidates g c.args.points.now.members c.args.candidates.now c.requires.candidates, shape.states.1) in
    let blocks : g.shape.own_actions * g.shape.observations * length c.args.candidates.now ≤ 6 * 8 * 24 = mul-le (g.shape.own_actions * g.shape.observations) (length c.args.candidates.now) (6 * 8) 24 after few in
    omega arith

pub returns-clause-written : goal.returns-clause-written
returns-clause-written c =
    let g : GameData = c.args.game.now in
    let points : List PointData = c.args.points.now.members in
    let ends : List ℕ = below g.shape.states in
    let numbers : List (Variable → ℤ) = worth_rows g (upper_worth_row g c.args.bits) ++ over_pairs g (λ a o. map (λ k. point_row g c.args.bits (point_at points k) a o) c.args.candidates.now) in
    let first : map (λ row. row.items) c.push_worth_rows.new.rows.items ≡ over_all (variables g ends) (worth_rows g (upper_worth_row g c.args.bits)) =
    c.in_ok-push_worth_rows.ensures ∙ ap (λ (rows : List _). map (λ row. row.items) rows ++ over_all (variables g ends) (worth_rows g (upper_worth_row g c.args.bits))) c.in_ok-rows.ensures.items in
    let all : map (λ row. row.items) c.push_point_rows.new.rows.items ≡ over_all (variables g ends) numbers =
    c.in_ok-push_point_rows.ensures
    ∙ ap (λ (rows : List (List ℤ)). rows ++ over_all (variables g ends) (over_pairs g (λ a o. map (λ k. point_row g c.args.bits (point_at points k) a o) c.args.candidates.now))) first
    ∙ sym (map-append (λ (number : Variable → ℤ). map number (variables g ends)) (worth_rows g (upper_worth_row g c.args.bits)) (over_pairs g (λ a o. map (λ k. point_row g c.args.bits (point_at points k) a o) c.args.candidates.now))) in
    let long : length ends ≡ c.states-states.result = length-range_with_len 0 g.shape.states ∙ sym c.states-states.ensures in
    IfOk-then c.finish.result c.finish.ensures (λ p h. h ends numbers long all)

pub returns-clause-serves : goal.returns-clause-serves
returns-clause-serves c =
    let g : GameData = c.args.game.now in
    let points : List PointData = c.args.points.now.members in
    let ends : List ℕ = below g.shape.states in
    let numbers : List (Variable → ℤ) = worth_rows g (upper_worth_row g c.args.bits) ++ over_pairs g (λ a o. map (λ k. point_row g c.args.bits (point_at points k) a o) c.args.candidates.now) in
    let first : map (λ row. row.items) c.push_worth_rows.new.rows.items ≡ over_all (variables g ends) (worth_rows g (upper_worth_row g c.args.bits)) =
    c.in_ok-push_worth_rows.ensures ∙ ap (λ (rows : List _). map (λ row. row.items) rows ++ over_all (variables g ends) (worth_rows g (upper_worth_row g c.args.bits))) c.in_ok-rows.ensures.items in
    let all : map (λ row. row.items) c.push_point_rows.new.rows.items ≡ over_all (variables g ends) numbers =
    c.in_ok-push_point_rows.ensures
    ∙ ap (λ (rows : List (List ℤ)). rows ++ over_all (variables g ends) (over_pairs g (λ a o. map (λ k. point_row g c.args.bits (point_at points k) a o) c.args.candidates.now))) first
    ∙ sym (map-append (λ (number : Variable → ℤ). map number (variables g ends)) (worth_rows g (upper_worth_row g c.args.bits)) (over_pairs g (λ a o. map (λ k. point_row g c.args.bits (point_at points k) a o) c.args.candidates.now))) in
    let inside = c.requires.candidates.named.inside in
    let shape = c.law_game.ensures.accepted.shape in
    let some : 0 < length (variables g ends) = omega (arith, length-variables g ends, shape.states.0) in
    let long : length ends ≡ c.states-states.result = length-range_with_len 0 g.shape.states ∙ sym c.states-states.ensures in
    IfOk-then c.finish.result c.finish.ensures (λ p h. program-serves p (variables g ends) numbers (goal_at c.args.belief.now c.args.bits) (h ends numbers long all) some
    (upper-narrow g c.law_game.ensures.accepted c.args.bits c.requires.bits points c.requires.points.fit c.args.candidates.now inside)
    (goal-narrow g c.args.belief.now c.args.bits g.shape.states ends (below-each (λ t. t < g.shape.states) g.shape.states (λ t l. l)) c.requires.bits c.requires.belief.right))

pub returns-clause-rows : goal.returns-clause-rows
returns-clause-rows c =
    let g : GameData = c.args.game.now in
    let points : List PointData = c.args.points.now.members in
    let ends : List ℕ = below g.shape.states in
    let numbers : List (Variable → ℤ) = worth_rows g (upper_worth_row g c.args.bits) ++ over_pairs g (λ a o. map (λ k. point_row g c.args.bits (point_at points k) a o) c.args.candidates.now) in
    let first : map (λ row. row.items) c.push_worth_rows.new.rows.items ≡ over_all (variables g ends) (worth_rows g (upper_worth_row g c.args.bits)) =
    c.in_ok-push_worth_rows.ensures ∙ ap (λ (rows : List _). map (λ row. row.items) rows ++ over_all (variables g ends) (worth_rows g (upper_worth_row g c.args.bits))) c.in_ok-rows.ensures.items in
    let all : map (λ row. row.items) c.push_point_rows.new.rows.items ≡ over_all (variables g ends) numbers =
    c.in_ok-push_point_rows.ensures
    ∙ ap (λ (rows : List (List ℤ)). rows ++ over_all (variables g ends) (over_pairs g (λ a o. map (λ k. point_row g c.args.bits (point_at points k) a o) c.args.candidates.now))) first
    ∙ sym (map-append (λ (number : Variable → ℤ). map number (variables g ends)) (worth_rows g (upper_worth_row g c.args.bits)) (over_pairs g (λ a o. map (λ k. point_row g c.args.bits (point_at points k) a o) c.args.candidates.now))) in
    let long : length ends ≡ c.states-states.result = length-range_with_len 0 g.shape.states ∙ sym c.states-states.ensures in
    IfOk-then c.finish.result c.finish.ensures (λ p h.
    ap (λ (d : ProgramData). length d.limits) (h ends numbers long all) ∙ limits-long numbers ∙ ap (λ (n : ℕ). n + 1) (length-upper_rows g (upper_worth_row g c.args.bits) (λ k a o. point_row g c.args.bits (point_at points k) a o) c.args.candidates.now))
  where
    limits-long : (numbers : List (Variable → ℤ)) → length (replicate (length numbers) (pos 0) ++ pos 1 ∷ []) ≡ length numbers + 1
    limits-long numbers = length-append (replicate (length numbers) (pos 0)) (pos 1 ∷ []) ∙ omega (arith, length-replicate (length numbers) (pos 0))

pub returns-clause-variables : goal.returns-clause-variables
returns-clause-variables c =
    let g : GameData = c.args.game.now in
    let points : List PointData = c.args.points.now.members in
    let ends : List ℕ = below g.shape.states in
    let numbers : List (Variable → ℤ) = worth_rows g (upper_worth_row g c.args.bits) ++ over_pairs g (λ a o. map (λ k. point_row g c.args.bits (point_at points k) a o) c.args.candidates.now) in
    let first : map (λ row. row.items) c.push_worth_rows.new.rows.items ≡ over_all (variables g ends) (worth_rows g (upper_worth_row g c.args.bits)) =
    c.in_ok-push_worth_rows.ensures ∙ ap (λ (rows : List _). map (λ row. row.items) rows ++ over_all (variables g ends) (worth_rows g (upper_worth_row g c.args.bits))) c.in_ok-rows.ensures.items in
    let all : map (λ row. row.items) c.push_point_rows.new.rows.items ≡ over_all (variables g ends) numbers =
    c.in_ok-push_point_rows.ensures
    ∙ ap (λ (rows : List (List ℤ)). rows ++ over_all (variables g ends) (over_pairs g (λ a o. map (λ k. point_row g c.args.bits (point_at points k) a o) c.args.candidates.now))) first
    ∙ sym (map-append (λ (number : Variable → ℤ). map number (variables g ends)) (worth_rows g (upper_worth_row g c.args.bits)) (over_pairs g (λ a o. map (λ k. point_row g c.args.bits (point_at points k) a o) c.args.candidates.now))) in
    let long : length ends ≡ c.states-states.result = length-range_with_len 0 g.shape.states ∙ sym c.states-states.ensures in
    IfOk-then c.finish.result c.finish.ensures (λ p h.
    ap (λ (d : ProgramData). length d.goal) (h ends numbers long all) ∙ length-mapped (goal_at c.args.belief.now c.args.bits) (variables g ends) ∙ length-variables g ends ∙ ap (λ (n : ℕ). g.shape.states + g.shape.own_actions + g.shape.own_actions * g.shape.observations * n) (length-range_with_len 0 g.shape.states))
