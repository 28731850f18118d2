-- How many rows and variables stage programs have.
use Rattle.std.proofs.Common.{◌≡◌, ℕ, zero, suc, ◌<◌, ◌≤◌, ◌+◌, ◌*◌, ◌^◌, ◌++◌, ◌∷◌, [], List, length, map, replicate, refl, ap, ◌∙◌, arith}
use Rattle.std.specs.Prelude.{ℤ, pos, flat_map}
use Rattle.std.proofs.lemmas.List.{length-append, length-map}
use Rattle.std.proofs.lemmas.List.FromFn.{length-map-range_with_len, length-range_with_len}
use Rattle.std.proofs.Math.Nat.{mul-le-mul}
use Rattle.scaled_num.specs.Sums.{below}
use Rattle.alpha_set.specs.Nodes.{NodeData}
use Rattle.game_model.specs.Game.{GameData, IsShape}
use Rattle.point_set.specs.Corners.{point_at}
use Rattle.point_set.specs.Points.{PointData}
use Rattle.simplex.specs.Program.{row_count, variable_count}
use Rattle.simplex.specs.declared.Program.{Program}
use Rattle.stage_game.specs.Asked.{lower_rows, lower_variables, upper_rows, upper_variables}
use Rattle.stage_game.specs.LowerProgram.{going_on_row, lower_program, lower_worth_row}
use Rattle.stage_game.specs.Masses.{over_pairs}
use Rattle.stage_game.specs.Scaling.{goal_at, worth_rows}
use Rattle.stage_game.specs.UpperProgram.{point_row, upper_program, upper_worth_row}
use Rattle.stage_game.specs.Variables.{GoesOn, Plays, ProgramData, Variable, WorthOf, program_data, variables}
use Rattle.stage_game.proofs.Families.{blocks-long}

pairs-long : {X : Type 0} (g : GameData) (f : ℕ → ℕ → List X) (count : ℕ) → ((a o : ℕ) → length (f a o) ≡ count) → length (over_pairs g f) ≡ g.shape.own_actions * (g.shape.observations * count)
pairs-long g f count h =
    blocks-long (λ a. flat_map (λ o. f a o) (below g.shape.observations)) (g.shape.observations * count) 0 g.shape.own_actions
    (λ a l. blocks-long (λ o. f a o) count 0 g.shape.observations (λ o l. h a o))

variables-long : (g : GameData) (ends : List ℕ) → length (variables g ends) ≡ g.shape.states + g.shape.own_actions + g.shape.own_actions * g.shape.observations * length ends
variables-long g ends =
    let going : List Variable = over_pairs g (λ a o. map (GoesOn a o) ends) in
    omega (
      arith,
      length-append (map WorthOf (below g.shape.states)) (map Plays (below g.shape.own_actions) ++ going),
      length-append (map Plays (below g.shape.own_actions)) going,
      length-map-range_with_len WorthOf 0 g.shape.states,
      length-map-range_with_len Plays 0 g.shape.own_actions,
      pairs-long g (λ a o. map (GoesOn a o) ends) (length ends) (λ a o. length-map ends (GoesOn a o)),
    )

worth-long : (g : GameData) (row : ℕ → ℕ → Variable → ℤ) → length (worth_rows g row) ≡ g.shape.states * g.shape.informed_actions
worth-long g row =
    blocks-long (λ s. map (λ c. row s c) (below g.shape.informed_actions)) g.shape.informed_actions 0 g.shape.states
    (λ s l. length-map-range_with_len (λ c. row s c) 0 g.shape.informed_actions)

limits-long : (count : ℕ) → length (replicate count (pos 0) ++ pos 1 ∷ []) ≡ count + 1
limits-long zero = refl
limits-long (suc count) = ap suc (limits-long count) ∙ omega arith

program-variables : (p : Program) (data_of : ProgramData) → program_data p ≡ data_of → variable_count p ≡ length data_of.goal
program-variables p data_of e = ap (λ (d : ProgramData). length d.goal) e

program-rows : (p : Program) (data_of : ProgramData) → program_data p ≡ data_of → row_count p ≡ length data_of.limits
program-rows p data_of e = ap (λ (d : ProgramData). length d.limits) e

pub lower-variables : (p : Program) (g : GameData) (belief : List ℤ) (nodes : List NodeData) (candidates : List ℕ) (bits : ℕ) → program_data p ≡ lower_program g belief nodes candidates bits
    → variable_count p ≡ lower_variables g (length candidates)
lower-variables p g belief nodes candidates bits e =
    program-variables p (lower_program g belief nodes candidates bits) e ∙ length-map (variables g candidates) (goal_at belief bits) ∙ variables-long g candidates

pub lower-rows : (p : Program) (g : GameData) (belief : List ℤ) (nodes : List NodeData) (candidates : List ℕ) (bits : ℕ) → program_data p ≡ lower_program g belief nodes candidates bits
    → row_count p ≡ lower_rows g
lower-rows p g belief nodes candidates bits e =
    let worth : List (Variable → ℤ) = worth_rows g (lower_worth_row g bits nodes) in
    let going : List (Variable → ℤ) = over_pairs g (λ a o. going_on_row a o ∷ []) in
    program-rows p (lower_program g belief nodes candidates bits) e ∙ limits-long (length (worth ++ going))
    ∙ (let all : length (worth ++ going) + 1 ≡ lower_rows g =
    omega (arith, length-append worth going, worth-long g (lower_worth_row g bits nodes), pairs-long g (λ a o. going_on_row a o ∷ []) 1 (λ a o. refl)) in all)

pub upper-variables : (p : Program) (g : GameData) (belief : List ℤ) (points : List PointData) (candidates : List ℕ) (bits : ℕ) → program_data p ≡ upper_program g belief points candidates bits
    → variable_count p ≡ upper_variables g
upper-variables p g belief points candidates bits e =
    program-variables p (upper_program g belief points candidates bits) e ∙ length-map (variables g (below g.shape.states)) (goal_at belief bits) ∙ variables-long g (below g.shape.states)
    ∙ ap (λ (n : ℕ). g.shape.states + g.shape.own_actions + g.shape.own_actions * g.shape.observations * n) (length-range_with_len 0 g.shape.states)

pub upper-rows : (p : Program) (g : GameData) (belief : List ℤ) (points : List PointData) (candidates : List ℕ) (bits : ℕ) → program_data p ≡ upper_program g belief points candidates bits
    → row_count p ≡ upper_rows g (length candidates)
upper-rows p g belief points candidates bits e =
    let worth : List (Variable → ℤ) = worth_rows g (upper_worth_row g bits) in
    let after : ℕ → ℕ → List (Variable → ℤ) = λ a o. map (λ k. point_row g bits (point_at points k) a o) candidates in
    program-rows p (upper_program g belief points candidates bits) e ∙ limits-long (length (worth ++ over_pairs g after))
    ∙ (let all : length (worth ++ over_pairs g after) + 1 ≡ upper_rows g (length candidates) =
    omega (
      arith,
      length-append worth (over_pairs g after),
      worth-long g (upper_worth_row g bits),
      pairs-long g after (length candidates) (λ a o. length-map candidates (λ k. point_row g bits (point_at points k) a o)),
    ) in all)

-- ---- all of it is small
product-le : (a b most other : ℕ) → a ≤ most → b ≤ other → a * b ≤ most * other
product-le a b most other p q = mul-le-mul p q

pub lower-small : (g : GameData) (count : ℕ) → IsShape g.shape → count ≤ 16 → (lower_variables g count < 2 ^ 32) × (lower_rows g < 2 ^ 32)
lower-small g count shape few =
    let pairs : g.shape.own_actions * g.shape.observations ≤ 6 * 8 = product-le g.shape.own_actions g.shape.observations 6 8 shape.own_actions.1 shape.observations.1 in
    let going : g.shape.own_actions * g.shape.observations * count ≤ 48 * 16 = product-le (g.shape.own_actions * g.shape.observations) count 48 16 pairs few in
    let worth : g.shape.states * g.shape.informed_actions ≤ 16 * 6 = product-le g.shape.states g.shape.informed_actions 16 6 shape.states.1 shape.informed_actions.1 in
    (omega (arith, shape.states.1, shape.own_actions.1), omega arith)

pub upper-small : (g : GameData) (count : ℕ) → IsShape g.shape → count ≤ 24 → (upper_variables g < 2 ^ 32) × (upper_rows g count < 2 ^ 32)
upper-small g count shape few =
    let pairs : g.shape.own_actions * g.shape.observations ≤ 6 * 8 = product-le g.shape.own_actions g.shape.observations 6 8 shape.own_actions.1 shape.observations.1 in
    let going : g.shape.own_actions * g.shape.observations * count ≤ 48 * 24 = product-le (g.shape.own_actions * g.shape.observations) count 48 24 pairs few in
    let next : g.shape.own_actions * g.shape.observations * g.shape.states ≤ 48 * 16 = product-le (g.shape.own_actions * g.shape.observations) g.shape.states 48 16 pairs shape.states.1 in
    let worth : g.shape.states * g.shape.informed_actions ≤ 16 * 6 = product-le g.shape.states g.shape.informed_actions 16 6 shape.states.1 shape.informed_actions.1 in
    (omega (arith, shape.states.1, shape.own_actions.1), omega arith)
