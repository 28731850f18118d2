-- A game in the making with another last row.
use Rattle.std.proofs.Common.{◌≡◌, ℕ, ◌-◌, List, [], ◌∷◌, ◌++◌, length, ℤ, refl, ap, ◌∙◌, arith}
use Rattle.std.specs.Prelude.{slice_index_or, slice_set}
use Rattle.std.proofs.lemmas.List.{get_or_at, get_or-set_same, length-set, length_push, set_at, set-get_or, set-set}
use Rattle.game_model.specs.declared.parts.Landing.{Landing}
use Rattle.game_model.specs.Game.{GameData}
use Rattle.game_model.specs.Build.{IsBegun, last_row, with_step}
use Rattle.game_gen.specs.Rows.{with_last, with_row}

abbrev with_rows : GameData → List (List Landing) → GameData
with_rows g rows = record g { rows = rows }

pub last_row-with_last : (g : GameData) (row : List Landing) → IsBegun g → last_row (with_last g row) ≡ row
last_row-with_last g row begun =
    let rows = slice_set g.rows (length g.rows - 1) row in
    ap (λ (n : ℕ). slice_index_or rows (n - 1) []) (length-set g.rows (length g.rows - 1) row)
    ∙ get_or-set_same g.rows (length g.rows - 1) row [] (omega arith)

pub with_last-with_last : (g : GameData) (row other : List Landing) → with_last (with_last g row) other ≡ with_last g other
with_last-with_last g row other =
    let rows = slice_set g.rows (length g.rows - 1) row in
    ap (with_rows g)
    (ap (λ (n : ℕ). slice_set rows (n - 1) other) (length-set g.rows (length g.rows - 1) row)
    ∙ set-set g.rows (length g.rows - 1) row other)

pub with_last-last_row : (g : GameData) → with_last g (last_row g) ≡ g
with_last-last_row g = ap (with_rows g) (set-get_or g.rows (length g.rows - 1) [])

-- one piece more at the end of the last row
pub with_last-more : (g now new : GameData) (row piece : List Landing) → IsBegun g → now ≡ with_last g row → new ≡ with_last now (last_row now ++ piece) → new ≡ with_last g (row ++ piece)
with_last-more g now new row piece begun e f =
    f
    ∙ ap (λ (x : GameData). with_last x (last_row x ++ piece)) e
    ∙ ap (λ (r : List Landing). with_last (with_last g row) (r ++ piece)) (last_row-with_last g row begun)
    ∙ with_last-with_last g row (row ++ piece)

-- a row that is begun and then filled
pub with_last-step : (g : GameData) (reward : ℤ) (row : List Landing) → with_last (with_step g reward) row ≡ with_row g reward row
with_last-step g reward row =
    let n : length (g.rows ++ [] ∷ []) - 1 ≡ length g.rows = omega (arith, length_push g.rows []) in
    ap (with_rows (with_row g reward row))
    (ap (λ (k : ℕ). slice_set (g.rows ++ [] ∷ []) k row) n ∙ set_at g.rows [] [] row (length g.rows) refl)

pub last_row-step : (g : GameData) (reward : ℤ) → last_row (with_step g reward) ≡ []
last_row-step g reward =
    let n : length (g.rows ++ [] ∷ []) - 1 ≡ length g.rows = omega (arith, length_push g.rows []) in
    ap (λ (k : ℕ). slice_index_or (g.rows ++ [] ∷ []) k []) n ∙ get_or_at g.rows [] [] [] (length g.rows) refl

pub is_begun-step : (g : GameData) (reward : ℤ) → IsBegun (with_step g reward)
is_begun-step g reward = omega (arith, length_push g.rows [])
