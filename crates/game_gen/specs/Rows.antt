-- The reward and the row that a generator gives to a triple of state, own action and informed action.
use Rattle.std.specs.Prelude.{ℕ, ℤ, pos, ◌+◌, ◌*◌, ◌-ℤ◌, ◌==◌, ◌&&◌, ◌≡◌, ◌<◌, List, [], ◌∷◌, ◌++◌, count_by, flat_map, if◌then◌else◌, length, slice_set, ◌-◌}
use Rattle.std.specs.List.{AllByRecursion}
use Rattle.rand_pcg.specs.Lcg.{Lcg}
use Rattle.hsvi_draw.specs.Draws.{draw_at}
use Rattle.scaled_num.specs.Sums.{below}
use Rattle.game_model.specs.declared.parts.Shape.{Shape}
use Rattle.game_model.specs.declared.parts.Landing.{Landing}
use Rattle.game_model.specs.Game.{GameData, IsShape}
use Rattle.game_model.specs.Build.{landing_of}

-- a reward from -9 to 9
abbrev pub reward_drawn : Lcg → ℤ
reward_drawn g = pos (draw_at g 0 19) -ℤ pos 9

-- an observation and a next state, drawn after k other draws
abbrev pub pair_at : Shape → Lcg → ℕ → ℕ × ℕ
pair_at shape g k = (draw_at g k shape.observations, draw_at g (k + 1) shape.states)

-- four pairs, drawn after k other draws
abbrev pub pairs_from : Shape → Lcg → ℕ → List (ℕ × ℕ)
pairs_from shape g k =
    pair_at shape g k ∷ pair_at shape g (k + 2) ∷ pair_at shape g (k + 4) ∷ pair_at shape g (k + 6) ∷ []

-- how often a pair was drawn
abbrev pub times : List (ℕ × ℕ) → ℕ → ℕ → ℕ
times pairs o t = count_by (λ p. (p.0 == o) && (p.1 == t)) pairs

-- the landing of an observation and a next state weighs 25 for each time that the pair was drawn
abbrev pub landing_if_drawn : List (ℕ × ℕ) → ℕ → ℕ → List Landing
landing_if_drawn pairs o t = if times pairs o t == 0 then [] else landing_of o t (pos (25 * times pairs o t)) ∷ []

-- the row of drawn pairs: their landings by rising observation and next state
unfoldable pub row_of : Shape → List (ℕ × ℕ) → List Landing
row_of shape pairs =
    flat_map (λ o. flat_map (λ t. landing_if_drawn pairs o t) (below shape.states)) (below shape.observations)

-- a triple has nine draws: one for its reward, and two for each of four pairs
abbrev pub row_drawn : Shape → Lcg → List Landing
row_drawn shape g = row_of shape (pairs_from shape g 1)

-- a shape whose rows hold four pairs of 25 each
pub record Serves (shape : Shape) : Type 0 where
  pub limits : IsShape shape
  pub total : shape.row_total ≡ pos 100
  pub under : shape.discount.1 ≡ pos 20

-- four pairs of an observation and a state of the shape
pub record ArePairs (shape : Shape) (pairs : List (ℕ × ℕ)) : Type 0 where
  pub four : length pairs ≡ 4
  pub each : AllByRecursion (λ p. (p.0 < shape.observations) × (p.1 < shape.states)) pairs

-- the game in the making with another last row
abbrev pub with_last : GameData → List Landing → GameData
with_last g row = record g { rows = slice_set g.rows (length g.rows - 1) row }

-- the game in the making with one more reward and its row
abbrev pub with_row : GameData → ℤ → List Landing → GameData
with_row g reward row = record g {
  rewards = g.rewards ++ reward ∷ [];
  rows = g.rows ++ row ∷ [];
}
