-- Rows about one own action and one observation.
use Rattle.std.specs.Prelude.{ℕ, ℤ, pos, List, map, ◌≡◌}
use Rattle.stage_game.specs.Variables.{GoesOn, Plays, Variable, WorthOf}

-- A row has one number at the own action a, a block of numbers where play goes on after a and the observation o, and
-- 0 elsewhere.
pub record IsPairRow (row : Variable → ℤ) (a o : ℕ) (own : ℤ) (ends : List ℕ) (block : List ℤ) : Type 0 where
  pub worth : (s : ℕ) → row (WorthOf s) ≡ pos 0
  pub action : row (Plays a) ≡ own
  pub other_actions : (b : ℕ) → (b ≡ a → ⊥) → row (Plays b) ≡ pos 0
  pub block_is : map (λ k. row (GoesOn a o k)) ends ≡ block
  pub elsewhere : (b p k : ℕ) → (b ≡ a → p ≡ o → ⊥) → row (GoesOn b p k) ≡ pos 0
