-- What the rounds that settle the values of the corners form.
use Rattle.std.specs.Prelude.{ℕ, ℤ, List, length, slice_index_or, ◌≡◌, ◌<◌, ◌≤ℤ◌, ◌<ℤ◌}
use Rattle.std.specs.List.{AllByRecursion}
use Rattle.scaled_num.specs.Share.{at}
use Rattle.game_model.specs.Game.{GameData, IsGame, numbers, span}
use Rattle.game_model.specs.Numbers.{Numbers}
use Rattle.backup.specs.Seeds.{AreCornerValues, IsGreatestCeil}

-- the greatest of the first n values of f
pub record IsGreatestOf (f : ℕ → ℤ) (n : ℕ) (x : ℤ) : Type 0 where
  pub each : (k : ℕ) → k < n → f k ≤ℤ x
  pub some : (k : ℕ) × (k < n) × (x ≡ f k)

-- c is the first of the first n informed actions against which player one gets the least, x
pub record IsReplyAmong (g : Numbers) (old : ℕ → ℤ) (s n c : ℕ) (x : ℤ) : Type 0 where
  pub informed : c < n
  pub here : IsGreatestCeil g old s c x
  pub least : (d : ℕ) (y : ℤ) → d < n → IsGreatestCeil g old s d y → x ≤ℤ y
  pub first : (d : ℕ) (y : ℤ) → d < c → IsGreatestCeil g old s d y → x <ℤ y

-- what all rounds leave: the values of the corners, and the replies there
pub record AreSettled (g : GameData) (values : List ℤ) (replies : List ℕ) : Type 0 where
  pub accepted : IsGame g
  pub long : length values ≡ g.shape.states
  pub count : length replies ≡ g.shape.states
  pub informed : AllByRecursion (λ c. c < g.shape.informed_actions) replies
  pub corners : AreCornerValues (numbers g) (span g) (at values) (λ s. slice_index_or replies s 0)
