-- The masses that a benchmark takes are masses of its game.
use Rattle.std.proofs.Common.{◌≡◌, ◌^◌, ◌≤◌, List, length, arith}
use Rattle.std.specs.Prelude.{ℤ, pos, ◌*ℤ◌, ◌≤ℤ◌}
use Rattle.std.specs.List.{AllByRecursion}
use Rattle.std.proofs.lemmas.Int.{ints}
use Rattle.scaled_num.specs.Sums.{sum_of}
use Rattle.scaled_num.proofs.Sums.{each-at, sum-most}
use Rattle.game_model.specs.Game.{GameData, IsGame, IsMass, IsWithin}
use Rattle.scaled_num.proofs.Each.{each-by-place}

-- the sum of a mass fits its type
pub small_sum : (mass : List ℤ) → length mass ≤ 16 → AllByRecursion (IsWithin (pos 0) (pos (2 ^ 36))) mass → sum_of mass ≤ℤ pos (2 ^ 126)
small_sum mass few parts = omega (arith, ints, sum-most (2 ^ 36) mass parts)

pub right_mass : (g : GameData) (mass : List ℤ) → IsGame g → length mass ≡ g.shape.states → AllByRecursion (IsWithin (pos 0) (pos (2 ^ 36))) mass → sum_of mass ≤ℤ pos (2 ^ 36) → IsMass g mass
right_mass g mass accepted long parts light = record {
  long = long;
  each = each-by-place (λ x. pos 0 ≤ℤ x) (pos 0) mass (λ k l. (each-at (IsWithin (pos 0) (pos (2 ^ 36))) (pos 0) mass k parts l).0);
  most = room (sum_of mass) g.shape.row_total light accepted.shape.row_total.0;
}
  where
    room : (a t : ℤ) → a ≤ℤ pos (2 ^ 36) → pos 1 ≤ℤ t → a ≤ℤ (pos (2 ^ 36) *ℤ t)
    room a t light some = omega (arith, ints)
