-- Pairs whose numbers rise from each place to the next, and few wanted points.
use Rattle.std.proofs.Common.{ℕ, suc, ◌<◌, ◌≤◌, List, [], ◌∷◌, length, get_or, arith, not}
use Rattle.std.specs.Prelude.{ℤ, pos}
use Rattle.std.specs.Prelude.{◌^◌}
use Rattle.std.specs.List.{AllByRecursion}
use Rattle.std.proofs.lemmas.List.Sums.{count_by-le-length, length-filter}
use Rattle.game_model.specs.Game.{IsWithin}
use Rattle.point_set.specs.Points.{PointData}
use Rattle.point_set.specs.Sawtooth.{AreCorners}
use Rattle.point_set.specs.Split.{AreRisingPairs, IsWanted, is_corner}

pub rising-from : (pairs : List (ℕ × ℤ)) → ((k : ℕ) → suc k < length pairs → (get_or pairs k (0, pos 0)).0 < (get_or pairs (suc k) (0, pos 0)).0) → AreRisingPairs pairs
rising-from [] h = tt
rising-from (x ∷ []) h = tt
rising-from (x ∷ y ∷ rest) h = (h 0 (omega arith), rising-from (y ∷ rest) (λ k l. h (suc k) (omega arith)))

-- at most eight points are wanted, so at most eight that are no corners
pub right_wanted : (points : List PointData) (states : ℕ) (corners : List ℕ) (wanted : List (ℕ × ℤ)) → AreCorners points states (λ s. get_or corners s 0) → 1 ≤ length wanted → length wanted ≤ 8 → AreRisingPairs wanted →
    AllByRecursion (λ want. want.0 < length points) wanted → AllByRecursion (λ want. IsWithin (pos 0) (pos (2 ^ 30)) want.1) wanted → IsWanted points states wanted
right_wanted points states corners wanted current some most rising inside weights =
    let other = λ (want : ℕ × ℤ). not (is_corner (λ s. get_or corners s 0) states want.0) in
    record {
      some = some;
      rising = rising;
      inside = inside;
      weights = weights;
      corners = λ s. get_or corners s 0;
      current = current;
      few = omega (arith, length-filter other wanted, count_by-le-length other wanted);
    }
