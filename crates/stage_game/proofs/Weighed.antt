-- The weights of variables that a loop has written so far.
use Rattle.std.proofs.Common.{ℕ, ◌<◌, ◌≤◌, ◌+◌, ◌*◌, ◌^◌, List, length, refl, arith}
use Rattle.std.specs.Prelude.{ℤ, pos, ◌≤ℤ◌}
use Rattle.std.proofs.lemmas.Int.{ints}
use Rattle.scaled_num.proofs.Each.{each-by-place}
use Rattle.scaled_num.proofs.Floors.{All-at, NoneNegative}
use Rattle.scaled_num.proofs.Sums.{sum-most}
use Rattle.scaled_num.specs.Share.{at}
use Rattle.scaled_num.specs.Sums.{sum_of}
use Rattle.simplex.specs.Dictionary.{Dictionary}
use Rattle.stage_game.specs.Reading.{ArePrimalWeights, IsPrimalWeight}

-- the weight of a variable, 0 to 2^92
pub record IsWeighed (d : Dictionary) (i : ℕ) (weight : ℤ) : Type 0 where
  pub is_weight : IsPrimalWeight d i weight
  pub positive : pos 0 ≤ℤ weight
  pub small : weight ≤ℤ pos (2 ^ 92)

pub all-weighed : (d : Dictionary) (first : ℕ) (weights : List ℤ) → ((k : ℕ) → k < length weights → IsWeighed d (first + k) (at weights k)) → ArePrimalWeights d first (length weights) weights
all-weighed d first weights h = record { long = refl; each = λ i l. (h i l).is_weight }

pub weighed-positive : (d : Dictionary) (first : ℕ) (weights : List ℤ) → ((k : ℕ) → k < length weights → IsWeighed d (first + k) (at weights k)) → NoneNegative weights
weighed-positive d first weights h = All-at (λ x. pos 0 ≤ℤ x) weights (λ i l. (h i l).positive)

pub weighed-small : (d : Dictionary) (first : ℕ) (weights : List ℤ) → length weights ≤ 16 → ((k : ℕ) → k < length weights → IsWeighed d (first + k) (at weights k)) → sum_of weights ≤ℤ pos (2 ^ 100)
weighed-small d first weights short h =
    let most : sum_of weights ≤ℤ pos (length weights * 2 ^ 92) =
    sum-most (2 ^ 92) weights (each-by-place (λ x. (pos 0 ≤ℤ x) × (x ≤ℤ pos (2 ^ 92))) (pos 0) weights (λ i l. ((h i l).positive, (h i l).small))) in
    omega (arith, ints, most)
