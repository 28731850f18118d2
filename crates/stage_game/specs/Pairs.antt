-- Pairs of numbers in order, the second one running faster.
use Rattle.std.specs.Prelude.{ℕ, List, flat_map, map}
use Rattle.scaled_num.specs.Sums.{below}

-- all pairs of a first number below m and a second one below n
abbrev pub pairs : ℕ → ℕ → List (ℕ × ℕ)
pairs m n = flat_map (λ i. map (λ j. (i, j)) (below n)) (below m)
