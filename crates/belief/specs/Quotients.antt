-- Numbers divided by one divisor.
use Rattle.std.specs.Prelude.{ℕ, ℤ, pos, ◌/◌, List, map, unsigned_abs}

-- the quotients rounded down, of numbers that are not negative
abbrev pub quotients : ℕ → List ℤ → List ℤ
quotients divisor numbers = map (λ x. pos (unsigned_abs x / divisor)) numbers
