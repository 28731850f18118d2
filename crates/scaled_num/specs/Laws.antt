-- What is proved of floors and shares: there is one of each.
use Rattle.std.specs.Prelude.{List, ℤ, pos, ◌≡◌, ◌≤ℤ◌, ◌<ℤ◌}
use Rattle.std.specs.List.{AllByRecursion}
use Rattle.scaled_num.specs.Share.{IsFloor, IsShared}

-- a quotient by a positive number has one floor
abbrev pub FloorsAreOne : Type 0
FloorsAreOne = (quotient other a b : ℤ) → pos 0 <ℤ b → IsFloor quotient a b → IsFloor other a b → quotient ≡ other

-- weights that are not negative share a total in one way
abbrev pub SharesAreOne : Type 0
SharesAreOne =
    (weights : List ℤ) (total : ℤ) (shares others : List ℤ) → AllByRecursion (λ x. pos 0 ≤ℤ x) weights →
    IsShared weights total shares → IsShared weights total others → shares ≡ others
