-- What is proved of beliefs: numbers have one form in lowest terms, and a mass has one belief.
use Rattle.std.specs.Prelude.{List, ℤ, pos, ◌≡◌, ◌≤ℤ◌}
use Rattle.std.specs.List.{AllByRecursion}
use Rattle.belief.specs.Reduced.{AreLowest, IsReduced}

-- some number is not zero
abbrev pub IsSome : List ℤ → Type 0
IsSome numbers = AllByRecursion (λ x. x ≡ pos 0) numbers → ⊥

-- numbers that are not all zero have one form in lowest terms
abbrev pub LowestAreOne : Type 0
LowestAreOne =
    (numbers lowest others : List ℤ) → IsSome numbers → AreLowest numbers lowest → AreLowest numbers others → lowest ≡ others

-- a mass that is not zero has one belief
abbrev pub ReducedAreOne : Type 0
ReducedAreOne =
    (mass parts others : List ℤ) → AllByRecursion (λ x. pos 0 ≤ℤ x) mass → IsSome mass →
    IsReduced mass parts → IsReduced mass others → parts ≡ others
