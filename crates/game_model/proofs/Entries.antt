-- Lists of pairs of a reward and a row, and the two lists that they stand for.
use Rattle.std.proofs.Common.{List, [], ◌∷◌, map}
use Rattle.std.specs.List.{AllByRecursion}

pub each-unmap : {X Y : Type 0} (f : X → Y) (P Q : Y → Type 0) → ((y : Y) → P y → Q y) → (xs : List X) → AllByRecursion P (map f xs) → AllByRecursion (λ x. Q (f x)) xs
each-unmap f P Q h [] all = tt
each-unmap f P Q h (x ∷ xs) all = (h (f x) all.0, each-unmap f P Q h xs all.1)
