-- What is proved of what nodes are worth: it is one number, and one node is the first that has it.
use Rattle.std.specs.Prelude.{ℕ, ℤ, List, ◌≡◌}
use Rattle.alpha_set.specs.Nodes.{NodeData}
use Rattle.alpha_set.specs.Worth.{IsWorth}

-- nodes are worth one number at a mass, and one node is the first that has it
abbrev pub WorthsAreOne : Type 0
WorthsAreOne =
    (nodes : List NodeData) (mass : List ℤ) (x y : ℤ) (i j : ℕ) →
    IsWorth nodes mass x i → IsWorth nodes mass y j → (x ≡ y) × (i ≡ j)
