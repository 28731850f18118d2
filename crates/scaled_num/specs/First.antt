-- The first element of a list for which a rule fails.
use Rattle.std.specs.Prelude.{List, ◌++◌, ◌∷◌, ◌≡◌}
use Rattle.std.specs.List.{AllByRecursion}

-- in a list, a rule fails first at this element: it fails there, and holds at each element before it
pub record FirstIn {X : Type 0} (Holds : X → Type 0) (list : List X) (x : X) : Type 0 where
  pub before : List X
  pub after : List X
  pub order : list ≡ before ++ (x ∷ after)
  pub holds : AllByRecursion Holds before
  pub fails : ¬ (Holds x)
