-- The dictionary that the solver works on has the goal row last among its rows, with costs, which are minus the goal coefficients.
use Rattle.std.specs.Prelude.{ℤ, neg_ℤ, List, [], ◌∷◌, ◌++◌, map, take, length}
use Rattle.simplex.specs.Dictionary.{Dictionary}
use Rattle.simplex.specs.CostForm.{CostForm, row_of}

-- a goal row with minus its coefficients
abbrev pub turned : List ℤ → List ℤ
turned [] = []
turned (lead ∷ []) = lead ∷ []
turned (lead ∷ constant ∷ coefficients) = lead ∷ constant ∷ map neg_ℤ coefficients

abbrev pub with_costs : Dictionary → CostForm
with_costs d = record { basic = d.basic; out = d.out; rows = d.rows ++ turned d.goal ∷ [] }

abbrev pub with_goal : CostForm → Dictionary
with_goal d = record { basic = d.basic; out = d.out; rows = take (length d.basic) d.rows; goal = turned (row_of d (length d.basic)) }
