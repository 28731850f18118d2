-- What the solver keeps true of its memory.
use Rattle.std.specs.Prelude.{◌+◌, ◌<◌, ◌≤◌, ◌≡◌, ◌^◌, true, false, cond, [], length, Some, None}
use Rattle.std.specs.Vec.{vec_capacity}
use Rattle.simplex.specs.declared.solver.Solver.TheInside.{Inside}
use Rattle.simplex.specs.Forms.{with_goal}
use Rattle.simplex.specs.Tableau.{cost_form_of, IsStanding, HasRoom, RowsHold}
use Rattle.simplex.specs.Solver.{State}

abbrev pub state_of : Inside → State
state_of s = record { most_rows = s.rows; most_variables = s.variables; last = cond s.has_run (Some (with_goal (cost_form_of s.tableau))) None }

-- the rows that are reserved stand in the tableau or among the spare ones
pub record IsReserved (s : Inside) : Type 0 where
  pub rows : length s.tableau.rows.items + length s.spare.items ≡ s.rows + 1
  pub next : length s.tableau.next.items + length s.spare_next.items ≡ s.rows + 1
  pub tableau : HasRoom (s.rows + 1) (s.variables + 2) s.tableau
  pub spare_room : s.rows + 1 ≤ vec_capacity s.spare
  pub spare_next_room : s.rows + 1 ≤ vec_capacity s.spare_next
  pub each_spare : RowsHold (s.variables + 2) s.spare.items
  pub each_spare_next : RowsHold (s.variables + 2) s.spare_next.items

pub record IsSound (s : Inside) : Type 0 where
  pub few_rows : s.rows < 2 ^ 30
  pub few_variables : s.variables < 2 ^ 30
  pub reserved : 0 < s.rows → IsReserved s
  pub standing : s.has_run ≡ true → IsStanding (cost_form_of s.tableau)
  pub nothing : s.has_run ≡ false → s.tableau.basic.items ≡ []
