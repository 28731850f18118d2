use Rattle.std.proofs.Common.{◌≡◌, map}
use Rattle.scaled_num.specs.Sums.{below}
use Rattle.stage_game.specs.Scaling.{goal_at}
use Rattle.stage_game.specs.Variables.{WorthOf}
use Rattle.stage_game.proofs.programs.goal_row.Given as goal

abbrev pub invariant-loop-s : goal.invariant-loop-s
invariant-loop-s l = l.row.items ≡ map (λ s. goal_at l.belief l.bits (WorthOf s)) (below l.s)
