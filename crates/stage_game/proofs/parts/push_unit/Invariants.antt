use Rattle.std.proofs.Common.{◌≡◌, ◌++◌, cond, map, ◌==◌}
use Rattle.std.specs.Prelude.{pos}
use Rattle.scaled_num.specs.Sums.{below}
use Rattle.stage_game.proofs.parts.push_unit.Given as goal

abbrev pub invariant-loop-i : goal.invariant-loop-i
invariant-loop-i l = l.row.items ≡ l.initial.row.items ++ map (λ t. cond (t == l.place) (pos 1) (pos 0)) (below l.i)
