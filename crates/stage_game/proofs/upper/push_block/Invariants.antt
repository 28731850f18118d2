use Rattle.std.proofs.Common.{◌≡◌, ◌++◌, map}
use Rattle.std.specs.Prelude.{neg_ℤ}
use Rattle.scaled_num.specs.Sums.{below}
use Rattle.stage_game.specs.UpperProgram.{state_brings}
use Rattle.stage_game.proofs.upper.push_block.Given as goal

abbrev pub invariant-loop-t : goal.invariant-loop-t
invariant-loop-t l = l.row.items ≡ l.initial.row.items ++ map (λ t. neg_ℤ (state_brings l.game l.fn.bits l.fn.s l.fn.a l.fn.c l.fn.o t)) (below l.t)
