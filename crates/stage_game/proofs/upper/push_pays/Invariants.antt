use Rattle.std.proofs.Common.{◌≡◌, ◌++◌, map}
use Rattle.std.specs.Prelude.{neg_ℤ}
use Rattle.scaled_num.specs.Sums.{below}
use Rattle.stage_game.specs.Scaling.{ceil_of, paid_above, pay_width}
use Rattle.stage_game.proofs.upper.push_pays.Given as goal

abbrev pub invariant-loop-a : goal.invariant-loop-a
invariant-loop-a l = l.row.items ≡ l.initial.row.items ++ map (λ a. neg_ℤ (ceil_of (paid_above l.game l.bits l.s a l.c) (pay_width l.game))) (below l.a)
