use Rattle.std.proofs.Common.{◌^◌, arith}
use Rattle.std.specs.Prelude.{ℤ, pos, ◌*ℤ◌, ◌≤ℤ◌}
use Rattle.std.proofs.lemmas.Int.{ints}
use Rattle.scaled_num.specs.Sums.{sum_of}
use Rattle.closing.proofs.branches.brought.Goals as goal

light : (x d : ℤ) → x ≤ℤ (pos (2 ^ 36) *ℤ d) → d ≤ℤ pos (2 ^ 30) → x ≤ℤ pos (2 ^ 100)
light x d h l = omega (arith, ints)

pub reduce-requires-clause-weights : goal.reduce-requires-clause-weights
reduce-requires-clause-weights c = c.requires.mass.each

pub reduce-requires-clause-total : goal.reduce-requires-clause-total
reduce-requires-clause-total c = light (sum_of c.args.mass.now) c.args.game.now.shape.row_total c.requires.mass.most c.law_game.ensures.accepted.shape.row_total.1
