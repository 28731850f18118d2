use Rattle.std.specs.Prelude.{unsigned_abs, ◌*◌}
use Rattle.game_model.specs.Branches.{mix_total}
use Rattle.game_model.specs.Game.{numbers, span}
use Rattle.game_model.specs.Numbers.{over_row}
use Rattle.alpha_set.specs.Members.{entry_at}
use Rattle.alpha_set.proofs.Totals.{SoFar}
use Rattle.alpha_set.proofs.tables.later.Given as goal

abbrev pub invariant-loop-a : goal.invariant-loop-a
invariant-loop-a l =
    SoFar (λ a. over_row (numbers l.fn.game) l.fn.s a l.fn.c (λ o t. entry_at l.fn.table a o t))
    (unsigned_abs l.fn.game.shape.row_total * (mix_total * span l.fn.game)) l.a l.sum
