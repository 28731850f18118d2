use Rattle.std.specs.Prelude.{pos, slice_index_or, ◌^◌, ◌*ℤ◌}
use Rattle.game_model.specs.Game.{reward_at}
use Rattle.alpha_set.proofs.Totals.{SoFar}
use Rattle.alpha_set.proofs.stages.at_once.Given as goal

abbrev pub invariant-loop-a : goal.invariant-loop-a
invariant-loop-a l = SoFar (λ a. slice_index_or l.fn.mix a (pos 0) *ℤ reward_at l.fn.game l.fn.s a l.fn.c) (2 ^ 46) l.a l.sum
