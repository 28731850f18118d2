use Rattle.std.specs.Prelude.{pos, slice_index_or}
use Rattle.game_model.specs.Bounds.{IsBounded}
use Rattle.game_model.specs.Game.{numbers, span}
use Rattle.game_model.specs.Seeds.{IsSeedAfter}
use Rattle.game_model.proofs.seeds.settle.Given as goal

abbrev pub invariant-loop-round : goal.invariant-loop-round
invariant-loop-round l = record {
  seed : IsSeedAfter (numbers l.fn.game) (span l.fn.game) l.fn.a l._round (λ s. slice_index_or l.out s (pos 0));
  bounded : IsBounded l.fn.game l.out;
}
