use Rattle.scaled_num.specs.Share.{at}
use Rattle.game_model.specs.Bounds.{IsBounded}
use Rattle.game_model.specs.Game.{numbers, span}
use Rattle.backup.specs.Seeds.{AreCornersAfter}
use Rattle.backup.proofs.corners.settle.Given as goal

abbrev pub invariant-loop-round : goal.invariant-loop-round
invariant-loop-round l = record {
  corners : AreCornersAfter (numbers l.fn.game) (span l.fn.game) l._round (at l.values);
  bounded : IsBounded l.fn.game l.values;
}
