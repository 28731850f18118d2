use Rattle.scaled_num.specs.Share.{at}
use Rattle.game_model.specs.Bounds.{IsWithinSpan}
use Rattle.game_model.specs.Game.{numbers}
use Rattle.backup.specs.Rounds.{IsReplyAmong}
use Rattle.backup.proofs.corners.reply.Given as goal

abbrev pub invariant-loop-c : goal.invariant-loop-c
invariant-loop-c l = record {
  reply : IsReplyAmong (numbers l.fn.game) (at l.fn.old) l.fn.s l.c l.chosen l.least;
  bounded : IsWithinSpan l.fn.game l.least;
}
