use Rattle.scaled_num.specs.Share.{at}
use Rattle.game_model.specs.Bounds.{IsWorthWithin}
use Rattle.game_model.specs.Game.{numbers}
use Rattle.game_model.specs.Seeds.{stage_worth}
use Rattle.backup.specs.Rounds.{IsGreatestOf}
use Rattle.backup.proofs.corners.greatest_worth.Given as goal

abbrev pub invariant-loop-a : goal.invariant-loop-a
invariant-loop-a l = record {
  greatest : IsGreatestOf (λ a. stage_worth (numbers l.fn.game) a (at l.fn.old) l.fn.s l.fn.c) l.a l.most;
  bounded : IsWorthWithin l.fn.game l.most;
}
