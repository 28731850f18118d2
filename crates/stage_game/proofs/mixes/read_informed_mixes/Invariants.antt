use Rattle.std.proofs.Common.{◌≡◌, List, [], length}
use Rattle.std.specs.Prelude.{ℤ}
use Rattle.stage_game.specs.Advice.{IsMixRead}
use Rattle.stage_game.specs.Reading.{last_of}
use Rattle.stage_game.proofs.Families.{Adds}
use Rattle.stage_game.proofs.mixes.read_informed_mixes.Given as goal

abbrev pub invariant-loop-s : goal.invariant-loop-s
invariant-loop-s l = record {
  prices : length l.prices.items ≡ l.fn.game.shape.informed_actions;
  weights : length l.weights.items ≡ l.fn.game.shape.informed_actions;
  mix : length l.mix.items ≡ l.fn.game.shape.informed_actions;
  adds : Adds {X = List ℤ} {Y = ℤ} (λ s mix. IsMixRead l.fn.game (last_of l.fn.solver) s mix) (λ mix. mix) l.s [] l.all.items;
}
