use Rattle.std.proofs.Common.{◌≡◌, List, [], length}
use Rattle.std.specs.Prelude.{ℤ, pos}
use Rattle.game_model.specs.Branches.{mix_total}
use Rattle.stage_game.proofs.Families.{Adds}
use Rattle.stage_game.proofs.SharedTotals.{ArePartsOf}
use Rattle.closing.proofs.sharing.informed_mixes.Given as goal

abbrev pub invariant-loop-s : goal.invariant-loop-s
invariant-loop-s l = record {
  mix : length l.mix.items ≡ l.fn.game.shape.informed_actions;
  adds : Adds {X = List ℤ} {Y = ℤ} (λ s mix. ArePartsOf (pos mix_total) l.fn.game.shape.informed_actions mix) (λ mix. mix) l.s [] l.all.items;
}
