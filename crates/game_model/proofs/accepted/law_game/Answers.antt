use Rattle.std.proofs.Common.{subst, ◌≤◌, ◌^◌}
use Rattle.game_model.specs.Game.{GameData, numbers, span}
use Rattle.game_model.specs.Seeds.{KeepsSpan}
use Rattle.game_model.proofs.Games.{keeps-span}
use Rattle.game_model.proofs.Worth.{span-small}
use Rattle.game_model.proofs.accepted.law_game.Goals as goal

pub returns-clause-keeps_span : goal.returns-clause-keeps_span
returns-clause-keeps_span c =
    subst (λ (g : GameData). KeepsSpan (numbers g) (span g)) c.game.view_is (keeps-span _ c.game.invariant.game)

pub returns-clause-small_span : goal.returns-clause-small_span
returns-clause-small_span c = subst (λ (g : GameData). span g ≤ 2 ^ 66) c.game.view_is (span-small _ c.game.invariant.game)
