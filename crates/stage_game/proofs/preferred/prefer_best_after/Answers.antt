use Rattle.std.proofs.Common.{subst, sym}
use Rattle.game_model.specs.Game.{GameData, IsMass}
use Rattle.stage_game.proofs.RightMasses.{mass-right}
use Rattle.stage_game.proofs.preferred.prefer_best_after.Goals as goal

pub prefer_best_at-requires : goal.prefer_best_at-requires
prefer_best_at-requires c =
    let g : GameData = c.args.game.now in
    record {
      measured = record {
        game = g;
        accepted = c.law_game.ensures.accepted;
        fit = c.requires.points.fit;
        corners = c.requires.points.corners;
        right = subst (IsMass g) (sym c.mass.ensures.list)
            (mass-right g c.law_game.ensures.accepted c.args.belief.now c.requires.belief.right c.args.mixes.now c.requires.mixes c.args.a c.args.o c.requires.own c.requires.observation);
      };
    }
