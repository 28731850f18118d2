use Rattle.std.proofs.Common.{subst, sym}
use Rattle.game_model.specs.Game.{GameData, IsMass}
use Rattle.stage_game.proofs.RightMasses.{mass-right}
use Rattle.closing.proofs.going.by_nodes.Goals as goal

pub worth-value-requires-clause-weighed : goal.worth-value-requires-clause-weighed
worth-value-requires-clause-weighed c =
    let g : GameData = c.args.game.now in
    record {
      game = g;
      accepted = c.law_game.ensures.accepted;
      fit = c.requires.nodes.fit;
      right = subst (IsMass g) (sym c.mass.ensures.list)
          (mass-right g c.law_game.ensures.accepted c.args.belief.now c.requires.belief.right c.args.mixes.now c.requires.mixes c.args.a c.args.o c.requires.own c.requires.seen);
    }
