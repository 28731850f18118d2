use Rattle.std.proofs.Common.{sym, subst}
use Rattle.game_model.specs.Game.{IsMass}
use Rattle.stage_game.proofs.RightMasses.{mass-right}
use Rattle.closing.proofs.branches.write_mass.Goals as goal

pub returns : goal.returns
returns c =
    subst (IsMass c.args.game.now) (sym c.mass.ensures.list)
    (mass-right c.args.game.now c.law_game.ensures.accepted c.args.belief.now c.requires.belief.right c.args.informed.now c.requires.informed c.args.a c.args.o c.requires.own c.requires.seen)
