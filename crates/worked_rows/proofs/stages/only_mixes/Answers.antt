use Rattle.std.proofs.Common.{[], ◌∷◌, arith, sym, subst}
use Rattle.scaled_num.proofs.Places.{IfOk-then}
use Rattle.stage_game.specs.Fits.{MixesFit}
use Rattle.worked_rows.proofs.SeedsServe.{only-fit}
use Rattle.worked_rows.proofs.stages.only_mixes.Goals as goal

pub returns : goal.returns
returns c =
    IfOk-then c.pure.result c.pure.ensures
    (λ mixes e. subst (MixesFit c.args.game.now) (sym e) (only-fit c.args.game.now (0 ∷ 0 ∷ []) (sym c.requires.states) (omega (arith, c.requires.informed), (omega (arith, c.requires.informed), tt))))
