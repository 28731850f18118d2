use Rattle.std.specs.Int.{w128}
use Rattle.std.proofs.Common.{rules, subst, sym}
use Rattle.std.proofs.Math.Facts.{to_z-of_z}
use Rattle.std.specs.Prelude.{pos, slice_index_or}
use Rattle.game_model.specs.Game.{first_at, numbers, span}
use Rattle.promises.specs.Promises.{ActionEarns}
use Rattle.promises.proofs.Promises.{action-earns}
use Rattle.promises.proofs.always_earns.Goals as goal

pub returns-clause-earns : goal.returns-clause-earns
returns-clause-earns c =
    let g = c.args.game.now in
    subst (ActionEarns (numbers g) (first_at g) (span g) c.args.action) (sym (to_z-of_z {w = w128} (search rules)))
    (action-earns c.law_told.ensures (numbers g) (first_at g) (span g) c.args.action c.first_product.result
    (c.law_seeds.ensures.earn (numbers g) (span g) c.args.action (λ s. slice_index_or c.steady.new.out s (pos 0)) (first_at g) c.first_product.result
    c.law_game.ensures.keeps_span c.requires c.steady.ensures.seed (sym c.first_product.ensures)))
