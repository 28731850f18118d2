use Rattle.std.proofs.Common.{◌≡◌, List, ℤ, length, sym, subst, arith}
use Rattle.alpha_set.specs.Nodes.{IsMix}
use Rattle.stage_game.proofs.ReadWeights.{mix-of}
use Rattle.stage_game.proofs.Vectors.{written-back}
use Rattle.closing.proofs.sharing.own_mix.Goals as goal

pub returns : goal.returns
returns c =
    let mix : List ℤ = c.share.new.out in
    let actions = c.args.game.now.shape.own_actions in
    let long : length mix ≡ actions = omega (arith, c.share.ensures.long, c.in_ok-own.ensures.len) in
    subst (IsMix actions) (sym (written-back mix c.in_ok-own.own.items c.in_ok-own.own.len (omega arith)))
    (mix-of actions mix (record { long = long; not_negative = c.share.ensures.positive; sums = c.share.ensures.whole }))
