use Rattle.std.proofs.Common.{◌≡◌, List, ℤ, length, sym, subst, arith}
use Rattle.alpha_set.specs.Nodes.{IsMix}
use Rattle.stage_game.proofs.ReadWeights.{mix-of}
use Rattle.stage_game.proofs.Vectors.{written-back, written-long}
use Rattle.stage_game.proofs.mixes.read_own_mix.Goals as goal

pub returns-clause-mix : goal.returns-clause-mix
returns-clause-mix c =
    let mix : List ℤ = c.take_share.new.out in
    let actions = c.args.game.now.shape.own_actions in
    let weights = written-long c.read_primal_weights.new.weights c.in_ok-weights.weights.items c.in_ok-weights.weights.len actions (omega (arith, c.in_ok-weights.ensures.len)) (omega (arith, c.in_ok-weights.ensures.len)) in
    let long : length mix ≡ actions = omega (arith, weights, c.len.ensures, c.in_ok-own.ensures.len, c.in_ok-weights.ensures.len) in
    subst (IsMix actions) (sym (written-back mix c.in_ok-own.own.items c.in_ok-own.own.len (omega arith)))
    (mix-of actions mix (record { long = long; not_negative = c.take_share.ensures.positive; sums = c.take_share.ensures.whole }))
