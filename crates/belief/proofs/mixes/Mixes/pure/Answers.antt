use Rattle.std.proofs.Common.{◌≡◌, ap, arith, drop, length}
use Rattle.belief.proofs.Choices.{pure-front, sures-long}
use Rattle.belief.proofs.mixes.Mixes.pure.Goals as goal

pub invariant_of-result : goal.invariant_of-result
invariant_of-result c =
    let long : length c.choose.new.weights ≡ c.in_ok-weights.weights.len = omega (arith, ap length c.choose.ensures, sures-long c.informed_actions-actions.result c.args.choice.now, c.in_ok-weights.ensures.len) in
    pure-front c.args.game.now c.law_game.ensures.accepted c.args.choice.now c.requires.states c.requires.actions c.states.result c.informed_actions-actions.result c.in_ok-weights.weights.len
    c.choose.new.weights (drop (length c.choose.new.weights) c.in_ok-weights.weights.items) c.states.ensures c.informed_actions-actions.ensures c.choose.ensures long
