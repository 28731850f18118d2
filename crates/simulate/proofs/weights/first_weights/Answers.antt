use Rattle.std.proofs.Common.{arith}
use Rattle.std.proofs.lemmas.List.FromFn.{map-range_with_len_more}
use Rattle.game_model.specs.Game.{first_at}
use Rattle.simulate.proofs.weights.first_weights.Goals as goal

pub loop-s-preserved : goal.loop-s-preserved
loop-s-preserved c =
    let more = map-range_with_len_more (first_at c.args.game.now) 0 c.loop-s.s c.loop-s.s (omega arith) in
    grind (arith, more, c.in_ok-push.ensures.items, c.loop-s.invariant)
