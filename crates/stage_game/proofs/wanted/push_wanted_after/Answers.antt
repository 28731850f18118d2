use Rattle.std.proofs.Common.{length, arith}
use Rattle.stage_game.proofs.LowerFitting.{block-inside}
use Rattle.stage_game.proofs.wanted.push_wanted_after.Goals as goal

pub read_price_weights-requires-clause-rows : goal.read_price_weights-requires-clause-rows
read_price_weights-requires-clause-rows c =
    let g = c.args.game.now in
    let inside = block-inside c.args.a c.args.o g.shape.own_actions g.shape.observations (length c.args.candidates.now) c.requires.action c.requires.observation in
    rw (c.states.ensures, c.informed_actions.ensures, c.observations.ensures) (omega (arith, inside, c.requires.rows, c.requires.weights))
