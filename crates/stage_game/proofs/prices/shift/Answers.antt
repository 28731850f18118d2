use Rattle.std.proofs.Common.{◌≡◌, length, map, sym, ◌∙◌, arith}
use Rattle.std.specs.Prelude.{pos}
use Rattle.std.proofs.lemmas.List.{ext_get_or}
use Rattle.stage_game.specs.Reading.{shifted}
use Rattle.stage_game.proofs.Shifted.{left-at, length-left}
use Rattle.stage_game.proofs.prices.shift.Goals as goal

pub returns : goal.returns
returns c =
    ext_get_or (pos 0) c.loop-place.weights (map pos (shifted c.args.bits c.args.prices.now))
    (let long : length c.loop-place.weights ≡ length (map pos (shifted c.args.bits c.args.prices.now)) = omega (arith, length-left c.args.prices.now c.args.bits) in long)
    (λ i l. c.loop-place.invariant i (omega arith) ∙ sym (left-at c.args.prices.now c.args.bits i (omega arith)))
