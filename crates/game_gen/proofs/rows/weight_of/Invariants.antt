use Rattle.std.proofs.Common.{◌≡◌, ◌*◌, pos, take}
use Rattle.game_gen.specs.Rows.{times}
use Rattle.game_gen.proofs.rows.weight_of.Given as goal

abbrev pub invariant-loop-pair : goal.invariant-loop-pair
invariant-loop-pair l = l.weight ≡ pos (25 * times (take l.pair-index l.pairs) l.seen l.to)
