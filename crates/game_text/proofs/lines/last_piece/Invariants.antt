use Rattle.std.proofs.Common.{◌≡◌, length}
use Rattle.game_text.specs.Plain.{last_piece}
use Rattle.game_text.proofs.lines.last_piece.Given as goal

abbrev pub invariant-loop-after : goal.invariant-loop-after
invariant-loop-after l = last_piece l.rest ≡ last_piece l.fn.text

abbrev pub decreases-loop-after : goal.decreases-loop-after
decreases-loop-after l = length l.rest
