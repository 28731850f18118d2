use Rattle.std.proofs.Common.{sym, ap, ◌∙◌}
use Rattle.game_text.specs.Plain.{last_of}
use Rattle.game_text.proofs.Parted.{last_piece-line}
use Rattle.game_text.proofs.lines.last_piece.Goals as goal

pub loop-after-preserved : goal.loop-after-preserved
loop-after-preserved c = sym (last_piece-line c.loop-after.rest.now _ c.in-Some.after.now c.in-Some.ensures.pieces) ∙ c.loop-after.invariant

pub returns : goal.returns
returns c = sym (ap last_of c.in_default.ensures.pieces) ∙ c.loop-after.invariant
