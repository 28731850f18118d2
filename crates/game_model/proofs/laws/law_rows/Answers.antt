use Rattle.game_model.proofs.Steps.{over_row-add, over_row-scale, total-row}
use Rattle.game_model.proofs.laws.law_rows.Goals as goal

pub returns : goal.returns
returns c = record { sum = total-row; add = over_row-add; scale = over_row-scale }
