-- Weights that are all on one action.
use Rattle.std.specs.Prelude.{ℕ, ℤ, pos, List, replicate, slice_set}
use Rattle.game_model.specs.Branches.{mix_total}

abbrev pub sure : ℕ → ℕ → List ℤ
sure actions chosen = slice_set (replicate actions (pos 0)) chosen (pos mix_total)
