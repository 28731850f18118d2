use Rattle.std.proofs.Common.{◌≡◌}
use Rattle.game_gen.specs.Rows.{with_last}
use Rattle.game_gen.proofs.Places.{landings}
use Rattle.game_gen.proofs.rows.add_landings.Given as goal

abbrev pub invariant-loop-place : goal.invariant-loop-place
invariant-loop-place l = l.builder ≡ with_last l.initial.builder (landings l.shape.states l.pairs l.place)
