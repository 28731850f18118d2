use Rattle.std.specs.Prelude.{ℕ, [], slice_index_or, ◌<◌}
use Rattle.game_model.specs.Game.{IsMass}
use Rattle.sets_bench.proofs.limits.are_masses.Given as goal

abbrev pub invariant-loop-mass : goal.invariant-loop-mass
invariant-loop-mass l = (k : ℕ) → k < l.mass-index → IsMass l.game (slice_index_or l.masses k [])
