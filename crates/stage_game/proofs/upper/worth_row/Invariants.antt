use Rattle.std.proofs.Common.{◌≡◌, ◌++◌, ℕ, map, flat_map, take}
use Rattle.std.specs.Prelude.{neg_ℤ}
use Rattle.scaled_num.specs.Sums.{below}
use Rattle.stage_game.specs.UpperProgram.{state_brings}
use Rattle.stage_game.proofs.upper.worth_row.Given as goal

abbrev pub invariant-loop-pair : goal.invariant-loop-pair
invariant-loop-pair l = l.row.items ≡ l.initial.row.items ++ flat_map (λ (p : ℕ × ℕ). map (λ t. neg_ℤ (state_brings l.game l.bits l.s p.0 l.c p.1 t)) (below l.game.shape.states)) (take l.pair-index l.after)
