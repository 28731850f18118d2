use Rattle.std.proofs.Common.{◌≡◌, ◌++◌, ℕ, map, flat_map, take}
use Rattle.std.specs.Prelude.{neg_ℤ}
use Rattle.stage_game.specs.LowerProgram.{node_brings}
use Rattle.stage_game.proofs.lower.worth_row.Given as goal

abbrev pub invariant-loop-pair : goal.invariant-loop-pair
invariant-loop-pair l = l.row.items ≡ l.initial.row.items ++ flat_map (λ (p : ℕ × ℕ). map (λ k. neg_ℤ (node_brings l.game l.bits l.nodes.members l.s p.0 l.c p.1 k)) l.candidates) (take l.pair-index l.after)
