use Rattle.std.proofs.Common.{◌≡◌, ◌++◌, map, take}
use Rattle.std.specs.Prelude.{neg_ℤ}
use Rattle.stage_game.specs.LowerProgram.{node_brings}
use Rattle.stage_game.proofs.lower.push_block.Given as goal

abbrev pub invariant-loop-k : goal.invariant-loop-k
invariant-loop-k l = l.row.items ≡ l.initial.row.items ++ map (λ k. neg_ℤ (node_brings l.game l.fn.bits l.nodes.members l.fn.s l.fn.a l.fn.c l.fn.o k)) (take l.k-index l.candidates)
