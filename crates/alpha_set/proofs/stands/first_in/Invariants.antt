use Rattle.std.specs.Prelude.{ℕ, ◌<◌}
use Rattle.game_model.specs.Game.{numbers}
use Rattle.alpha_set.specs.Members.{HoldsBy, node_data}
use Rattle.alpha_set.specs.Nodes.{node_of}
use Rattle.alpha_set.proofs.stands.first_in.Given as goal

abbrev pub invariant-loop-c : goal.invariant-loop-c
invariant-loop-c l = (d : ℕ) → d < l.c → HoldsBy (numbers l.fn.game) (node_of (node_data l.fn.node)) l.fn.table l.fn.s d
