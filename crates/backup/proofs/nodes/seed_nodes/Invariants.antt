use Rattle.std.proofs.Common.{ℕ, ◌<◌, ◌≡◌, length}
use Rattle.std.specs.Prelude.{slice_index_or}
use Rattle.alpha_set.specs.Nodes.{no_node}
use Rattle.backup.specs.Seeds.{IsSeedNode}
use Rattle.backup.proofs.nodes.seed_nodes.Given as goal

abbrev pub invariant-loop-a : goal.invariant-loop-a
invariant-loop-a l = record {
  count : length l.nodes.members ≡ l.a;
  each : (k : ℕ) → k < l.a → IsSeedNode l.fn.game k (slice_index_or l.nodes.members k no_node);
}
