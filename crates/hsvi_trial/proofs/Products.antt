-- The entries of a node's vector are small.
use Rattle.std.proofs.Common.{ℕ, ◌^◌, ◌≤◌, arith}
use Rattle.std.specs.Prelude.{ℤ, pos, neg_ℤ, unsigned_abs}
use Rattle.std.specs.List.{AllByRecursion}
use Rattle.std.proofs.lemmas.Int.{ints}
use Rattle.game_model.specs.Game.{GameData, IsWithin, span}
use Rattle.game_model.proofs.Pay.{each-from}
use Rattle.alpha_set.specs.Nodes.{NodeData, NodeFits}

small-entry : (V : ℕ) (x : ℤ) → V ≤ 2 ^ 66 → IsWithin (neg_ℤ (pos V)) (pos V) x → unsigned_abs x ≤ 2 ^ 70
small-entry V x small h = let low = h.0 in let high = h.1 in omega (arith, ints)

pub small-entries : (g : GameData) (nodes : ℕ) (node : NodeData) → span g ≤ 2 ^ 66 → NodeFits g nodes node → AllByRecursion (λ x. unsigned_abs x ≤ 2 ^ 70) node.vector
small-entries g nodes node small fits =
    each-from (IsWithin (neg_ℤ (pos (span g))) (pos (span g))) (λ x. unsigned_abs x ≤ 2 ^ 70) node.vector (λ x h. small-entry (span g) x small h) fits.entries
