-- The node rule by a table, and by the steps of the node.
use Rattle.std.proofs.Common.{◌≡◌, ℕ, ◌*◌, List, ap, sym, subst, ◌∙◌}
use Rattle.std.specs.Prelude.{ℤ, pos, ◌+ℤ◌, ◌*ℤ◌, ◌≤ℤ◌}
use Rattle.scaled_num.specs.Sums.{below, total}
use Rattle.scaled_num.proofs.First.{all-flat, all-map, first-same, flat-at, map-at, none-fails}
use Rattle.scaled_num.proofs.Products.{mulℤ_comm}
use Rattle.scaled_num.proofs.Sums.{each, total-below, total-same, total-scale}
use Rattle.game_model.specs.Bounds.{IsLeastOf}
use Rattle.game_model.specs.Game.{GameData, numbers, unit}
use Rattle.game_model.specs.Numbers.{Numbers, over_row}
use Rattle.alpha_set.specs.Faults.{rule_places, state_places}
use Rattle.alpha_set.specs.Members.{AllHoldBy, FailsFirstAmong, FailsFirstBy, HoldsBy, HoldsWorths, StandsAmong, data_of, entry_at, expected, node_data, paid, worth_by}
use Rattle.alpha_set.specs.Nodes.{Node, NodeHolds, node_of, node_worth, nodes_of, steps_worth}
use Rattle.alpha_set.specs.declared.nodes.Node.{Node as NodeParts}

paid-is : (g : Numbers) (mix : ℕ → ℕ) (k : ℕ) (s c : ℕ) → total (λ a. pos (mix a) *ℤ g.reward s a c *ℤ pos k) (below g.own_actions) ≡ pos k *ℤ paid g mix s c
paid-is g mix k s c =
    total-same (λ a. pos (mix a) *ℤ g.reward s a c *ℤ pos k) (λ a. pos k *ℤ (pos (mix a) *ℤ g.reward s a c)) (below g.own_actions)
    (each (λ a. mulℤ_comm (pos (mix a) *ℤ g.reward s a c) (pos k)) (below g.own_actions))
    ∙ total-scale (pos k) (λ a. pos (mix a) *ℤ g.reward s a c) (below g.own_actions)

expected-is : (g : GameData) (nodes : ℕ → Node) (node : Node) (table : List ℤ) → HoldsWorths g nodes node table → (s c : ℕ) →
    total (λ a. over_row (numbers g) s a c (λ o t. steps_worth nodes node a o t)) (below g.shape.own_actions) ≡ expected (numbers g) table s c
expected-is g nodes node table worths s c =
    total-below g.shape.own_actions _ (λ a. over_row (numbers g) s a c (λ o t. entry_at table a o t)) (λ a la.
    total-below g.shape.observations _ (λ o. total (λ t. pos ((numbers g).weight s a c o t) *ℤ entry_at table a o t) (below g.shape.states)) (λ o lo.
    total-below g.shape.states _ (λ t. pos ((numbers g).weight s a c o t) *ℤ entry_at table a o t) (λ t lt.
    ap (λ (z : ℤ). pos ((numbers g).weight s a c o t) *ℤ z) (sym (worths a o t la lo lt)))))

pub worth-is : (g : GameData) (nodes : ℕ → Node) (node : Node) (table : List ℤ) → HoldsWorths g nodes node table → (s c : ℕ) →
    node_worth (numbers g) nodes node s c ≡ worth_by (numbers g) node.mix table s c
worth-is g nodes node table worths s c =
    ap (λ (z : ℤ). z +ℤ pos (numbers g).discount_over *ℤ total (λ a. over_row (numbers g) s a c (λ o t. steps_worth nodes node a o t)) (below g.shape.own_actions))
    (paid-is (numbers g) node.mix (unit * (numbers g).row_total * (numbers g).discount_under) s c)
    ∙ ap (λ (z : ℤ). pos (unit * (numbers g).row_total * (numbers g).discount_under) *ℤ paid (numbers g) node.mix s c +ℤ pos (numbers g).discount_over *ℤ z)
    (expected-is g nodes node table worths s c)

pub holds-from : (g : GameData) (nodes : ℕ → Node) (node : Node) (table : List ℤ) → HoldsWorths g nodes node table → (s c : ℕ) → HoldsBy (numbers g) node table s c → NodeHolds (numbers g) nodes node s c
holds-from g nodes node table worths s c h = let P : ℤ → Type 0 = λ z. (node.vector s *ℤ pos (65536 * (numbers g).row_total * (numbers g).discount_under)) ≤ℤ z in subst P (sym (worth-is g nodes node table worths s c)) h

pub holds-to : (g : GameData) (nodes : ℕ → Node) (node : Node) (table : List ℤ) → HoldsWorths g nodes node table → (s c : ℕ) → NodeHolds (numbers g) nodes node s c → HoldsBy (numbers g) node table s c
holds-to g nodes node table worths s c h = let P : ℤ → Type 0 = λ z. (node.vector s *ℤ pos (65536 * (numbers g).row_total * (numbers g).discount_under)) ≤ℤ z in subst P (worth-is g nodes node table worths s c) h

-- the node rule fails first by the table where it fails first by the steps
pub fails-first : (g : GameData) (nodes : List NodeParts) (node : NodeParts) (table : List ℤ) → HoldsWorths g (nodes_of (data_of nodes)) (node_of (node_data node)) table → (place : ℕ × ℕ) →
    FailsFirstBy g node table (rule_places (numbers g)) place → FailsFirstAmong g nodes node place
fails-first g nodes node table worths place f =
    let among = nodes_of (data_of nodes) in
    let here = node_of (node_data node) in
    first-same (λ (place : ℕ × ℕ). HoldsBy (numbers g) here table place.0 place.1) (λ (place : ℕ × ℕ). NodeHolds (numbers g) among here place.0 place.1) (rule_places (numbers g)) place
    (λ place h. holds-from g among here table worths place.0 place.1 h) (λ place h. holds-to g among here table worths place.0 place.1 h) f

-- a node stands where the rule holds at all places, and there it fails at none
pub stands-from : (g : GameData) (nodes : List NodeParts) (node : NodeParts) (table : List ℤ) → HoldsWorths g (nodes_of (data_of nodes)) (node_of (node_data node)) table →
    AllHoldBy g node table (rule_places (numbers g)) → StandsAmong g nodes node
stands-from g nodes node table worths all s c ls lc =
    let P : ℕ × ℕ → Type 0 = λ place. HoldsBy (numbers g) (node_of (node_data node)) table place.0 place.1 in
    holds-from g (nodes_of (data_of nodes)) (node_of (node_data node)) table worths s c
    (map-at P (λ (c : ℕ). (s, c)) g.shape.informed_actions (flat-at P (state_places (numbers g)) g.shape.states all s ls) c lc)

pub stands-none : (g : GameData) (nodes : List NodeParts) (node : NodeParts) → StandsAmong g nodes node → (place : ℕ × ℕ) → FailsFirstAmong g nodes node place → ⊥
stands-none g nodes node stands place f =
    let P : ℕ × ℕ → Type 0 = λ place. NodeHolds (numbers g) (nodes_of (data_of nodes)) (node_of (node_data node)) place.0 place.1 in
    none-fails P (rule_places (numbers g)) place
    (all-flat P (state_places (numbers g)) g.shape.states (λ s ls. all-map P (λ (c : ℕ). (s, c)) g.shape.informed_actions (λ c lc. stands s c ls lc))) f

-- the least of equal values
pub least-same : (f h : ℕ → ℤ) (n : ℕ) (x : ℤ) → ((k : ℕ) → h k ≡ f k) → IsLeastOf f n x → IsLeastOf h n x
least-same f h n x same l = record {
  each = λ k b. subst (λ (z : ℤ). x ≤ℤ z) (sym (same k)) (l.each k b);
  some = (l.some.0, l.some.1, l.some.2 ∙ sym (same l.some.0));
}
