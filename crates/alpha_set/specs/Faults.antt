-- The first place at which a node does not stand.
use Rattle.std.specs.Prelude.{ℕ, List, map, flat_map}
use Rattle.scaled_num.specs.First.{FirstIn}
use Rattle.scaled_num.specs.Sums.{below}
use Rattle.game_model.specs.Numbers.{Numbers}
use Rattle.alpha_set.specs.Nodes.{Node, NodeHolds}

-- the places of the node rule in order, each a state and an informed action: those of a state, and all
abbrev pub state_places : Numbers → ℕ → List (ℕ × ℕ)
state_places g s = map (λ c. (s, c)) (below g.informed_actions)

abbrev pub rule_places : Numbers → List (ℕ × ℕ)
rule_places g = flat_map (state_places g) (below g.states)

-- the node rule fails first at this place
abbrev pub NodeFailsFirst : Numbers → (ℕ → Node) → Node → ℕ × ℕ → Type 0
NodeFailsFirst g nodes node place = FirstIn (λ (place : ℕ × ℕ). NodeHolds g nodes node place.0 place.1) (rule_places g) place
