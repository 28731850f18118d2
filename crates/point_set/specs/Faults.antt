-- The first place at which a point does not stand.
use Rattle.std.specs.Prelude.{ℕ, ◌<◌, List, ◌++◌, map, flat_map}
use Rattle.scaled_num.specs.First.{FirstIn}
use Rattle.scaled_num.specs.Sums.{below}
use Rattle.game_model.specs.Numbers.{Numbers}
use Rattle.point_set.specs.Points.{Point, SplitHolds, ValueHolds}
use Rattle.point_set.specs.declared.stands.PointFault.{PointFault}
use Rattle.point_set.specs.declared.stands.PointFault.TheVariants.{Split, Value}

-- the split rule holds everywhere
abbrev pub SplitsHold : Numbers → (ℕ → Point) → Point → Type 0
SplitsHold g points point = (a o t : ℕ) → a < g.own_actions → o < g.observations → t < g.states → SplitHolds g points point a o t

-- the rule of a place holds
abbrev pub HoldsAt : Numbers → (ℕ → Point) → Point → PointFault → Type 0
HoldsAt g points point (Split a o s) = SplitHolds g points point a o s
HoldsAt g points point (Value a) = ValueHolds g points point a

-- the split place of an own action, an observation and a next state, and the value place of an own action
abbrev pub split_place : ℕ × ℕ × ℕ → PointFault
split_place place = Split place.0 place.1 place.2

abbrev pub value_place : ℕ → PointFault
value_place a = Value a

-- the split places in order: after an own action and an observation, after an own action, and all
abbrev pub split_places_seen : Numbers → ℕ → ℕ → List PointFault
split_places_seen g a o = map (λ s. split_place (a, o, s)) (below g.states)

abbrev pub split_places_after : Numbers → ℕ → List PointFault
split_places_after g a = flat_map (split_places_seen g a) (below g.observations)

abbrev pub split_places : Numbers → List PointFault
split_places g = flat_map (split_places_after g) (below g.own_actions)

abbrev pub value_places : Numbers → List PointFault
value_places g = map value_place (below g.own_actions)

-- all places of a point in order
abbrev pub point_places : Numbers → List PointFault
point_places g = split_places g ++ value_places g

-- a point does not stand, and fails first at this place
abbrev pub FailsFirst : Numbers → (ℕ → Point) → Point → PointFault → Type 0
FailsFirst g points point place = FirstIn (HoldsAt g points point) (point_places g) place
