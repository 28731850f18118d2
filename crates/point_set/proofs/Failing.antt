-- A point stands where both rules hold at all places, and fails first at none of them then.
use Rattle.std.proofs.Common.{ℕ, ◌<◌, List, ◌++◌}
use Rattle.std.specs.List.{AllByRecursion}
use Rattle.scaled_num.proofs.First.{all-flat, all-map, flat-at, map-at, none-fails}
use Rattle.scaled_num.proofs.Sums.{each-append}
use Rattle.game_model.specs.Game.{GameData, numbers}
use Rattle.point_set.specs.Faults.{HoldsAt, point_places, split_place, split_places, split_places_after, split_places_seen, value_place, value_places}
use Rattle.point_set.specs.Members.{AllHoldAmong, FailsFirstAmong, SplitsHoldAmong, StandsAmong, data_of, point_data}
use Rattle.point_set.specs.Points.{point_of, points_of}
use Rattle.point_set.specs.declared.points.Point.{Point as PointParts}
use Rattle.point_set.specs.declared.stands.PointFault.{PointFault}

-- the rule of a place, for a point of the program
abbrev pub HoldsHere : GameData → List PointParts → PointParts → PointFault → Type 0
HoldsHere g points point place = HoldsAt (numbers g) (points_of (data_of points)) (point_of (point_data point)) place

pub splits-from : (g : GameData) (points : List PointParts) (point : PointParts) → AllHoldAmong g points point (split_places (numbers g)) → SplitsHoldAmong g points point
splits-from g points point all a o t la lo lt =
    map-at (HoldsHere g points point) (λ (s : ℕ). split_place (a, o, s)) g.shape.states
    (flat-at (HoldsHere g points point) (split_places_seen (numbers g) a) g.shape.observations
    (flat-at (HoldsHere g points point) (split_places_after (numbers g)) g.shape.own_actions all a la) o lo) t lt

pub stands-from : (g : GameData) (points : List PointParts) (point : PointParts) → AllHoldAmong g points point (split_places (numbers g)) → AllHoldAmong g points point (value_places (numbers g)) →
    StandsAmong g points point
stands-from g points point splits values =
    record {
      split = splits-from g points point splits;
      value = λ a la. map-at (HoldsHere g points point) value_place g.shape.own_actions values a la;
    }

pub holds-everywhere : (g : GameData) (points : List PointParts) (point : PointParts) → StandsAmong g points point → AllHoldAmong g points point (point_places (numbers g))
holds-everywhere g points point stands =
    each-append (HoldsHere g points point) (split_places (numbers g)) (value_places (numbers g))
    (all-flat (HoldsHere g points point) (split_places_after (numbers g)) g.shape.own_actions (λ a la.
    all-flat (HoldsHere g points point) (split_places_seen (numbers g) a) g.shape.observations (λ o lo.
    all-map (HoldsHere g points point) (λ (s : ℕ). split_place (a, o, s)) g.shape.states (λ s ls. stands.split a o s la lo ls))))
    (all-map (HoldsHere g points point) value_place g.shape.own_actions (λ a la. stands.value a la))

pub fails-nowhere : (g : GameData) (points : List PointParts) (point : PointParts) → StandsAmong g points point → (place : PointFault) →
    FailsFirstAmong g points point (point_places (numbers g)) place → ⊥
fails-nowhere g points point stands place f = none-fails (HoldsHere g points point) (point_places (numbers g)) place (holds-everywhere g points point stands) f
