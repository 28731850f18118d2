-- The start that sets give, its bounds, and whether they are near enough.
use Rattle.std.specs.Prelude.{ℕ, ℤ, pos, List, [], ◌∷◌, length, map, slice_index_or, ◌≡◌, ◌*◌, ◌-ℤ◌, ◌*ℤ◌, ◌≤ℤ◌, ◌<ℤ◌}
use Rattle.alpha_set.specs.Nodes.{no_node}
use Rattle.alpha_set.specs.Worth.{IsWorth, worth_at}
use Rattle.belief.specs.Reduced.{AreLowest}
use Rattle.controller.specs.Certificates.{FractionData, first_total}
use Rattle.game_model.specs.Branches.{mix_total}
use Rattle.game_model.specs.Game.{GameData, unit}
use Rattle.point_set.specs.Corners.{point_at}
use Rattle.point_set.specs.Points.{PointData}
use Rattle.point_set.specs.Sawtooth.{IsSawtooth}
use Rattle.point_set.specs.Tooth.{IsToothSplit, items_cost}
use Rattle.hsvi_trial.specs.Least.{IsLeastAt}
use Rattle.hsvi_trial.specs.Sets.{Sets}

-- a node, and weighted points whose beliefs sum to a multiple of the first belief
pub record StartData : Type 0 where
  pub node : ℕ
  pub points : List (ℕ × ℤ)
  pub multiple : ℤ

-- the first belief, times the mix total
abbrev pub whole_first : GameData → List ℤ
whole_first g = map (λ x. pos mix_total *ℤ x) g.first

-- the start by the sawtooth: the items of the tooth split, with the mix total, in lowest terms
pub record IsToothStart (g : GameData) (points : List PointData) (start : StartData) : Type 0 where
  pub items : List (ℕ × ℤ)
  pub split : IsToothSplit points (whole_first g) items
  pub listed : map (λ item. item.0) start.points ≡ map (λ item. item.0) items
  pub lowest : AreLowest (map (λ item. item.1) items) (map (λ item. item.1) start.points)
  pub multiple : pos lowest.divisor *ℤ start.multiple ≡ pos mix_total

-- The start of sets: the node of worth at the first belief; and the first point of least value there, or what the
-- sawtooth there is made of, where that is less.
pub record IsStart (g : GameData) (sets : Sets) (start : StartData) : Type 0 where
  pub worth : ℤ
  pub node : IsWorth sets.nodes g.first worth start.node
  pub root : ℕ
  pub is_root : IsLeastAt sets.points g.first (length sets.points) root
  pub high : ℤ
  pub sawtooth : IsSawtooth sets.points (whole_first g) high
  pub by_tooth : high <ℤ (pos mix_total *ℤ (point_at sets.points root).value) → IsToothStart g sets.points start
  pub by_root : (pos mix_total *ℤ (point_at sets.points root).value) ≤ℤ high →
      (start.points ≡ (root, pos 1) ∷ []) × (start.multiple ≡ pos 1)

-- what a start earns at least, and what it costs at most
abbrev pub lower_of : GameData → Sets → StartData → FractionData
lower_of g sets start = record {
  num = worth_at g.first (slice_index_or sets.nodes start.node no_node).vector;
  den = pos (first_total g * unit);
}

abbrev pub upper_of : GameData → Sets → StartData → FractionData
upper_of g sets start = record {
  num = items_cost sets.points start.points;
  den = start.multiple *ℤ pos (first_total g * unit);
}

-- upper - lower <= gap, as rationals
abbrev pub AreNear : FractionData → FractionData → FractionData → Type 0
AreNear lower upper gap =
    ((upper.num *ℤ lower.den -ℤ lower.num *ℤ upper.den) *ℤ gap.den) ≤ℤ (gap.num *ℤ upper.den *ℤ lower.den)

-- the bounds of sets are within the tolerance
abbrev pub AreClosed : GameData → FractionData → Sets → Type 0
AreClosed g gap sets = (start : StartData) × IsStart g sets start × AreNear (lower_of g sets start) (upper_of g sets start) gap

-- the bounds of sets are not
abbrev pub AreOpen : GameData → FractionData → Sets → Type 0
AreOpen g gap sets =
    (start : StartData) × IsStart g sets start × (AreNear (lower_of g sets start) (upper_of g sets start) gap → ⊥)
