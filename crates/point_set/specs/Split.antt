-- The split of a mass over wanted points and the corners.
use Rattle.std.specs.Prelude.{ℕ, ℤ, pos, Bool, List, [], ◌∷◌, cond, count_by, filter, length, map, not, ◌≡◌, ◌<◌, ◌≤◌, ◌^◌, ◌==◌, ◌+◌, ◌+ℤ◌, ◌-ℤ◌, ◌*ℤ◌, ◌≤ℤ◌, ltb}
use Rattle.std.specs.List.{AllByRecursion}
use Rattle.scaled_num.specs.Share.{IsShared, at}
use Rattle.scaled_num.specs.Sums.{below, sum_of, total}
use Rattle.game_model.specs.Game.{IsWithin}
use Rattle.game_model.specs.Limits.{most_states}
use Rattle.point_set.specs.Corners.{point_at}
use Rattle.point_set.specs.Points.{PointData}
use Rattle.point_set.specs.Sawtooth.{AreCorners, FitsTimes}

-- the most wanted points that are no current corner
abbrev pub most_others : ℕ
most_others = 8

-- the greatest weight of a wanted point
abbrev pub most_wish : ℕ
most_wish = 2 ^ 30

-- the most items of a split: a corner for each state, and the others
abbrev pub most_items : ℕ
most_items = most_states + most_others

-- the numbers of pairs rise strictly
abbrev pub AreRisingPairs : List (ℕ × ℤ) → Type 0
AreRisingPairs [] = Unit {0}
AreRisingPairs (x ∷ []) = Unit {0}
AreRisingPairs (x ∷ y ∷ rest) = (x.0 < y.0) × AreRisingPairs (y ∷ rest)

-- the weight of a number among pairs
abbrev pub weight_of : List (ℕ × ℤ) → ℕ → ℤ
weight_of pairs k = total (λ pair. cond (pair.0 == k) pair.1 (pos 0)) pairs

-- whether a number is that of a current corner of one of so many states
abbrev pub is_corner : (ℕ → ℕ) → ℕ → ℕ → Bool
is_corner corners states k = ltb 0 (count_by (λ s. corners s == k) (below states))

-- a list of wanted points: at least one, and few that are no current corner
pub record IsWanted (points : List PointData) (states : ℕ) (wanted : List (ℕ × ℤ)) : Type 0 where
  pub some : 1 ≤ length wanted
  pub rising : AreRisingPairs wanted
  pub inside : AllByRecursion (λ want. want.0 < length points) wanted
  pub weights : AllByRecursion (λ want. IsWithin (pos 0) (pos most_wish) want.1) wanted
  pub corners : ℕ → ℕ
  pub current : AreCorners points states corners
  pub few : length (filter (λ want. not (is_corner corners states want.0)) wanted) ≤ most_others

-- the greatest whole number of times that a belief fits into its share of the total and into what remains of a mass
pub record TakesMost (mass belief : List ℤ) (share times : ℤ) : Type 0 where
  pub allowed : (times *ℤ sum_of belief) ≤ℤ share
  pub fits : FitsTimes mass belief times
  pub most : (more : ℤ) → (more *ℤ sum_of belief) ≤ℤ share → FitsTimes mass belief more → more ≤ℤ times

-- a point takes its belief off a mass so many times
pub record Take : Type 0 where
  pub number : ℕ
  pub share : ℤ
  pub times : ℤ

-- a mass less so many times a belief
abbrev pub less_times : List ℤ → List ℤ → ℤ → List ℤ
less_times mass belief times = map (λ s. at mass s -ℤ times *ℤ at belief s) (below (length mass))

-- points take from a mass in order, each the most that it can, and this remains
abbrev pub AreTakes : List PointData → List ℤ → List Take → List ℤ → Type 0
AreTakes points mass [] rest = rest ≡ mass
AreTakes points mass (first ∷ later) rest =
    TakesMost mass (point_at points first.number).belief first.share first.times
    × AreTakes points (less_times mass (point_at points first.number).belief first.times) later rest

-- The split of a mass by wanted points. The total of the mass is shared by the wanted weights; each point in
-- order takes the most that its share and what remains of the mass allow; what remains then in each state goes
-- to its current corner. The items rise by number, and none weighs nothing.
pub record IsSplit (points : List PointData) (wanted : List (ℕ × ℤ)) (mass : List ℤ) (items : List (ℕ × ℤ)) : Type 0 where
  pub takes : List Take
  pub rest : List ℤ
  pub corners : ℕ → ℕ
  pub listed : map (λ t. t.number) takes ≡ map (λ want. want.0) wanted
  pub shared : IsShared (map (λ want. want.1) wanted) (sum_of mass) (map (λ t. t.share) takes)
  pub taken : AreTakes points mass takes rest
  pub current : AreCorners points (length mass) corners
  pub rising : AreRisingPairs items
  pub positive : AllByRecursion (λ item. pos 1 ≤ℤ item.1) items
  pub weights : (k : ℕ) →
      weight_of items k
      ≡ total (λ t. cond (t.number == k) t.times (pos 0)) takes +ℤ total (λ s. cond (corners s == k) (at rest s) (pos 0)) (below (length mass))

-- items make up a mass: weight times belief sums to it in every place
abbrev pub MakesUp : List PointData → List (ℕ × ℤ) → List ℤ → Type 0
MakesUp points items mass =
    (s : ℕ) → s < length mass → total (λ item. item.1 *ℤ at (point_at points item.0).belief s) items ≡ at mass s
