-- A split on its way: items with one more weight, and what remains of the mass.
use Rattle.std.specs.Prelude.{ℕ, zero, suc, ℤ, pos, List, [], ◌∷◌, cond, filter, length, map, not, ◌≡◌, ◌<◌, ◌≤◌, ◌^◌, ◌==◌, ◌+ℤ◌, ◌*ℤ◌, ◌≤ℤ◌, ltb, slice_index_or}
use Rattle.std.specs.Int.Signed.{lt_z}
use Rattle.std.specs.List.{AllByRecursion}
use Rattle.scaled_num.specs.Share.{at}
use Rattle.scaled_num.specs.Sums.{total}
use Rattle.game_model.specs.Game.{IsBelief, IsWithin}
use Rattle.point_set.specs.Corners.{point_at}
use Rattle.point_set.specs.Points.{PointData}
use Rattle.point_set.specs.Split.{AreRisingPairs, AreTakes, Take, is_corner, weight_of}

-- items with so much more weight under a number: added to the weight there, or as a new item in order
abbrev pub inserted : ℕ → ℤ → List (ℕ × ℤ) → List (ℕ × ℤ)
inserted k w [] = (k, w) ∷ []
inserted k w (x ∷ xs) = cond (ltb x.0 k) (x ∷ inserted k w xs) (cond (x.0 == k) ((k, x.1 +ℤ w) ∷ xs) ((k, w) ∷ x ∷ xs))

-- a number of 0 to 2^100
abbrev pub IsSmall : ℤ → Type 0
IsSmall x = IsWithin (pos 0) (pos (2 ^ 100)) x

-- each point has a belief over so many states
abbrev pub AreBeliefs : ℕ → List PointData → Type 0
AreBeliefs states points = AllByRecursion (λ (point : PointData). IsBelief states point.belief) points

-- items of points that make up a mass but for what is left of it in each state
pub record AreItems (points : List PointData) (mass : List ℤ) (left : ℕ → ℤ) (items : List (ℕ × ℤ)) : Type 0 where
  pub rising : AreRisingPairs items
  pub positive : AllByRecursion (λ item. pos 1 ≤ℤ item.1) items
  pub inside : AllByRecursion (λ item. item.0 < length points) items
  pub made : (s : ℕ) → s < length mass → total (λ item. item.1 *ℤ at (point_at points item.0).belief s) items +ℤ left s ≡ at mass s

-- how many of the items are of no current corner
abbrev pub others : (ℕ → ℕ) → ℕ → List (ℕ × ℤ) → ℕ
others corners states items = length (filter (λ item. not (is_corner corners states item.0)) items)

-- points of these numbers took from a mass, by these shares, and these are the weights of their items
pub record AreTaken (points : List PointData) (numbers : List ℕ) (shares mass rest : List ℤ) (items : List (ℕ × ℤ)) : Type 0 where
  pub takes : List Take
  pub listed : map (λ t. t.number) takes ≡ numbers
  pub shared : map (λ t. t.share) takes ≡ shares
  pub taken : AreTakes points mass takes rest
  pub weights : (k : ℕ) → weight_of items k ≡ total (λ t. cond (t.number == k) t.times (pos 0)) takes

-- the greatest number of times that is at most this one and whose product with a total is at most a share
pub record IsLesser (times share whole result : ℤ) : Type 0 where
  pub low : pos 0 ≤ℤ result
  pub upto : result ≤ℤ times
  pub allowed : (result *ℤ whole) ≤ℤ share
  pub most : (more : ℤ) → more ≤ℤ times → (more *ℤ whole) ≤ℤ share → more ≤ℤ result

-- smaller numbers stand before the index, and none from it on
pub record IsIndex (k : ℕ) (items : List (ℕ × ℤ)) (index : ℕ) : Type 0 where
  pub upto : index ≤ length items
  pub below : (j : ℕ) → j < index → (slice_index_or items j (0, pos 0)).0 < k
  pub above : index < length items → k ≤ (slice_index_or items index (0, pos 0)).0

-- items with what remains of a mass in so many first states, under the numbers of their current corners
abbrev pub with_rests : (ℕ → ℕ) → List ℤ → List (ℕ × ℤ) → ℕ → List (ℕ × ℤ)
with_rests corners rest items zero = items
with_rests corners rest items (suc s) =
    cond (lt_z (pos 0) (at rest s)) (inserted (corners s) (at rest s) (with_rests corners rest items s)) (with_rests corners rest items s)
