-- The states that have mass, the product of their mass with a vector, and the first of the greatest of numbers.
use Rattle.std.specs.Prelude.{ℕ, ℤ, pos, List, length, sum_by, unsigned_abs, slice_index_or, ◌≡◌, ◌*◌, ◌^◌, ◌<◌, ◌≤◌, ◌*ℤ◌, ◌≤ℤ◌, ◌<ℤ◌}
use Rattle.std.specs.List.{AllByRecursion}
use Rattle.scaled_num.specs.Share.{at}
use Rattle.scaled_num.specs.Sums.{below, total}
use Rattle.alpha_set.specs.Nodes.{NodeData, no_node}
use Rattle.alpha_set.specs.declared.worth.Portion.{Portion}

-- numbers below 2^63 in magnitude
abbrev pub AreNarrow : List ℤ → Type 0
AreNarrow numbers = AllByRecursion (λ x. unsigned_abs x < 2 ^ 63) numbers

abbrev pub HaveNarrowEntries : List NodeData → Type 0
HaveNarrowEntries nodes = AllByRecursion (λ (node : NodeData). AreNarrow node.vector) nodes

-- portions of the first states of a mass: no sum of the mass times something by state tells them from it
pub record IsGathered (mass : List ℤ) (states : ℕ) (portions : List Portion) : Type 0 where
  pub few : length portions ≤ states
  pub inside : AllByRecursion (λ (p : Portion). p.state < states) portions
  pub drawn : AllByRecursion (λ (p : Portion). p.mass ≡ at mass p.state) portions
  pub positive : AllByRecursion (λ (p : Portion). pos 0 ≤ℤ p.mass) portions
  pub same : (f : ℕ → ℤ) → total (λ (p : Portion). p.mass *ℤ f p.state) portions ≡ total (λ s. at mass s *ℤ f s) (below states)

-- the sum over the portions of the mass times the entry of the state
abbrev pub product_of : List Portion → List ℤ → ℤ
product_of portions vector = total (λ (p : Portion). p.mass *ℤ at vector p.state) portions

abbrev pub node_product_of : List NodeData → List Portion → ℕ → ℤ
node_product_of nodes portions i = product_of portions (slice_index_or nodes i no_node).vector

-- that sum fits
pub record CanMultiply (portions : List Portion) (vector : List ℤ) : Type 0 where
  pub inside : AllByRecursion (λ (p : Portion). p.state < length vector) portions
  pub most : ℕ
  pub entries : AllByRecursion (λ x. unsigned_abs x ≤ most) vector
  pub room : sum_by (λ (p : Portion). unsigned_abs p.mass) portions * most ≤ 2 ^ 124

-- each factor of that sum is narrow
pub record AreShort (portions : List Portion) (vector : List ℤ) : Type 0 where
  pub masses : AllByRecursion (λ (p : Portion). unsigned_abs p.mass < 2 ^ 63) portions
  pub entries : AreNarrow vector

-- the greatest of the first numbers, and the first place that has it
pub record IsFirstBest (f : ℕ → ℤ) (count : ℕ) (value : ℤ) (number : ℕ) : Type 0 where
  pub inside : number < count
  pub has : value ≡ f number
  pub greatest : (i : ℕ) → i < count → (f i) ≤ℤ value
  pub first : (i : ℕ) → i < number → (f i) <ℤ value
