-- A total that is shared by weights.
use Rattle.std.specs.Prelude.{◌≡◌, ℕ, ◌-◌, ◌<◌, List, ◌∷◌, length, replicate, slice_index_or, slice_set, ℤ, pos, ◌+ℤ◌, ◌-ℤ◌, ◌*ℤ◌, ◌≤ℤ◌, ◌<ℤ◌}
use Rattle.scaled_num.specs.Sums.{sum_of}

-- the number at a place
abbrev pub at : List ℤ → ℕ → ℤ
at numbers i = slice_index_or numbers i (pos 0)

-- the greatest whole number whose product with b is at most a
pub record IsFloor (quotient a b : ℤ) : Type 0 where
  pub low : (quotient *ℤ b) ≤ℤ a
  pub high : a <ℤ (quotient *ℤ b +ℤ b)

-- the first place of greatest weight
pub record IsFirstGreatest (weights : List ℤ) (place : ℕ) : Type 0 where
  pub inside : place < length weights
  pub greatest : (i : ℕ) → i < length weights → (at weights i) ≤ℤ (at weights place)
  pub first : (i : ℕ) → i < place → (at weights i) <ℤ (at weights place)

-- each place has the floor of its weight times the total, over the sum of the weights
pub record AreFloors (weights : List ℤ) (total : ℤ) (floors : List ℤ) : Type 0 where
  pub same_length : length floors ≡ length weights
  pub floor : (i : ℕ) → i < length weights → IsFloor (at floors i) ((at weights i) *ℤ total) (sum_of weights)

-- the floors, and what is then missing from the total is added at the first place of greatest weight
pub record AreToppedFloors (weights : List ℤ) (total : ℤ) (shares : List ℤ) : Type 0 where
  pub floors : List ℤ
  pub place : ℕ
  pub are_floors : AreFloors weights total floors
  pub is_first : IsFirstGreatest weights place
  pub topped : shares ≡ slice_set floors place ((at floors place) +ℤ (total -ℤ sum_of floors))

-- The shares of a total by weights. Where all weights are 0, place 0 gets the total and the others 0.
pub record IsShared (weights : List ℤ) (total : ℤ) (shares : List ℤ) : Type 0 where
  pub none : sum_of weights ≡ pos 0 → shares ≡ total ∷ replicate (length weights - 1) (pos 0)
  pub some : pos 0 <ℤ sum_of weights → AreToppedFloors weights total shares
