-- What is read from a dictionary, and when it is an optimum of the program and of its dual.
use Rattle.std.specs.Prelude.{ℕ, ◌+◌, ◌<◌, ◌≡◌, [], ◌∷◌, ℤ, pos, neg_ℤ, ◌*ℤ◌, ◌≤ℤ◌, ◌<ℤ◌, length, slice_index}
use Rattle.simplex.specs.declared.Program.{Program}
use Rattle.simplex.specs.Program.{sum_to, at, row_count, variable_count, cell, limit, gain}
use Rattle.simplex.specs.Dictionary.{Dictionary, number, AreCoprime}

-- num over den, in lowest terms
pub record IsLowest (num den : ℤ) : Type 0 where
  pub positive : pos 0 <ℤ den
  pub coprime : AreCoprime (num ∷ den ∷ [])

-- num over den is the value of variable i: constant over lead where it is basic, and 0 where it is out
pub record IsPrimal (d : Dictionary) (i : ℕ) (num den : ℤ) : Type 0 where
  pub lowest : IsLowest num den
  pub basic : (k : ℕ) → k < length d.basic → slice_index d.basic k ≡ i → num *ℤ number d k 0 ≡ number d k 1 *ℤ den
  pub out : (q : ℕ) → q < length d.out → slice_index d.out q ≡ i → num ≡ pos 0

-- price over the goal lead is the multiplier of row i: minus the goal coefficient of its slack, and 0 where the slack is basic
pub record IsPrice (d : Dictionary) (i : ℕ) (price : ℤ) : Type 0 where
  pub basic : (k : ℕ) → k < length d.basic → slice_index d.basic k ≡ length d.out + i → price ≡ pos 0
  pub out : (q : ℕ) → q < length d.out → slice_index d.out q ≡ length d.out + i → price ≡ neg_ℤ (at d.goal (q + 2))

-- num over den is the multiplier of row i
pub record IsDual (d : Dictionary) (i : ℕ) (num den : ℤ) : Type 0 where
  pub lowest : IsLowest num den
  pub price : (price : ℤ) → IsPrice d i price → num *ℤ at d.goal 0 ≡ price *ℤ den

-- x over below_x are the values of the own variables, and y over below_y the multipliers of the rows
pub record AreRead (d : Dictionary) (below_x below_y : ℤ) (x y : ℕ → ℤ) : Type 0 where
  pub x_positive : pos 0 <ℤ below_x
  pub y_positive : pos 0 <ℤ below_y
  pub values : (i : ℕ) (num den : ℤ) → i < length d.out → IsPrimal d i num den → x i *ℤ den ≡ num *ℤ below_x
  pub multipliers : (i : ℕ) (num den : ℤ) → i < length d.basic → IsDual d i num den → y i *ℤ den ≡ num *ℤ below_y

-- the values that are read exist, are not negative and keep the rows
pub record KeepsRows (p : Program) (d : Dictionary) : Type 0 where
  pub values_there : (i : ℕ) → i < variable_count p → (num : ℤ) × ((den : ℤ) × IsPrimal d i num den)
  pub below : ℤ
  pub x : ℕ → ℤ
  pub positive : pos 0 <ℤ below
  pub values : (i : ℕ) (num den : ℤ) → i < variable_count p → IsPrimal d i num den → x i *ℤ den ≡ num *ℤ below
  pub not_negative : (j : ℕ) → j < variable_count p → pos 0 ≤ℤ (x j)
  pub rows_kept : (i : ℕ) → i < row_count p → sum_to (variable_count p) (λ j. cell p i j *ℤ x j) ≤ℤ (limit p i *ℤ below)

-- what is read exists, satisfies the program and its dual, and both have one value
pub record IsOptimum (p : Program) (d : Dictionary) : Type 0 where
  pub values_there : (i : ℕ) → i < variable_count p → (num : ℤ) × ((den : ℤ) × IsPrimal d i num den)
  pub multipliers_there : (i : ℕ) → i < row_count p → (num : ℤ) × ((den : ℤ) × IsDual d i num den)
  pub below_x : ℤ
  pub below_y : ℤ
  pub x : ℕ → ℤ
  pub y : ℕ → ℤ
  pub read : AreRead d below_x below_y x y
  pub x_not_negative : (j : ℕ) → j < variable_count p → pos 0 ≤ℤ (x j)
  pub rows_kept : (i : ℕ) → i < row_count p → sum_to (variable_count p) (λ j. cell p i j *ℤ x j) ≤ℤ (limit p i *ℤ below_x)
  pub y_not_negative : (i : ℕ) → i < row_count p → pos 0 ≤ℤ (y i)
  pub columns_kept : (j : ℕ) → j < variable_count p → (gain p j *ℤ below_y) ≤ℤ sum_to (row_count p) (λ i. y i *ℤ cell p i j)
  pub equal : sum_to (variable_count p) (λ j. gain p j *ℤ x j) *ℤ below_y ≡ sum_to (row_count p) (λ i. y i *ℤ limit p i) *ℤ below_x
