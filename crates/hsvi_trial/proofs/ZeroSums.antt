-- Masses that are zero, and how large a mass is.
use Rattle.std.proofs.Common.{◌≡◌, ◌^◌, List, [], ◌∷◌, refl, ap, ap₂, sym, ◌∙◌, arith}
use Rattle.std.proofs.lemmas.Bool.{false≢true}
use Rattle.std.proofs.lemmas.Int.{ints}
use Rattle.std.specs.List.{AllByRecursion}
use Rattle.std.specs.Prelude.{ℤ, pos, IsTrue, int_lt, ◌+ℤ◌, ◌*ℤ◌, ◌≤ℤ◌}
use Rattle.scaled_num.specs.Sums.{sum_of}
use Rattle.game_model.specs.Game.{GameData, IsGame, IsMass}
use Rattle.stage_game.specs.Masses.{is_some_mass}

pub zero-sum : (xs : List ℤ) → AllByRecursion (λ x. x ≡ pos 0) xs → sum_of xs ≡ pos 0
zero-sum [] h = refl
zero-sum (x ∷ xs) h = ap₂ (λ (a b : ℤ). a +ℤ b) h.0 (zero-sum xs h.1)

pub not-zero : (mass : List ℤ) → IsTrue (is_some_mass mass) → AllByRecursion (λ x. x ≡ pos 0) mass → ⊥
not-zero mass some zero = false≢true (ap (λ (z : ℤ). int_lt (pos 0) z) (sym (zero-sum mass zero)) ∙ some)

pub mass-light : (g : GameData) → IsGame g → (mass : List ℤ) → IsMass g mass → sum_of mass ≤ℤ pos (2 ^ 66)
mass-light g game mass right = light (sum_of mass) g.shape.row_total right.most game.shape.row_total.1
  where
    light : (x d : ℤ) → x ≤ℤ (pos (2 ^ 36) *ℤ d) → d ≤ℤ pos (2 ^ 30) → x ≤ℤ pos (2 ^ 66)
    light x d h l = omega (arith, ints)

pub sum-low : (xs : List ℤ) → AllByRecursion (λ x. pos 0 ≤ℤ x) xs → pos 0 ≤ℤ sum_of xs
sum-low [] h = omega (arith, ints)
sum-low (x ∷ xs) h = omega (arith, ints, h.0, sum-low xs h.1)
