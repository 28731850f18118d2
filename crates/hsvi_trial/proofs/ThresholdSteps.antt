-- Thresholds from one depth to the next.
use Rattle.std.proofs.Common.{◌≡◌, ℕ, ◌+◌, ◌*◌, ◌/◌, ◌^◌, ◌≤◌, min, ap, ap₂, arith, sym, ◌∙◌, add-one}
use Rattle.std.proofs.Math.Nat.{mul-le-mul}
use Rattle.std.proofs.lemmas.Int.{ints}
use Rattle.controller.specs.Certificates.{FractionData}
use Rattle.game_model.specs.Game.{GameData, IsGame, numbers, span}
use Rattle.hsvi_trial.specs.Thresholds.{threshold}

pub under-small : (g : GameData) → IsGame g → (numbers g).discount_under ≤ 2 ^ 20
under-small g game = let low = game.shape.discount.0 in let mid = game.shape.discount.1 in let high = game.shape.discount.2 in omega (arith, ints)

pub product-small : (d u : ℕ) → d ≤ 2 ^ 67 → u ≤ 2 ^ 20 → d * u ≤ 2 ^ 67 * 2 ^ 20
product-small d u h k = mul-le-mul {n₁ = d} h k

pub threshold-next : (g : GameData) (gap : FractionData) (n most distance under over : ℕ) → most ≡ 2 * span g → distance ≡ threshold g gap n →
    under ≡ (numbers g).discount_under → over ≡ (numbers g).discount_over → min most (distance * under / over) ≡ threshold g gap (n + 1)
threshold-next g gap n most distance under over is_most so_far is_under is_over =
    ap₂ (λ (a b : ℕ). min a b) is_most
    (ap₂ (λ (a b : ℕ). a / b) (ap₂ (λ (a b : ℕ). a * b) so_far is_under) is_over)
    ∙ sym (ap (threshold g gap) (add-one n))
