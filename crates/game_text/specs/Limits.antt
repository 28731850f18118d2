use Rattle.std.specs.Prelude.{ℤ, pos, ◌≤ℤ◌, ◌<ℤ◌}
use Rattle.game_model.specs.Limits.{most_discount}

abbrev pub IsDiscount : (ℤ × ℤ) → Type 0
IsDiscount discount = (pos 0 ≤ℤ discount.0) × (discount.0 <ℤ discount.1) × (discount.1 ≤ℤ pos most_discount)
