-- The evaluation of a point, as the code rounds it up.
use Rattle.std.proofs.Common.{◌≡◌, ℕ, ◌*◌, ◌≤◌, ap, arith, subst, sym, ◌∙◌}
use Rattle.std.specs.Prelude.{ℤ, pos, ◌-ℤ◌, ◌*ℤ◌, ◌≤ℤ◌, ◌<ℤ◌, unsigned_abs}
use Rattle.std.proofs.lemmas.Int.{ints}
use Rattle.game_model.specs.Branches.{mix_total}
use Rattle.game_model.specs.Game.{GameData, IsGame, numbers, span}
use Rattle.game_model.specs.Numbers.{Numbers}
use Rattle.game_model.proofs.Games.{keeps-span}
use Rattle.game_model.proofs.Worth.{divisor-is}
use Rattle.point_set.specs.Points.{Point, point_worth}
use Rattle.backup.specs.Rounds.{IsGreatestOf}
use Rattle.backup.specs.Seeds.{IsEvaluation}
use Rattle.backup.proofs.FallingCorners.{IsCeil, divisor-some}

through : (x y z : ℤ) → x ≤ℤ y → y ≤ℤ z → x ≤ℤ z
through x y z h k = omega (arith, ints)

pub scale-is : (g : GameData) → IsGame g → pos 65536 *ℤ (g.shape.row_total *ℤ g.shape.discount.1) ≡ pos (mix_total * unsigned_abs g.shape.row_total * unsigned_abs g.shape.discount.1)
scale-is g h = ap (λ (z : ℤ). pos 65536 *ℤ z) (divisor-is g h) ∙ ap pos (same (unsigned_abs g.shape.row_total) (unsigned_abs g.shape.discount.1))
  where
    same : (d q : ℕ) → 65536 * (d * q) ≡ 65536 * d * q
    same d q = omega arith

pub scale-positive : (g : GameData) → IsGame g → pos 0 <ℤ (pos 65536 *ℤ (g.shape.row_total *ℤ g.shape.discount.1))
scale-positive g h =
    subst (λ (z : ℤ). pos 0 <ℤ z) (sym (scale-is g h)) (some (unsigned_abs g.shape.row_total) (unsigned_abs g.shape.discount.1) (divisor-some (numbers g) (span g) (keeps-span g h)))
  where
    some : (d q : ℕ) → 1 ≤ d * q → pos 0 <ℤ pos (65536 * d * q)
    some d q l = omega (arith, ints)

pub evaluation-is : (g : Numbers) (points : ℕ → Point) (point : Point) (most x : ℤ) → IsGreatestOf (point_worth g points point) g.own_actions most →
    IsCeil most (mix_total * g.row_total * g.discount_under) x → IsEvaluation g points point x
evaluation-is g points point most x h e =
    let K : ℕ = mix_total * g.row_total * g.discount_under in
    record {
      each = λ a la. through (point_worth g points point a) most (x *ℤ pos K) (h.each a la) e.high;
      some = (h.some.0, h.some.1, subst (λ (z : ℤ). ((x -ℤ pos 1) *ℤ pos K) <ℤ z) h.some.2 e.low);
    }
