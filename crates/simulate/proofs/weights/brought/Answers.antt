use Rattle.std.proofs.Common.{◌≡◌, ℕ, ◌^◌, ◌<◌, ◌≤◌, ap, arith, sym, subst, ◌∙◌, get_or}
use Rattle.std.specs.Prelude.{ℤ, pos, unsigned_abs}
use Rattle.std.proofs.lemmas.Int.{ints}
use Rattle.std.proofs.lemmas.Nat.{mul-le}
use Rattle.scaled_num.proofs.Sums.{each-at}
use Rattle.game_model.specs.Game.{IsWithin}
use Rattle.point_set.specs.Corners.{point_at}
use Rattle.point_set.specs.Points.{PointData, PointFits, no_point}
use Rattle.simulate.proofs.weights.brought.Goals as goal

within : (x : ℤ) → IsWithin (pos 0) (pos (2 ^ 20)) x → unsigned_abs x ≤ 2 ^ 20
within x h = let low = h.0 in let high = h.1 in omega (arith, ints)

pub overflow_mul-result : goal.overflow_mul-result
overflow_mul-result c =
    let points = c.args.points.now.members in
    let is : c.parts-parts.result.now ≡ (point_at points c.args.j).belief = c.parts-parts.ensures.parts ∙ ap (λ (point : PointData). point.belief) c.point.ensures in
    let fits = each-at (PointFits c.args.game.now _) no_point points c.args.j c.requires.points.each c.requires.light.0 in
    let small : unsigned_abs (get_or (point_at points c.args.j).belief c.args.s (pos 0)) ≤ 2 ^ 20 =
    within _ (each-at (IsWithin (pos 0) (pos (2 ^ 20))) (pos 0) (point_at points c.args.j).belief c.args.s fits.belief.each
    (subst (λ (n : ℕ). c.args.s < n) (sym fits.belief.long) c.requires.state)) in
    let product = mul-le (unsigned_abs c.args.weight) (unsigned_abs (get_or (point_at points c.args.j).belief c.args.s (pos 0))) (2 ^ 66) (2 ^ 20) c.requires.light.1 small in
    grind (arith, product, is)
