use Rattle.std.proofs.Common.{◌≤◌, ◌^◌, arith}
use Rattle.std.specs.Prelude.{ℤ, pos, unsigned_abs, FitsSigned, ◌*ℤ◌}
use Rattle.std.specs.Int.{w128}
use Rattle.std.proofs.lemmas.Int.{fits_signed_from_abs, ints, to_z-of_z, unsigned_abs-mul}
use Rattle.std.proofs.lemmas.Nat.{mul-le}
use Rattle.scaled_num.specs.Sums.{sum_of}
use Rattle.game_model.specs.Game.{GameData, IsWithin, span}
use Rattle.game_model.proofs.Worth.{span-small}
use Rattle.controller.proofs.points.most_value.Goals as goal

small : (x : ℤ) → IsWithin (pos 1) (pos (2 ^ 20)) x → unsigned_abs x ≤ 2 ^ 20
small x h = let low = h.0 in let high = h.1 in omega (arith, ints)

record Fits (c : goal.After-total) : Type 0 where
  span_fits : FitsSigned w128 (pos (span c.args.game.now))
  total_fits : FitsSigned w128 (sum_of c.args.belief.now)
  size : unsigned_abs (pos (span c.args.game.now) *ℤ sum_of c.args.belief.now) ≤ 2 ^ 86
  product : FitsSigned w128 (pos (span c.args.game.now) *ℤ sum_of c.args.belief.now)

fits : (c : goal.After-total) → Fits c
fits c =
    let g : GameData = c.args.game.now in
    let wide : span g ≤ 2 ^ 66 = span-small g c.law_game.ensures.accepted in
    let light : unsigned_abs (sum_of c.args.belief.now) ≤ 2 ^ 20 = small (sum_of c.args.belief.now) c.parts-parts.ensures.kept.belief.sums in
    let size : unsigned_abs (pos (span g) *ℤ sum_of c.args.belief.now) ≤ 2 ^ 86 =
    rw (unsigned_abs-mul (pos (span g)) (sum_of c.args.belief.now)) (mul-le (span g) (unsigned_abs (sum_of c.args.belief.now)) (2 ^ 66) (2 ^ 20) wide light) in
    record {
      span_fits = fits_signed_from_abs w128 (pos (span g)) (omega arith);
      total_fits = fits_signed_from_abs w128 (sum_of c.args.belief.now) (omega arith);
      size = size;
      product = fits_signed_from_abs w128 (pos (span g) *ℤ sum_of c.args.belief.now) (omega arith);
    }

pub overflow_mul-result : goal.overflow_mul-result
overflow_mul-result c =
    let f = fits c in
    let span_fits = f.span_fits in
    let total_fits = f.total_fits in
    simp (c.span.ensures, c.total.ensures, to_z-of_z) f.product

pub returns-clause-exact : goal.returns-clause-exact
returns-clause-exact c =
    let f = fits c in
    let span_fits = f.span_fits in
    let total_fits = f.total_fits in
    let product = f.product in
    simp (c.span.ensures, c.total.ensures, to_z-of_z)

pub returns-clause-small : goal.returns-clause-small
returns-clause-small c =
    let f = fits c in
    let span_fits = f.span_fits in
    let total_fits = f.total_fits in
    let product = f.product in
    simp (c.span.ensures, c.total.ensures, to_z-of_z) f.size
