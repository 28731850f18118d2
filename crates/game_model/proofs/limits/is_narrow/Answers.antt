use Rattle.std.proofs.Common.{max, arith, rules, ◌≡◌}
use Rattle.std.specs.Prelude.{pos, unsigned_abs, ℤ, FitsSigned}
use Rattle.std.specs.Int.{w128}
use Rattle.std.proofs.lemmas.Int.{ints, to_z-of_z}
use Rattle.game_model.proofs.Width.{width-fits, greater_small}
use Rattle.game_model.proofs.limits.is_narrow.Goals as goal

pub overflow_mul-result-2 : goal.overflow_mul-result-2
overflow_mul-result-2 c =
    let d : ℤ = c.args.shape.now.row_total in
    let q : ℤ = c.args.shape.now.discount.1 in
    let w = width-fits d q (pos 1) (omega (arith, ints)) (omega (arith, ints)) (omega arith) in
    let d_fits = w.d_fits in
    let q_fits = w.q_fits in
    let two = w.two in
    simp to_z-of_z w.three

pub overflow_mul-result-3 : goal.overflow_mul-result-3
overflow_mul-result-3 c =
    let d : ℤ = c.args.shape.now.row_total in
    let q : ℤ = c.args.shape.now.discount.1 in
    let m : ℤ = pos (max 1 (unsigned_abs c.args.reward)) in
    let r_fits : FitsSigned w128 c.args.reward = c.ranges.reward in
    let is : c.magnitude_or_one.result ≡ m = simp to_z-of_z at c.magnitude_or_one.ensures in
    let w = width-fits d q m (omega (arith, ints)) (omega (arith, ints)) (greater_small c.args.reward c.requires.reward) in
    let d_fits = w.d_fits in
    let q_fits = w.q_fits in
    let m_fits = w.m_fits in
    let two = w.two in
    let three = w.three in
    simp (is, to_z-of_z) w.four

pub returns : goal.returns
returns c =
    let d : ℤ = c.args.shape.now.row_total in
    let q : ℤ = c.args.shape.now.discount.1 in
    let m : ℤ = pos (max 1 (unsigned_abs c.args.reward)) in
    let r_fits : FitsSigned w128 c.args.reward = c.ranges.reward in
    let is : c.magnitude_or_one.result ≡ m = simp to_z-of_z at c.magnitude_or_one.ensures in
    let w = width-fits d q m (omega (arith, ints)) (omega (arith, ints)) (greater_small c.args.reward c.requires.reward) in
    let d_fits = w.d_fits in
    let q_fits = w.q_fits in
    let m_fits = w.m_fits in
    let two = w.two in
    let three = w.three in
    let four = w.four in
    simp (is, to_z-of_z) (search rules)
