use Rattle.std.proofs.Common.{◌≤◌, ◌^◌, ℤ, ◌*ℤ◌, ap, sym, subst, arith, lit<}
use Rattle.std.specs.Prelude.{unsigned_abs}
use Rattle.std.proofs.lemmas.Int.{ints}
use Rattle.game_text.proofs.Widths.{abs_limit, abs_product, fits_in, kept, high_limit, magnitude, limit_of}
use Rattle.game_text.proofs.rows.width.Goals as goal

pub overflow_mul-result-2 : goal.overflow_mul-result-2
overflow_mul-result-2 c =
    let total = c.args.shape.row_total in
    let under = c.args.shape.discount.1 in
    let d = abs_limit total (2 ^ 30) (omega (arith, ints, c.requires.shape.row_total.0)) c.requires.shape.row_total.1 in
    let q = abs_limit under (2 ^ 20) (omega (arith, ints, c.requires.shape.discount.0, c.requires.shape.discount.1)) c.requires.shape.discount.2 in
    let dq = abs_product total under (2 ^ 30) (2 ^ 20) d q in
    rw (kept total (2 ^ 30) d (lit< tt), kept under (2 ^ 20) q (lit< tt), kept (total *ℤ under) (2 ^ 50) dq (lit< tt))
    (fits_in (total *ℤ under *ℤ under) (2 ^ 70) (abs_product (total *ℤ under) under (2 ^ 50) (2 ^ 20) dq q) (lit< tt))

pub overflow_mul-result-3 : goal.overflow_mul-result-3
overflow_mul-result-3 c =
    let total = c.args.shape.row_total in
    let under = c.args.shape.discount.1 in
    let d = abs_limit total (2 ^ 30) (omega (arith, ints, c.requires.shape.row_total.0)) c.requires.shape.row_total.1 in
    let q = abs_limit under (2 ^ 20) (omega (arith, ints, c.requires.shape.discount.0, c.requires.shape.discount.1)) c.requires.shape.discount.2 in
    let dq = abs_product total under (2 ^ 30) (2 ^ 20) d q in
    let dqq = abs_product (total *ℤ under) under (2 ^ 50) (2 ^ 20) dq q in
    let r = high_limit c.args.reward (2 ^ 30) c.requires.low c.requires.high in
    let m = magnitude c.args.reward c.abs.result c.max.result r c.abs.ensures.value c.max.ensures.value in
    let small : unsigned_abs c.max.result ≤ 2 ^ 30 = subst (λ (z : ℤ). unsigned_abs z ≤ 2 ^ 30) (sym m) (limit_of (unsigned_abs c.args.reward) r) in
    rw (kept total (2 ^ 30) d (lit< tt), kept under (2 ^ 20) q (lit< tt), kept (total *ℤ under) (2 ^ 50) dq (lit< tt), kept (total *ℤ under *ℤ under) (2 ^ 70) dqq (lit< tt), kept c.max.result (2 ^ 30) small (lit< tt))
    (fits_in (total *ℤ under *ℤ under *ℤ c.max.result) (2 ^ 100) (abs_product (total *ℤ under *ℤ under) c.max.result (2 ^ 70) (2 ^ 30) dqq small) (lit< tt))

pub returns : goal.returns
returns c =
    let total = c.args.shape.row_total in
    let under = c.args.shape.discount.1 in
    let d = abs_limit total (2 ^ 30) (omega (arith, ints, c.requires.shape.row_total.0)) c.requires.shape.row_total.1 in
    let q = abs_limit under (2 ^ 20) (omega (arith, ints, c.requires.shape.discount.0, c.requires.shape.discount.1)) c.requires.shape.discount.2 in
    let dq = abs_product total under (2 ^ 30) (2 ^ 20) d q in
    let dqq = abs_product (total *ℤ under) under (2 ^ 50) (2 ^ 20) dq q in
    let r = high_limit c.args.reward (2 ^ 30) c.requires.low c.requires.high in
    let m = magnitude c.args.reward c.abs.result c.max.result r c.abs.ensures.value c.max.ensures.value in
    let small : unsigned_abs c.max.result ≤ 2 ^ 30 = subst (λ (z : ℤ). unsigned_abs z ≤ 2 ^ 30) (sym m) (limit_of (unsigned_abs c.args.reward) r) in
    let dqqm = abs_product (total *ℤ under *ℤ under) c.max.result (2 ^ 70) (2 ^ 30) dqq small in
    rw (kept total (2 ^ 30) d (lit< tt), kept under (2 ^ 20) q (lit< tt), kept (total *ℤ under) (2 ^ 50) dq (lit< tt), kept (total *ℤ under *ℤ under) (2 ^ 70) dqq (lit< tt), kept c.max.result (2 ^ 30) small (lit< tt), kept (total *ℤ under *ℤ under *ℤ c.max.result) (2 ^ 100) dqqm (lit< tt))
    (ap (λ (z : ℤ). total *ℤ under *ℤ under *ℤ z) m)
