use Rattle.std.proofs.Common.{◌≤◌, ℤ, ◌*ℤ◌, unsigned_abs, refl, ap, ◌∙◌, FitsSigned, w64, to_z, to_z-of_z, rules}
use Rattle.simplex.proofs.Short.{product_word}
use Rattle.simplex.proofs.quotients.short_quotient.Goals as goal

pub returns-clause-exact : goal.returns-clause-exact
returns-clause-exact c =
    let found : ℤ = c.cast_signed-found.result in
    let v : FitsSigned w64 c.args.value = c.ranges.value in
    let b : FitsSigned w64 c.args.by = c.ranges.by in
    let m : FitsSigned w64 c.args.most = c.ranges.most in
    let g : FitsSigned w64 found = search rules in
    let small : unsigned_abs found ≤ unsigned_abs c.args.most = (simp to_z-of_z at c.if-not-is_within.ensures) refl in
    let p : FitsSigned w64 (c.args.by *ℤ found) = product_word c.args.by found c.args.most c.requires.narrow small in
    ap (λ (y : ℤ). c.args.by *ℤ y) (to_z-of_z {w = w64} g) ∙ (simp to_z-of_z at (ap (to_z w64) c.if-by-found.false))

pub overflow_mul-by : goal.overflow_mul-by
overflow_mul-by c =
    let found : ℤ = c.cast_signed-found.result in
    let b : FitsSigned w64 c.args.by = c.ranges.by in
    let m : FitsSigned w64 c.args.most = c.ranges.most in
    let g : FitsSigned w64 found = search rules in
    let small : unsigned_abs found ≤ unsigned_abs c.args.most = (simp to_z-of_z at c.if-not-is_within.ensures) refl in
    simp to_z-of_z (product_word c.args.by found c.args.most c.requires.narrow small)
