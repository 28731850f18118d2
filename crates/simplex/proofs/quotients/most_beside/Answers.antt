use Rattle.std.proofs.Common.{◌≡◌, ◌<◌, ◌≤◌, ◌*◌, ◌/◌, ◌^◌, ℕ, ℤ, pos, sym, subst, unsigned_abs, FitsSigned, to_z, to_z-of_z, arith, div-le_self}
use Rattle.std.specs.Int.{w64}
use Rattle.std.proofs.lemmas.Int.{to_z_pos}
use Rattle.simplex.specs.Program.{entry_limit, IsNarrow}
use Rattle.simplex.proofs.Short.{beside_narrow}
use Rattle.simplex.proofs.quotients.most_beside.Goals as goal

pub returns-clause-narrow : goal.returns-clause-narrow
returns-clause-narrow c =
    let f : FitsSigned w64 c.args.factor = c.ranges.factor in
    let top : c.unsigned_abs.result ≡ 4611686018427387903 = c.unsigned_abs.ensures.value in
    let size : c.unsigned_abs-2.result ≡ unsigned_abs c.args.factor = simp to_z-of_z at c.unsigned_abs-2.ensures.value in
    let most : c.unsigned_abs.result / c.max.result ≤ c.unsigned_abs.result = div-le_self c.unsigned_abs.result c.max.result in
    let plain : to_z w64 (c.unsigned_abs.result / c.max.result) ≡ pos (c.unsigned_abs.result / c.max.result) = to_z_pos w64 _ (omega arith) in
    let greater : unsigned_abs c.args.factor ≤ c.max.result = omega (arith, size, c.max.ensures) in
    let some : 0 < c.max.result = omega (arith, c.max.ensures) in
    subst (λ (y : ℤ). unsigned_abs c.args.factor * unsigned_abs y < entry_limit) (sym plain)
    (subst (λ (t : ℕ). unsigned_abs c.args.factor * (t / c.max.result) < 2 ^ 62) (sym top) (beside_narrow (unsigned_abs c.args.factor) c.max.result greater some))

pub returns-clause-small : goal.returns-clause-small
returns-clause-small c =
    let top : c.unsigned_abs.result ≡ 4611686018427387903 = c.unsigned_abs.ensures.value in
    let most : c.unsigned_abs.result / c.max.result ≤ c.unsigned_abs.result = div-le_self c.unsigned_abs.result c.max.result in
    let plain : to_z w64 (c.unsigned_abs.result / c.max.result) ≡ pos (c.unsigned_abs.result / c.max.result) = to_z_pos w64 _ (omega arith) in
    subst IsNarrow (sym plain) (let i : c.unsigned_abs.result / c.max.result < 2 ^ 62 = omega arith in i)
