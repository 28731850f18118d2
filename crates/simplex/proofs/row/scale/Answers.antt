use Rattle.std.proofs.Common.{◌≡◌, ◌≤◌, ◌<◌, ◌^◌, ◌*ℤ◌, ℕ, ℤ, ap, ◌∙◌, sym, subst, FitsSigned, to_z-of_z, arith, rules, unsigned_abs, [], ◌∷◌, lit≤}
use Rattle.std.specs.Int.{w128}
use Rattle.std.proofs.lemmas.Int.{fits_signed_from_abs}
use Rattle.scaled_num.proofs.Ring.{ring, x, ◌⊗◌}
use Rattle.simplex.specs.Program.{at}
use Rattle.simplex.proofs.Divided.{set_more, set_left}
use Rattle.simplex.proofs.row.scale.Goals as goal

pub loop-place-preserved : goal.loop-place-preserved
loop-place-preserved c =
    let i : ℕ = c.loop-place.place in
    let here : ℤ = at c.loop-place.numbers i in
    let was : here ≡ at c.args.numbers.now i = c.loop-place.invariant.left i (omega arith) in
    let f1 : FitsSigned w128 c.args.factor = c.ranges.factor in
    let f2 : FitsSigned w128 here = search rules in
    let product : here *ℤ c.args.factor ≡ c.args.factor *ℤ at c.args.numbers.now i = ap (λ (y : ℤ). y *ℤ c.args.factor) was ∙ ring (at c.args.numbers.now i ∷ c.args.factor ∷ []) (x 0 ⊗ x 1) (x 1 ⊗ x 0) (omega arith) in
    let f3 : FitsSigned w128 (here *ℤ c.args.factor) = fits_signed_from_abs w128 _ (let h = subst (λ (y : ℤ). unsigned_abs y < 2 ^ 125) (sym product) (c.requires.small i (omega arith)) in let wide : 2 ^ 125 ≤ 2 ^ 127 = lit≤ tt in omega arith) in
    record {
      done = simp to_z-of_z (set_more c.loop-place.numbers i _ (λ k. c.args.factor *ℤ at c.args.numbers.now k) (omega arith) (simp to_z-of_z at c.loop-place.invariant.done) product);
      left = set_left c.loop-place.numbers c.args.numbers.now i _ c.loop-place.invariant.left;
    }
