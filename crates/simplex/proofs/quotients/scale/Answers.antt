use Rattle.std.proofs.Common.{◌≡◌, ◌*ℤ◌, ℕ, ℤ, ap, ◌∙◌, inl, inr, true, false, unsigned_abs, FitsSigned, to_z-of_z, arith, rules}
use Rattle.std.specs.Int.{w128}
use Rattle.std.proofs.lemmas.Bool.{cases_lt}
use Rattle.simplex.specs.Program.{at, entry_limit, IsNarrow}
use Rattle.simplex.proofs.Divided.{set_more, set_left}
use Rattle.simplex.proofs.Short.{set_narrow}
use Rattle.simplex.proofs.quotients.scale.Goals as goal

pub loop-place-preserved : goal.loop-place-preserved
loop-place-preserved c =
    let i : ℕ = c.loop-place.place in
    let here : ℤ = at c.loop-place.numbers i in
    let value : ℤ = c.product-value.result in
    let was : here ≡ at c.args.numbers.now i = c.loop-place.invariant.left i (omega arith) in
    let f1 : FitsSigned w128 c.args.factor = c.ranges.factor in
    let f2 : FitsSigned w128 here = search rules in
    let f3 : FitsSigned w128 value = search rules in
    let product : value ≡ c.args.factor *ℤ at c.args.numbers.now i = (simp to_z-of_z at c.product-value.ensures.value) ∙ ap (λ (y : ℤ). c.args.factor *ℤ y) was in
    let wide = simp to_z-of_z at c.if-is_wide.ensures in
    let narrow : IsNarrow value = elim (cases_lt (unsigned_abs value) entry_limit) [
      | inl lt ↦ lt
      | inr ge ↦ absurd (let bad : false ≡ true = wide.1 ge in (cc))
    ] in
    record {
      done = simp to_z-of_z (set_more c.loop-place.numbers i value (λ k. c.args.factor *ℤ at c.args.numbers.now k) (omega arith) (simp to_z-of_z at c.loop-place.invariant.done) product);
      narrow = simp to_z-of_z (set_narrow c.loop-place.numbers i value (omega arith) c.loop-place.invariant.narrow narrow);
      left = set_left c.loop-place.numbers c.args.numbers.now i _ c.loop-place.invariant.left;
    }
