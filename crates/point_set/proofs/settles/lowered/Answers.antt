use Rattle.std.proofs.Common.{rules, subst}
use Rattle.std.specs.Prelude.{ℤ, FitsSigned}
use Rattle.std.specs.Int.{w128}
use Rattle.std.proofs.lemmas.Int.{to_z-of_z}
use Rattle.point_set.specs.Changes.{IsCeiling}
use Rattle.point_set.proofs.settles.lowered.Goals as goal

pub returns : goal.returns
returns c =
    let w : ℤ = c.greatest_worth-worth.result in
    let q : ℤ = c.ceil_div.result in
    let d : ℤ = c.divisor.result in
    let old : ℤ = c.args.point.now.value in
    let w_fits : FitsSigned w128 w = search rules in
    let q_fits : FitsSigned w128 q = search rules in
    let d_fits : FitsSigned w128 d = search rules in
    let old_fits : FitsSigned w128 old = search rules in
    let m_fits : FitsSigned w128 c.min.result = search rules in
    let high = simp to_z-of_z at c.ceil_div.ensures.high in
    let low = simp to_z-of_z at c.ceil_div.ensures.low in
    let value = simp to_z-of_z at c.min.ensures.value in
    let ceiling : IsCeiling q w d = record { high = high; low = low } in
    simp to_z-of_z (record {
      worth = w;
      greatest = c.greatest_worth-worth.ensures;
      quotient = q;
      ceiling = subst (IsCeiling q w) c.divisor.ensures ceiling;
      lesser = value;
    })
