use Rattle.std.proofs.Common.{◌≡◌, ◌<◌, ◌+◌, ◌^◌, ◌<ℤ◌, ℕ, ℤ, pos, List, sym, subst, subst₂, FitsSigned, to_z-of_z, unsigned_abs, arith, rules, length}
use Rattle.std.specs.Int.{w128, ◌∣◌, IsGcd}
use Rattle.std.proofs.lemmas.Int.{ints, to_z_pos}
use Rattle.simplex.specs.Program.{at}
use Rattle.simplex.proofs.Divided.{common_positive, common_fits, start_common, combined_lead, is_made, is_made_wide}
use Rattle.simplex.proofs.Options.{IfNone_then, IfSome_three}
use Rattle.simplex.proofs.row.next_row.Goals as goal

pub overflow_cast-start : goal.overflow_cast-start
overflow_cast-start c =
    let new : List ℤ = c.combine.new.new in
    let lead : ℤ = at new 0 in
    let other : ℤ = at new (c.args.place + 2) in
    let f1 : FitsSigned w128 lead = search rules in
    let f2 : FitsSigned w128 other = search rules in
    let gcd : IsGcd (unsigned_abs lead) (unsigned_abs other) c.gcd-start.result = subst₂ (λ (a b : ℕ). IsGcd a b c.gcd-start.result) (simp to_z-of_z at c.unsigned_abs.ensures.value) (simp to_z-of_z at c.unsigned_abs-2.ensures.value) c.gcd-start.ensures in
    let positive : pos 0 <ℤ lead = combined_lead _ _ _ _ (omega arith) c.requires.lead c.requires.pivot_lead c.combine.ensures in
    let small : c.gcd-start.result < 2 ^ 127 = common_fits lead other _ f1 positive gcd in
    omega (arith, ints)

pub divide_out-requires-clause-positive : goal.divide_out-requires-clause-positive
divide_out-requires-clause-positive c =
    let new : List ℤ = c.combine.new.new in
    let lead : ℤ = at new 0 in
    let other : ℤ = at new (c.args.place + 2) in
    let f1 : FitsSigned w128 lead = search rules in
    let f2 : FitsSigned w128 other = search rules in
    let gcd : IsGcd (unsigned_abs lead) (unsigned_abs other) c.gcd-start.result = subst₂ (λ (a b : ℕ). IsGcd a b c.gcd-start.result) (simp to_z-of_z at c.unsigned_abs.ensures.value) (simp to_z-of_z at c.unsigned_abs-2.ensures.value) c.gcd-start.ensures in
    let positive : pos 0 <ℤ lead = combined_lead _ _ _ _ (omega arith) c.requires.lead c.requires.pivot_lead c.combine.ensures in
    let some : 0 < c.gcd-start.result = common_positive lead other _ positive gcd in
    subst (λ (y : ℤ). pos 0 <ℤ y) (sym (to_z_pos w128 c.gcd-start.result (common_fits lead other _ f1 positive gcd))) (omega (arith, ints))

pub divide_out-requires-clause-start : goal.divide_out-requires-clause-start
divide_out-requires-clause-start c =
    let new : List ℤ = c.combine.new.new in
    let lead : ℤ = at new 0 in
    let other : ℤ = at new (c.args.place + 2) in
    let f1 : FitsSigned w128 lead = search rules in
    let f2 : FitsSigned w128 other = search rules in
    let gcd : IsGcd (unsigned_abs lead) (unsigned_abs other) c.gcd-start.result = subst₂ (λ (a b : ℕ). IsGcd a b c.gcd-start.result) (simp to_z-of_z at c.unsigned_abs.ensures.value) (simp to_z-of_z at c.unsigned_abs-2.ensures.value) c.gcd-start.ensures in
    let positive : pos 0 <ℤ lead = combined_lead _ _ _ _ (omega arith) c.requires.lead c.requires.pivot_lead c.combine.ensures in
    let long : length new ≡ length c.args.row.now = c.combine.ensures.long in
    λ d h. subst (λ (y : ℤ). d ∣ unsigned_abs y) (sym (to_z_pos w128 c.gcd-start.result (common_fits lead other _ f1 positive gcd)))
    (start_common new (c.args.place + 2) c.gcd-start.result (let i = c.requires.place in omega arith) (let i = c.requires.place in omega arith) gcd d h)

pub returns-clause-none : goal.returns-clause-none
returns-clause-none c =
    let long : length c.divide_out.new.numbers ≡ length c.args.row.now = (let a = c.divide_out.auto.numbers in let b = c.combine.ensures.long in omega arith) in
    IfNone_then _ c.first_wide.ensures.none (is_made c.args.row.now c.args.pivot.now c.combine.new.new c.divide_out.new.numbers c.args.place long c.combine.ensures c.divide_out.ensures)

pub returns-clause-some : goal.returns-clause-some
returns-clause-some c =
    let long : length c.divide_out.new.numbers ≡ length c.args.row.now = (let a = c.divide_out.auto.numbers in let b = c.combine.ensures.long in omega arith) in
    IfSome_three _ c.first_wide.ensures.inside c.first_wide.ensures.wide c.first_wide.ensures.before
    (λ column. is_made_wide c.args.row.now c.args.pivot.now c.combine.new.new c.divide_out.new.numbers c.args.place column long c.combine.ensures c.divide_out.ensures)
