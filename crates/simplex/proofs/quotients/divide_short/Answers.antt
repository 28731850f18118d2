use Rattle.std.proofs.Common.{◌≡◌, ◌≤◌, ◌<◌, ◌*◌, ℕ, ◌+◌, ℤ, ◌*ℤ◌, List, set, sym, refl, ap, subst, ◌∙◌, unsigned_abs, FitsSigned, w64, to_z, of_z, to_z-of_z, arith, rules}
use Rattle.std.specs.Int.{w128}
use Rattle.simplex.specs.Program.{at, entry_limit, IsNarrow}
use Rattle.simplex.specs.Elimination.{left_of, AreQuotients}
use Rattle.simplex.proofs.Narrow.{narrow_fits, narrow_fits_64}
use Rattle.simplex.proofs.Short.{narrow_beside, quotients_more}
use Rattle.simplex.proofs.quotients.divide_short.Goals as goal

pub short_difference-left-requires-clause-own : goal.short_difference-left-requires-clause-own
short_difference-left-requires-clause-own c =
    let row : List ℤ = c.args.row.now in
    let words : List ℤ = c.args.words.now in
    let n : ℕ = c.loop-column.column in
    let same = c.requires.same in
    let f1 : FitsSigned w64 c.args.lead = c.ranges.lead in
    let f2 : FitsSigned w64 c.args.part = c.ranges.part in
    let f3 : FitsSigned w64 c.args.by = c.ranges.by in
    let f4 : FitsSigned w128 (at row n) = narrow_fits _ (c.requires.row n (omega arith)) in
    let f5 : FitsSigned w64 (at row n) = narrow_fits_64 _ (c.requires.row n (omega arith)) in
    let f6 : FitsSigned w64 (at words n) = search rules in
    let f7 : FitsSigned w64 c.most_beside-own_most.result = search rules in
    let f8 : FitsSigned w64 c.most_beside-word_most.result = search rules in
    let f9 : FitsSigned w64 c.most_beside-most.result = search rules in
    let most : unsigned_abs c.args.lead * unsigned_abs c.most_beside-own_most.result < entry_limit = simp to_z-of_z at c.most_beside-own_most.ensures.narrow in
    let within : unsigned_abs (at row n) ≤ unsigned_abs c.most_beside-own_most.result = (simp to_z-of_z at c.if-not-is_within.ensures) refl in
    simp to_z-of_z (narrow_beside c.args.lead (at row n) c.most_beside-own_most.result most within)

pub short_difference-left-requires-clause-word : goal.short_difference-left-requires-clause-word
short_difference-left-requires-clause-word c =
    let row : List ℤ = c.args.row.now in
    let words : List ℤ = c.args.words.now in
    let n : ℕ = c.loop-column.column in
    let same = c.requires.same in
    let f1 : FitsSigned w64 c.args.lead = c.ranges.lead in
    let f2 : FitsSigned w64 c.args.part = c.ranges.part in
    let f3 : FitsSigned w64 c.args.by = c.ranges.by in
    let f4 : FitsSigned w128 (at row n) = narrow_fits _ (c.requires.row n (omega arith)) in
    let f5 : FitsSigned w64 (at row n) = narrow_fits_64 _ (c.requires.row n (omega arith)) in
    let f6 : FitsSigned w64 (at words n) = search rules in
    let f7 : FitsSigned w64 c.most_beside-own_most.result = search rules in
    let f8 : FitsSigned w64 c.most_beside-word_most.result = search rules in
    let f9 : FitsSigned w64 c.most_beside-most.result = search rules in
    let most : unsigned_abs c.args.part * unsigned_abs c.most_beside-word_most.result < entry_limit = simp to_z-of_z at c.most_beside-word_most.ensures.narrow in
    let within : unsigned_abs (at words n) ≤ unsigned_abs c.most_beside-word_most.result = (simp to_z-of_z at c.if-not-is_within-2.ensures) refl in
    simp to_z-of_z (narrow_beside c.args.part (at words n) c.most_beside-word_most.result most within)

pub loop-column-preserved : goal.loop-column-preserved
loop-column-preserved c =
    let row : List ℤ = c.args.row.now in
    let words : List ℤ = c.args.words.now in
    let n : ℕ = c.loop-column.column in
    let same = c.requires.same in
    let f1 : FitsSigned w64 c.args.lead = c.ranges.lead in
    let f2 : FitsSigned w64 c.args.part = c.ranges.part in
    let f3 : FitsSigned w64 c.args.by = c.ranges.by in
    let f4 : FitsSigned w128 (at row n) = narrow_fits _ (c.requires.row n (omega arith)) in
    let f5 : FitsSigned w64 (at row n) = narrow_fits_64 _ (c.requires.row n (omega arith)) in
    let f6 : FitsSigned w64 (at words n) = search rules in
    let f7 : FitsSigned w64 c.most_beside-own_most.result = search rules in
    let f8 : FitsSigned w64 c.most_beside-word_most.result = search rules in
    let f9 : FitsSigned w64 c.most_beside-most.result = search rules in
    let found : ℤ = c.in-Some.found in
    let d : FitsSigned w64 c.short_difference-left.result = search rules in
    let within : unsigned_abs found ≤ unsigned_abs c.most_beside-most.result = simp to_z-of_z at c.in-Some.ensures.most in
    let small : IsNarrow c.most_beside-most.result = c.most_beside-most.ensures.small in
    let narrow : IsNarrow found = omega arith in
    let g1 : FitsSigned w128 found = narrow_fits _ narrow in
    let g2 : FitsSigned w64 found = narrow_fits_64 _ narrow in
    let from : c.from.result ≡ found = simp to_z-of_z at c.from.ensures in
    let left : c.short_difference-left.result ≡ left_of c.args.lead c.args.part row words n = simp to_z-of_z at c.short_difference-left.ensures in
    let exact : c.args.by *ℤ found ≡ c.short_difference-left.result = simp to_z-of_z at c.in-Some.ensures.exact in
    let written : to_z w128 (of_z w128 c.from.result) ≡ found = ap (λ (y : ℤ). to_z w128 (of_z w128 y)) from ∙ to_z-of_z {w = w128} g1 in
    let so : AreQuotients c.args.lead c.args.part row words c.args.by n c.loop-column.new = simp to_z-of_z at c.loop-column.invariant in
    simp to_z-of_z (subst (λ (y : ℤ). AreQuotients c.args.lead c.args.part row words c.args.by (n + 1) (set c.loop-column.new n y)) (sym written)
    (quotients_more c.args.lead c.args.part row words c.args.by n c.loop-column.new found (let a = c.loop-column.auto.new in let r = c.requires.room in omega arith) so (exact ∙ left) narrow))

pub returns-in_default-clause-done : goal.returns-in_default-clause-done
returns-in_default-clause-done c =
    let f1 : FitsSigned w64 c.args.lead = c.ranges.lead in
    let f2 : FitsSigned w64 c.args.part = c.ranges.part in
    let f3 : FitsSigned w64 c.args.by = c.ranges.by in
    simp to_z-of_z at c.loop-column.invariant
