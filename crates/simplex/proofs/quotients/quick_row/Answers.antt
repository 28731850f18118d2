use Rattle.std.proofs.Common.{◌≡◌, ◌<◌, ◌≤◌, ◌+◌, ◌/◌, ◌*ℤ◌, ℕ, ℤ, pos, List, length, refl, ap, subst, ◌∙◌, unsigned_abs, FitsSigned, to_z, to_z-of_z, arith, div-le_self}
use Rattle.std.specs.Int.{w64, w128}
use Rattle.std.proofs.Math.Nat.{mul-div_cancel'}
use Rattle.std.proofs.lemmas.Int.{to_z_pos}
use Rattle.simplex.specs.Program.{at, IsNarrow}
use Rattle.simplex.specs.Elimination.{eliminated, AreQuotients}
use Rattle.simplex.proofs.Narrow.{narrow_fits, narrow_fits_64}
use Rattle.simplex.proofs.Short.{left_is, common_there, common_less, made_by_quotients, quotients_scaled}
use Rattle.simplex.proofs.quotients.quick_row.Goals as goal

pub size_at-requires-clause-part : goal.size_at-requires-clause-part
size_at-requires-clause-part c =
    let row : List ℤ = c.args.row.now in
    let pivot : List ℤ = c.args.pivot.now in
    let words : List ℤ = c.args.words.now in
    let q : ℕ = c.args.place in
    let lead_narrow : IsNarrow (at pivot (q + 2)) = c.requires.pivot _ (let i = c.requires.place in let s = c.requires.same in omega arith) in
    let part_narrow : IsNarrow (at row (q + 2)) = c.requires.row _ c.requires.place in
    let f1 : FitsSigned w128 (at pivot (q + 2)) = narrow_fits _ lead_narrow in
    let f2 : FitsSigned w64 (at pivot (q + 2)) = narrow_fits_64 _ lead_narrow in
    let f3 : FitsSigned w128 (at row (q + 2)) = narrow_fits _ part_narrow in
    let f4 : FitsSigned w64 (at row (q + 2)) = narrow_fits_64 _ part_narrow in
    simp to_z-of_z part_narrow

pub loop-init : goal.loop-init
loop-init c =
    let row : List ℤ = c.args.row.now in
    let pivot : List ℤ = c.args.pivot.now in
    let words : List ℤ = c.args.words.now in
    let q : ℕ = c.args.place in
    let lead_narrow : IsNarrow (at pivot (q + 2)) = c.requires.pivot _ (let i = c.requires.place in let s = c.requires.same in omega arith) in
    let part_narrow : IsNarrow (at row (q + 2)) = c.requires.row _ c.requires.place in
    let f1 : FitsSigned w128 (at pivot (q + 2)) = narrow_fits _ lead_narrow in
    let f2 : FitsSigned w64 (at pivot (q + 2)) = narrow_fits_64 _ lead_narrow in
    let f3 : FitsSigned w128 (at row (q + 2)) = narrow_fits _ part_narrow in
    let f4 : FitsSigned w64 (at row (q + 2)) = narrow_fits_64 _ part_narrow in
    let first : c.size_at.result ≡ unsigned_abs (eliminated row pivot q 0) = (simp to_z-of_z at c.size_at.ensures) ∙ ap unsigned_abs (left_is row pivot words q 0 (omega arith) c.requires.words) in
    let last : c.size_at-ends.result ≡ unsigned_abs (eliminated row pivot q (q + 2)) = (simp to_z-of_z at c.size_at-ends.ensures) ∙ ap unsigned_abs (left_is row pivot words q (q + 2) (omega arith) c.requires.words) in
    let there = common_there row pivot q c.size_at.result c.size_at-ends.result c.gcd-common.result (let i = c.requires.place in omega arith) c.requires.place c.requires.lead c.requires.pivot_lead first last c.gcd-common.ensures in
    record { positive = there.0; bound = there.1; inside = omega arith; quotients = λ k kl. absurd (omega arith) }

pub divide-column-requires-clause-lead : goal.divide-column-requires-clause-lead
divide-column-requires-clause-lead c =
    let row : List ℤ = c.args.row.now in
    let pivot : List ℤ = c.args.pivot.now in
    let words : List ℤ = c.args.words.now in
    let q : ℕ = c.args.place in
    let lead_narrow : IsNarrow (at pivot (q + 2)) = c.requires.pivot _ (let i = c.requires.place in let s = c.requires.same in omega arith) in
    let part_narrow : IsNarrow (at row (q + 2)) = c.requires.row _ c.requires.place in
    let f1 : FitsSigned w128 (at pivot (q + 2)) = narrow_fits _ lead_narrow in
    let f2 : FitsSigned w64 (at pivot (q + 2)) = narrow_fits_64 _ lead_narrow in
    let f3 : FitsSigned w128 (at row (q + 2)) = narrow_fits _ part_narrow in
    let f4 : FitsSigned w64 (at row (q + 2)) = narrow_fits_64 _ part_narrow in
    simp to_z-of_z lead_narrow

pub divide-column-requires-clause-part : goal.divide-column-requires-clause-part
divide-column-requires-clause-part c =
    let row : List ℤ = c.args.row.now in
    let pivot : List ℤ = c.args.pivot.now in
    let words : List ℤ = c.args.words.now in
    let q : ℕ = c.args.place in
    let lead_narrow : IsNarrow (at pivot (q + 2)) = c.requires.pivot _ (let i = c.requires.place in let s = c.requires.same in omega arith) in
    let part_narrow : IsNarrow (at row (q + 2)) = c.requires.row _ c.requires.place in
    let f1 : FitsSigned w128 (at pivot (q + 2)) = narrow_fits _ lead_narrow in
    let f2 : FitsSigned w64 (at pivot (q + 2)) = narrow_fits_64 _ lead_narrow in
    let f3 : FitsSigned w128 (at row (q + 2)) = narrow_fits _ part_narrow in
    let f4 : FitsSigned w64 (at row (q + 2)) = narrow_fits_64 _ part_narrow in
    simp to_z-of_z part_narrow

pub divide-column-requires-clause-before : goal.divide-column-requires-clause-before
divide-column-requires-clause-before c =
    let row : List ℤ = c.args.row.now in
    let pivot : List ℤ = c.args.pivot.now in
    let words : List ℤ = c.args.words.now in
    let q : ℕ = c.args.place in
    let lead_narrow : IsNarrow (at pivot (q + 2)) = c.requires.pivot _ (let i = c.requires.place in let s = c.requires.same in omega arith) in
    let part_narrow : IsNarrow (at row (q + 2)) = c.requires.row _ c.requires.place in
    let f1 : FitsSigned w128 (at pivot (q + 2)) = narrow_fits _ lead_narrow in
    let f2 : FitsSigned w64 (at pivot (q + 2)) = narrow_fits_64 _ lead_narrow in
    let f3 : FitsSigned w128 (at row (q + 2)) = narrow_fits _ part_narrow in
    let f4 : FitsSigned w64 (at row (q + 2)) = narrow_fits_64 _ part_narrow in
    let plain : to_z w64 c.loop.common ≡ pos c.loop.common = to_z_pos w64 c.loop.common (omega arith) in
    rw plain (simp to_z-of_z c.loop.invariant.quotients)

pub returns-then-column-row : goal.returns-then-column-row
returns-then-column-row c = λ yes.
    let row : List ℤ = c.args.row.now in
    let pivot : List ℤ = c.args.pivot.now in
    let words : List ℤ = c.args.words.now in
    let q : ℕ = c.args.place in
    let lead_narrow : IsNarrow (at pivot (q + 2)) = c.requires.pivot _ (let i = c.requires.place in let s = c.requires.same in omega arith) in
    let part_narrow : IsNarrow (at row (q + 2)) = c.requires.row _ c.requires.place in
    let f1 : FitsSigned w128 (at pivot (q + 2)) = narrow_fits _ lead_narrow in
    let f2 : FitsSigned w64 (at pivot (q + 2)) = narrow_fits_64 _ lead_narrow in
    let f3 : FitsSigned w128 (at row (q + 2)) = narrow_fits _ part_narrow in
    let f4 : FitsSigned w64 (at row (q + 2)) = narrow_fits_64 _ part_narrow in
    let plain : to_z w64 c.loop.common ≡ pos c.loop.common = to_z_pos w64 c.loop.common (omega arith) in
    let so : AreQuotients (at pivot (q + 2)) (at row (q + 2)) row words (pos c.loop.common) c.divide-column.result c.divide-column.new.new = simp to_z-of_z at (rw plain at c.divide-column.ensures.done) in
    made_by_quotients row pivot words q c.loop.common c.divide-column.new.new c.requires.same (let a = c.divide-column.auto.new in let b = c.loop.auto.new in let r = c.requires.room in omega arith) c.loop.invariant.positive c.requires.words c.loop.invariant.bound
    (subst (λ (n : ℕ). AreQuotients (at pivot (q + 2)) (at row (q + 2)) row words (pos c.loop.common) n c.divide-column.new.new) (let e : c.divide-column.result ≡ length row = omega (arith, c.if-column-row.true) in e) so)

pub size_at-requires-in-loop-clause-lead : goal.size_at-requires-in-loop-clause-lead
size_at-requires-in-loop-clause-lead c =
    let row : List ℤ = c.args.row.now in
    let pivot : List ℤ = c.args.pivot.now in
    let words : List ℤ = c.args.words.now in
    let q : ℕ = c.args.place in
    let lead_narrow : IsNarrow (at pivot (q + 2)) = c.requires.pivot _ (let i = c.requires.place in let s = c.requires.same in omega arith) in
    let part_narrow : IsNarrow (at row (q + 2)) = c.requires.row _ c.requires.place in
    let f1 : FitsSigned w128 (at pivot (q + 2)) = narrow_fits _ lead_narrow in
    let f2 : FitsSigned w64 (at pivot (q + 2)) = narrow_fits_64 _ lead_narrow in
    let f3 : FitsSigned w128 (at row (q + 2)) = narrow_fits _ part_narrow in
    let f4 : FitsSigned w64 (at row (q + 2)) = narrow_fits_64 _ part_narrow in
    simp to_z-of_z lead_narrow

pub size_at-requires-in-loop-clause-part : goal.size_at-requires-in-loop-clause-part
size_at-requires-in-loop-clause-part c =
    let row : List ℤ = c.args.row.now in
    let pivot : List ℤ = c.args.pivot.now in
    let words : List ℤ = c.args.words.now in
    let q : ℕ = c.args.place in
    let lead_narrow : IsNarrow (at pivot (q + 2)) = c.requires.pivot _ (let i = c.requires.place in let s = c.requires.same in omega arith) in
    let part_narrow : IsNarrow (at row (q + 2)) = c.requires.row _ c.requires.place in
    let f1 : FitsSigned w128 (at pivot (q + 2)) = narrow_fits _ lead_narrow in
    let f2 : FitsSigned w64 (at pivot (q + 2)) = narrow_fits_64 _ lead_narrow in
    let f3 : FitsSigned w128 (at row (q + 2)) = narrow_fits _ part_narrow in
    let f4 : FitsSigned w64 (at row (q + 2)) = narrow_fits_64 _ part_narrow in
    simp to_z-of_z part_narrow

pub nonzero_div-common : goal.nonzero_div-common
nonzero_div-common c =
    let row : List ℤ = c.args.row.now in
    let pivot : List ℤ = c.args.pivot.now in
    let words : List ℤ = c.args.words.now in
    let q : ℕ = c.args.place in
    let lead_narrow : IsNarrow (at pivot (q + 2)) = c.requires.pivot _ (let i = c.requires.place in let s = c.requires.same in omega arith) in
    let part_narrow : IsNarrow (at row (q + 2)) = c.requires.row _ c.requires.place in
    let f1 : FitsSigned w128 (at pivot (q + 2)) = narrow_fits _ lead_narrow in
    let f2 : FitsSigned w64 (at pivot (q + 2)) = narrow_fits_64 _ lead_narrow in
    let f3 : FitsSigned w128 (at row (q + 2)) = narrow_fits _ part_narrow in
    let f4 : FitsSigned w64 (at row (q + 2)) = narrow_fits_64 _ part_narrow in
    let n : ℕ = c.divide-column.result in
    let nl : n < length row = (let a = c.divide-column.ensures.inside in let b = c.if-column-row.false in omega arith) in
    let size : c.size_at-in-loop.result ≡ unsigned_abs (eliminated row pivot q n) = (simp to_z-of_z at c.size_at-in-loop.ensures) ∙ ap unsigned_abs (left_is row pivot words q n (omega arith) c.requires.words) in
    let less = common_less row pivot q c.loop.common c.size_at-in-loop.result n c.gcd-less.result nl c.loop.invariant.positive c.loop.invariant.bound size c.gcd-less.ensures in
    less.0

pub loop-preserved : goal.loop-preserved
loop-preserved c =
    let row : List ℤ = c.args.row.now in
    let pivot : List ℤ = c.args.pivot.now in
    let words : List ℤ = c.args.words.now in
    let q : ℕ = c.args.place in
    let lead_narrow : IsNarrow (at pivot (q + 2)) = c.requires.pivot _ (let i = c.requires.place in let s = c.requires.same in omega arith) in
    let part_narrow : IsNarrow (at row (q + 2)) = c.requires.row _ c.requires.place in
    let f1 : FitsSigned w128 (at pivot (q + 2)) = narrow_fits _ lead_narrow in
    let f2 : FitsSigned w64 (at pivot (q + 2)) = narrow_fits_64 _ lead_narrow in
    let f3 : FitsSigned w128 (at row (q + 2)) = narrow_fits _ part_narrow in
    let f4 : FitsSigned w64 (at row (q + 2)) = narrow_fits_64 _ part_narrow in
    let n : ℕ = c.divide-column.result in
    let nl : n < length row = (let a = c.divide-column.ensures.inside in let b = c.if-column-row.false in omega arith) in
    let size : c.size_at-in-loop.result ≡ unsigned_abs (eliminated row pivot q n) = (simp to_z-of_z at c.size_at-in-loop.ensures) ∙ ap unsigned_abs (left_is row pivot words q n (omega arith) c.requires.words) in
    let less = common_less row pivot q c.loop.common c.size_at-in-loop.result n c.gcd-less.result nl c.loop.invariant.positive c.loop.invariant.bound size c.gcd-less.ensures in
    let plain : to_z w64 c.loop.common ≡ pos c.loop.common = to_z_pos w64 c.loop.common (omega arith) in
    let so : AreQuotients (at pivot (q + 2)) (at row (q + 2)) row words (pos c.loop.common) c.divide-column.result c.divide-column.new.new = simp to_z-of_z at (rw plain at c.divide-column.ensures.done) in
    let ratio : ℕ = c.loop.common / c.gcd-less.result in
    let most : ratio ≤ c.loop.common = div-le_self c.loop.common c.gcd-less.result in
    let wide : to_z w128 ratio ≡ pos ratio = to_z_pos w128 ratio (omega arith) in
    let whole : pos c.gcd-less.result *ℤ pos ratio ≡ pos c.loop.common = ap pos (mul-div_cancel' c.gcd-less.result c.gcd-less.ensures.0) in
    let e = c.if-not-scale.ensures in
    record {
      positive = less.0;
      bound = less.1;
      inside = c.divide-column.ensures.inside;
      quotients = quotients_scaled (at pivot (q + 2)) (at row (q + 2)) row words (pos c.loop.common) (pos c.gcd-less.result) (pos ratio) n c.divide-column.new.new c.scale.new.numbers whole so
          (λ k kl. e.done refl k kl ∙ ap (λ (y : ℤ). y *ℤ at c.divide-column.new.new k) wide) (λ k kl. e.narrow refl k kl);
    }
