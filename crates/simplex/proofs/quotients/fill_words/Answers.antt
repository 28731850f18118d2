use Rattle.std.proofs.Common.{ℕ, ℤ, ◌+◌, ◌+ℤ◌, List, refl, FitsSigned, to_z-of_z, arith}
use Rattle.std.specs.Int.{w64, w128}
use Rattle.std.proofs.lemmas.Int.{ints, fits_signed_from_abs}
use Rattle.simplex.specs.Program.{at, IsNarrow}
use Rattle.simplex.proofs.Narrow.{narrow_fits, narrow_fits_64}
use Rattle.simplex.proofs.Short.{words_filled}
use Rattle.simplex.proofs.quotients.fill_words.Goals as goal

pub returns : goal.returns
returns c =
    let pivot : List ℤ = c.args.pivot.now in
    let q : ℕ = c.args.place in
    let lead : ℤ = at pivot 0 in
    let here : ℤ = at pivot (q + 2) in
    let lead_narrow : IsNarrow lead = c.requires.pivot 0 (let i = c.requires.place in omega arith) in
    let here_narrow : IsNarrow here = c.requires.pivot (q + 2) c.requires.place in
    let f1 : FitsSigned w128 lead = narrow_fits _ lead_narrow in
    let f2 : FitsSigned w64 lead = narrow_fits_64 _ lead_narrow in
    let f3 : FitsSigned w128 here = narrow_fits _ here_narrow in
    let f4 : FitsSigned w64 here = narrow_fits_64 _ here_narrow in
    let f5 : FitsSigned w64 (here +ℤ lead) = fits_signed_from_abs w64 _ (omega (arith, ints)) in
    simp to_z-of_z (words_filled pivot c.loop-column.words q (here +ℤ lead) (let a = c.loop-column.auto.words in let r = c.requires.room in omega arith) c.requires.place
    (λ k kl. c.loop-column.invariant k (omega arith)) refl)
