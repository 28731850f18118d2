use Rattle.std.proofs.Common.{◌≡◌, ℕ, ap, ◌∙◌, unsigned_abs, FitsSigned, to_z-of_z, rules}
use Rattle.std.specs.Int.{w64, w128}
use Rattle.simplex.specs.Program.{at}
use Rattle.simplex.specs.Elimination.{left_of}
use Rattle.simplex.proofs.Narrow.{narrow_fits, narrow_fits_64}
use Rattle.simplex.proofs.quotients.size_at.Goals as goal

pub returns : goal.returns
returns c =
    let n : ℕ = c.args.column in
    let a : FitsSigned w64 c.args.lead = c.ranges.lead in
    let b : FitsSigned w64 c.args.part = c.ranges.part in
    let d : FitsSigned w128 (at c.args.row.now n) = narrow_fits _ (c.requires.row n c.requires.column) in
    let e : FitsSigned w64 (at c.args.row.now n) = narrow_fits_64 _ (c.requires.row n c.requires.column) in
    let f : FitsSigned w64 (at c.args.words.now n) = search rules in
    let g : FitsSigned w128 c.difference.result = search rules in
    let left : c.difference.result ≡ left_of c.args.lead c.args.part c.args.row.now c.args.words.now n = simp to_z-of_z at c.difference.ensures in
    let size : c.unsigned_abs.result ≡ unsigned_abs c.difference.result = simp to_z-of_z at c.unsigned_abs.ensures.value in
    size ∙ ap unsigned_abs left
