use Rattle.std.proofs.Common.{◌≡◌, ℤ, Vec, Global, length, arith, ap, ◌∙◌, sym}
use borrow.Author.Count.{below_more}
use Rattle.simplex.specs.Tableau.{list_at}
use Rattle.simplex.proofs.Rows.{list_at-is}
use Rattle.worked_rows.proofs.programs.all_wide.Goals as goal

pub loop-place-preserved : goal.loop-place-preserved
loop-place-preserved c =
    let is : list_at c.args.rows.now c.loop-place.place ≡ c.index-rows-place.result.items = list_at-is c.args.rows.now c.loop-place.place c.index-rows-place.result (omega arith) ∙ ap (λ (v : Vec ℤ Global). v.items) (sym c.index-rows-place.is) in
    let long : length c.index-rows-place.result.items ≡ c.args.width = (let a = c.len.ensures in let b = c.if-len-width.false in let o = c.index-rows-place.result.ok.0 in omega arith) in
    below_more _ _ c.loop-place.invariant (ap length is ∙ long)
