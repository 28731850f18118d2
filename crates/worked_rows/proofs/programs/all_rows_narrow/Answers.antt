use Rattle.std.proofs.Common.{ℤ, Vec, Global, arith, rules, subst, ap, ◌∙◌}
use borrow.Author.Count.{below_more}
use Rattle.simplex.specs.Program.{AllNarrow}
use Rattle.simplex.proofs.Rows.{read_row}
use Rattle.worked_rows.proofs.programs.all_rows_narrow.Goals as goal

pub loop-place-preserved : goal.loop-place-preserved
loop-place-preserved c = below_more _ _ c.loop-place.invariant
    (subst AllNarrow (read_row c.args.rows.now c.loop-place.place c.index-rows-place.result c.deref.result.now (omega arith) (c.deref.ensures.value ∙ ap (λ (v : Vec ℤ Global). v.items) c.index-rows-place.is)) (c.all_narrow.ensures (search rules)))
