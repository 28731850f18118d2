use Rattle.std.proofs.Common.{ℤ, sym, subst, FitsSigned, to_z-of_z}
use Rattle.std.specs.Int.{w128}
use Rattle.simplex.specs.Elimination.{DividedSoFar}
use Rattle.simplex.proofs.Divided.{divided_none}
use Rattle.simplex.proofs.row.divide_out.Goals as goal

pub loop-column-init : goal.loop-column-init
loop-column-init c =
    let f : FitsSigned w128 c.args.start = c.ranges.start in
    record {
      so_far = subst (λ (y : ℤ). DividedSoFar c.args.numbers.now c.args.numbers.now y 0) (sym (simp to_z-of_z at c.divisor_of-by.ensures.value)) (divided_none c.args.numbers.now c.args.start c.requires.positive c.requires.start);
      shift = c.divisor_of-by.ensures.shift;
    }

pub loop-column-preserved : goal.loop-column-preserved
loop-column-preserved c = record { so_far = c.divide_at-by.ensures.more _ c.loop-column.invariant.so_far; shift = c.divide_at-by.ensures.shift }
