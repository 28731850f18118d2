use Rattle.std.proofs.Common.{FitsSigned, to_z-of_z, rules}
use Rattle.std.specs.Int.{w128}
use Rattle.simplex.specs.Program.{at}
use Rattle.simplex.proofs.Divided.{divided_more}
use Rattle.simplex.proofs.row.divide_at.Goals as goal

pub returns-in-Some-clause-more : goal.returns-in-Some-clause-more
returns-in-Some-clause-more c = λ first so.
    let f1 : FitsSigned w128 c.in-Some.quotient = search rules in
    let f2 : FitsSigned w128 (at c.args.numbers.now c.args.column) = search rules in
    divided_more first c.args.numbers.now c.args.by.value _ c.args.column c.requires.column (simp to_z-of_z (simp to_z-of_z at c.in-Some.ensures)) so

pub returns-in-None-clause-more : goal.returns-in-None-clause-more
returns-in-None-clause-more c = let f : FitsSigned w128 c.args.by.value = search rules in simp to_z-of_z at c.shrink.ensures.more
