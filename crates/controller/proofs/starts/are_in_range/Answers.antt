use Rattle.std.proofs.Common.{arith, rules, of_z, subst, to_z}
use Rattle.std.specs.Prelude.{ℤ, FitsSigned}
use Rattle.std.specs.Int.{w128}
use Rattle.std.proofs.lemmas.Int.{to_z-of_z}
use Rattle.std.specs.List.{AllByRecursion}
use Rattle.controller.specs.Starts.{IsStart}
use Rattle.controller.proofs.StartTests.{no_start}
use Rattle.controller.proofs.starts.are_in_range.Goals as goal
use Rattle.scaled_num.proofs.Each.{each-by-place}

pub returns : goal.returns
returns c =
    let fits : FitsSigned w128 c.args.most = search rules in (
      λ t. subst (λ (most : ℤ). AllByRecursion (IsStart c.args.count most) c.args.starts.now) (to_z-of_z w128 c.args.most fits)
          (each-by-place (IsStart c.args.count (to_z w128 (of_z w128 c.args.most))) no_start c.args.starts.now (λ k l. c.loop-start.invariant k (omega arith))),
      λ h. search rules,
    )
