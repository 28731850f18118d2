use Rattle.std.proofs.Common.{arith, rules, of_z, subst, to_z}
use Rattle.std.specs.Prelude.{ℤ, pos, FitsSigned}
use Rattle.std.specs.Int.{w128}
use Rattle.std.proofs.lemmas.Int.{to_z-of_z}
use Rattle.std.specs.List.{AllByRecursion}
use Rattle.game_model.specs.Game.{numbers}
use Rattle.game_model.specs.Branches.{IsBranch, branch_of}
use Rattle.game_model.specs.declared.branches.Branch.{Branch}
use Rattle.controller.proofs.branches.are_in_range.Goals as goal
use Rattle.scaled_num.proofs.Each.{each-by-place}

pub returns : goal.returns
returns c =
    let fits : FitsSigned w128 c.args.most = search rules in (
      λ t. subst (λ (most : ℤ). AllByRecursion (λ (b : Branch). IsBranch (numbers c.args.game.now) c.args.members most (branch_of b)) c.args.branches.now) (to_z-of_z w128 c.args.most fits)
          (each-by-place (λ (b : Branch). IsBranch (numbers c.args.game.now) c.args.members (to_z w128 (of_z w128 c.args.most)) (branch_of b)) (record { a = 0; o = 0; k = 0; weight = pos 0 })
          c.args.branches.now (λ k l. c.loop-branch.invariant k (omega arith))),
      λ h. search rules,
    )
