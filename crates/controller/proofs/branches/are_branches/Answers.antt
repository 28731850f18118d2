use Rattle.std.proofs.Common.{map, rules, of_z, subst, sym, to_z}
use Rattle.std.specs.Prelude.{ℤ, FitsSigned}
use Rattle.std.specs.Int.{w128}
use Rattle.std.proofs.lemmas.Int.{to_z-of_z}
use Rattle.std.specs.List.{AllByRecursion}
use Rattle.game_model.specs.Game.{numbers}
use Rattle.game_model.specs.Branches.{IsBranch, branch_of}
use Rattle.game_model.specs.declared.branches.Branch.{Branch}
use Rattle.controller.proofs.branches.are_branches.Goals as goal
use Rattle.scaled_num.proofs.Each.{each-of-map}
use Rattle.scaled_num.proofs.Sums.{each-map}

pub returns-then-are_rising : goal.returns-then-are_rising
returns-then-are_rising c =
    let fits : FitsSigned w128 c.args.most = search rules in
    let same = to_z-of_z w128 c.args.most fits in
    let In = IsBranch (numbers c.args.game.now) c.args.members in (
      λ t. record {
        rising = c.are_rising.ensures.0 c.if-are_rising.true;
        each = subst (λ (most : ℤ). AllByRecursion (In most) (map branch_of c.args.branches.now)) same
            (each-map (In (to_z w128 (of_z w128 c.args.most))) branch_of c.args.branches.now (c.are_in_range.ensures.0 t));
      },
      λ h. c.are_in_range.ensures.1 (subst (λ (most : ℤ). AllByRecursion (λ (b : Branch). In most (branch_of b)) c.args.branches.now) (sym same)
          (each-of-map (In c.args.most) branch_of c.args.branches.now h.each)),
    )
