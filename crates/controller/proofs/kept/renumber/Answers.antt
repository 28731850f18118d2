use Rattle.std.proofs.Common.{◌<◌, length}
use Rattle.std.specs.Prelude.{pos}
use Rattle.game_model.specs.Branches.{Branch, branch_of}
use Rattle.game_model.specs.declared.branches.Branch.{Branch as BranchParts}
use Rattle.scaled_num.proofs.Each.{each-of-map}
use Rattle.scaled_num.proofs.Sums.{each-at}
use Rattle.controller.proofs.kept.renumber.Goals as goal

pub number-requires : goal.number-requires
number-requires c =
    each-at (λ (b : BranchParts). b.k < length c.args.numbering.now) (record { a = 0; o = 0; k = 0; weight = pos 0 }) c.args.branches.now c.loop-branch.branch-index
    (each-of-map (λ (b : Branch). b.member < length c.args.numbering.now) branch_of c.args.branches.now c.requires) c.loop-branch-test.true
