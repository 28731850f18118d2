use Rattle.std.proofs.Common.{◌≡◌, ◌∙◌, ◌++◌, ◌∷◌, [], ℕ, ◌+◌, List, length, map, take, ap, get_or, subst, ◌<◌}
use Rattle.std.specs.Prelude.{pos}
use Rattle.std.proofs.lemmas.List.{map-append, take_all}
use Rattle.game_model.specs.Branches.{Branch, branch_of}
use Rattle.game_model.specs.declared.branches.Branch.{Branch as BranchParts}
use Rattle.controller.specs.Reached.{ListsAlso, IsListed, members_of}
use Rattle.controller.proofs.Listed.{first-more, listed-more}
use Rattle.controller.proofs.Reaching.{find-both}
use Rattle.controller.proofs.found.Found.add_named.Goals as goal

named-more : (branches : List BranchParts) (i : ℕ) (d : BranchParts) → i < length branches →
    members_of (map branch_of (take (i + 1) branches)) ≡ members_of (map branch_of (take i branches)) ++ (get_or branches i d).k ∷ []
named-more branches i d l =
    ap members_of (first-more branch_of branches i d l) ∙ map-append (λ (b : Branch). b.member) (map branch_of (take i branches)) (branch_of (get_or branches i d) ∷ [])

pub loop-branch-preserved : goal.loop-branch-preserved
loop-branch-preserved c =
    let n : ℕ = c.loop-branch.branch-index in
    let none : BranchParts = record { a = 0; o = 0; k = 0; weight = pos 0 } in
    let x : ℕ = (get_or c.args.branches.now n none).k in
    let before : List ℕ = members_of (map branch_of (take n c.args.branches.now)) in
    let after : List ℕ = members_of (map branch_of (take (n + 1) c.args.branches.now)) in
    find-both c.args.self.now.flags.items c.loop-branch.self.flags.items c.add.new.self.flags.items c.args.self.now.numbers.items c.loop-branch.self.numbers.items c.add.new.self.numbers.items
    (IsListed before) (λ i. i ≡ x) (IsListed after) (listed-more before after x (named-more c.args.branches.now n none c.loop-branch-test.true)) c.loop-branch.invariant c.in_ok-add.ensures

pub returns : goal.returns
returns c =
    subst (λ (branches : List BranchParts). ListsAlso c.args.self.now.flags.items c.args.self.now.numbers.items c.loop-branch.self.flags.items c.loop-branch.self.numbers.items (IsListed (members_of (map branch_of branches))))
    (take_all c.loop-branch.branch-index c.args.branches.now c.loop-branch-test.false) c.loop-branch.invariant
