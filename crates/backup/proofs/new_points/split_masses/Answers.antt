use Rattle.std.proofs.Common.{◌≡◌, ℕ, List, [], arith, map, subst, sym, ap}
use Rattle.game_model.specs.Branches.{Branch, branch_of}
use Rattle.backup.proofs.PointShares.{AddsOwn, own-all, own-more, own-none}
use Rattle.backup.proofs.new_points.split_masses.Goals as goal

pub loop-a-init : goal.loop-a-init
loop-a-init c =
    let g = c.args.game.now in
    let mixes = c.args.advice.now.informed in
    let wanted : List Branch = map branch_of c.args.advice.now.wanted.items in
    let points = c.args.points.now.members in
    subst (λ (xs : List Branch). AddsOwn g c.args.belief.now mixes wanted points 0 [] xs) (sym (ap (map branch_of) c.new-shares.ensures.items)) (own-none g c.args.belief.now mixes wanted points [])

pub loop-a-preserved : goal.loop-a-preserved
loop-a-preserved c =
    own-more c.args.game.now c.args.belief.now c.args.advice.now.informed (map branch_of c.args.advice.now.wanted.items) c.args.points.now.members c.loop-a.a []
    (map branch_of c.loop-a.shares.items) (map branch_of c.split_after.new.shares.items) c.loop-a.invariant c.in_ok-split_after.ensures

pub returns : goal.returns
returns c =
    let g = c.args.game.now in
    let mixes = c.args.advice.now.informed in
    let wanted : List Branch = map branch_of c.args.advice.now.wanted.items in
    let points = c.args.points.now.members in
    let done : c.loop-a.a ≡ g.shape.own_actions = omega arith in
    own-all g c.args.belief.now mixes wanted points (map branch_of c.loop-a.shares.items)
    (subst (λ (n : ℕ). AddsOwn g c.args.belief.now mixes wanted points n [] (map branch_of c.loop-a.shares.items)) done c.loop-a.invariant)
