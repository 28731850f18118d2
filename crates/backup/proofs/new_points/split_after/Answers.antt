use Rattle.std.proofs.Common.{◌≡◌, ℕ, List, arith, map, subst}
use Rattle.game_model.specs.Branches.{Branch, branch_of}
use Rattle.backup.proofs.PointShares.{AddsSeen, seen-all, seen-more, seen-none}
use Rattle.backup.proofs.new_points.split_after.Goals as goal

pub loop-o-init : goal.loop-o-init
loop-o-init c = seen-none c.args.game.now c.args.belief.now c.args.advice.now.informed (map branch_of c.args.advice.now.wanted.items) c.args.points.now.members c.args.a (map branch_of c.args.shares.now.items)

pub loop-o-preserved : goal.loop-o-preserved
loop-o-preserved c =
    let added = c.in_ok-split_seen.ensures in
    seen-more c.args.game.now c.args.belief.now c.args.advice.now.informed (map branch_of c.args.advice.now.wanted.items) c.args.points.now.members c.args.a c.loop-o.o
    (map branch_of c.args.shares.now.items) (map branch_of c.loop-o.shares.items) (map branch_of c.split_seen.new.shares.items) added.shares c.loop-o.invariant added.right added.same

pub returns : goal.returns
returns c =
    let g = c.args.game.now in
    let mixes = c.args.advice.now.informed in
    let wanted : List Branch = map branch_of c.args.advice.now.wanted.items in
    let points = c.args.points.now.members in
    let old : List Branch = map branch_of c.args.shares.now.items in
    let done : c.loop-o.o ≡ g.shape.observations = omega arith in
    seen-all g c.args.belief.now mixes wanted points c.args.a old (map branch_of c.loop-o.shares.items)
    (subst (λ (n : ℕ). AddsSeen g c.args.belief.now mixes wanted points c.args.a n old (map branch_of c.loop-o.shares.items)) done c.loop-o.invariant)
