use Rattle.std.proofs.Common.{◌≡◌, ℕ, FitsSigned, get_or, length, map, rules, subst, sym, to_z-of_z, arith, []}
use Rattle.std.specs.Int.{w128}
use Rattle.std.specs.Prelude.{ℤ, pos}
use Rattle.std.proofs.lemmas.List.{append-nil}
use Rattle.game_model.specs.Branches.{branch_of}
use Rattle.closing.specs.Plans.{AddsSuch, AreWished}
use Rattle.closing.proofs.Wishing.{wish-taken, wished-none}
use Rattle.closing.proofs.wishes.push_wishes.Goals as goal

pub push_wish-requires-clause-weight : goal.push_wish-requires-clause-weight
push_wish-requires-clause-weight c =
    let weight : ℤ = get_or c.args.weights.now c.loop-k.k (pos 0) in
    let fits : FitsSigned w128 weight = search rules in
    simp to_z-of_z (c.requires.weights c.loop-k.k (pos 0) c.loop-k-test.true)

pub push_wish-requires-clause-others : goal.push_wish-requires-clause-others
push_wish-requires-clause-others c = c.loop-k.invariant.right.most

pub loop-k-init : goal.loop-k-init
loop-k-init c = record { added = []; right = wished-none c.args.corners.now c.args.a c.args.o; same = sym (append-nil (map branch_of c.args.wishes.now.items)) }

pub loop-k-preserved : goal.loop-k-preserved
loop-k-preserved c =
    wish-taken c.args.corners.now c.args.a c.args.o c.loop-k.k c.loop-k.others c.in_ok-others.others (map branch_of c.args.wishes.now.items) (map branch_of c.loop-k.wishes.items)
    (map branch_of c.push_wish.new.wishes.items) c.loop-k.invariant c.in_ok-others.ensures.wish

pub returns : goal.returns
returns c =
    let done : c.loop-k.k ≡ length c.args.weights.now = omega arith in
    (c.loop-k.others, subst (λ (n : ℕ). AddsSuch (AreWished c.args.corners.now c.args.a c.args.o n c.loop-k.others) (map branch_of c.args.wishes.now.items) (map branch_of c.loop-k.wishes.items)) done c.loop-k.invariant)
