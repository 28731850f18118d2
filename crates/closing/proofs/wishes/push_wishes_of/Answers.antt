use Rattle.std.proofs.Common.{◌≡◌, ℕ, List, [], map, subst, arith}
use Rattle.game_model.specs.Branches.{Branch, branch_of}
use Rattle.stage_game.proofs.Families.{Adds, adds-more, adds-none}
use Rattle.closing.specs.Plans.{AreWishesFor}
use Rattle.closing.proofs.ForPairs.{for-each}
use Rattle.closing.proofs.wishes.push_wishes_of.Goals as goal

pub loop-o-init : goal.loop-o-init
loop-o-init c = record {
  weights = omega arith;
  adds = adds-none {X = List Branch} {Y = Branch} (λ o wishes. AreWishesFor c.args.points.now.members c.args.game.now.shape.states c.args.a o wishes) (λ wishes. wishes) (map branch_of c.args.wishes.now.items) [];
}

pub loop-o-preserved : goal.loop-o-preserved
loop-o-preserved c =
    let added = c.in_ok-push_wishes_after.ensures.wishes in
    record {
      weights = omega arith;
      adds = adds-more {X = List Branch} {Y = Branch} (λ o wishes. AreWishesFor c.args.points.now.members c.args.game.now.shape.states c.args.a o wishes) (λ wishes. wishes) c.loop-o.o
          (map branch_of c.args.wishes.now.items) (map branch_of c.loop-o.wishes.items) (map branch_of c.push_wishes_after.new.wishes.items) added.added c.loop-o.invariant.adds
          added.right added.same;
    }

pub returns-clause-wishes : goal.returns-clause-wishes
returns-clause-wishes c =
    let R : ℕ → List Branch → Type 0 = AreWishesFor c.args.points.now.members c.args.game.now.shape.states c.args.a in
    let done : c.loop-o.o ≡ c.args.game.now.shape.observations = omega arith in
    for-each R c.args.game.now.shape.observations (map branch_of c.args.wishes.now.items) (map branch_of c.loop-o.wishes.items)
    (subst (λ (n : ℕ). Adds {X = List Branch} {Y = Branch} R (λ wishes. wishes) n (map branch_of c.args.wishes.now.items) (map branch_of c.loop-o.wishes.items)) done c.loop-o.invariant.adds)
