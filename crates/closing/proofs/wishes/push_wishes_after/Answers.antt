use Rattle.std.proofs.Common.{◌<◌, ℕ, List, length, map, arith}
use Rattle.std.proofs.lemmas.Result.{IfOk-weaker}
use Rattle.game_model.specs.Branches.{Branch, branch_of}
use Rattle.point_set.specs.Points.{PointData}
use Rattle.closing.specs.Plans.{AddsSuch, AreWished, AreWishesFor}
use Rattle.closing.proofs.Wishing.{wished-right}
use Rattle.closing.proofs.wishes.push_wishes_after.Goals as goal

pub returns-clause-wishes : goal.returns-clause-wishes
returns-clause-wishes c =
    let points : List PointData = c.args.points.now.members in
    let states : ℕ = c.args.game.now.shape.states in
    let count : ℕ = length c.scale_down.new.weights in
    let corners : List ℕ = c.write_corners.new.corners in
    let old : List Branch = map branch_of c.args.wishes.now.items in
    let new : List Branch = map branch_of c.push_wishes.new.wishes.items in
    let first = c.requires.points.corners 0 (omega (arith, c.law_game.ensures.accepted.shape.states.0)) in
    let some : 0 < count = omega (arith, first.inside) in
    IfOk-weaker c.push_wishes.result (λ _. (others : ℕ) × AddsSuch (AreWished corners c.args.a c.args.o count others) old new) (λ _. AddsSuch (AreWishesFor points states c.args.a c.args.o) old new)
    (λ _ h. record {
      added = h.1.added;
      right = wished-right points states c.args.a c.args.o count h.0 corners h.1.added some (omega arith) c.write_corners.ensures.long c.write_corners.ensures.corners h.1.right;
      same = h.1.same;
    }) c.push_wishes.ensures
