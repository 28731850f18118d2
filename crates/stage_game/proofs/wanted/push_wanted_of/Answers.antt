use Rattle.std.proofs.Common.{List, [], map, arith}
use Rattle.game_model.specs.Branches.{Branch, branch_of}
use Rattle.stage_game.specs.Advice.{AreWantedAfter}
use Rattle.stage_game.specs.Reading.{last_of}
use Rattle.stage_game.proofs.Families.{adds-more, adds-none}
use Rattle.stage_game.proofs.wanted.push_wanted_of.Goals as goal

pub loop-o-init : goal.loop-o-init
loop-o-init c = record {
  prices = c.requires.prices;
  weights = c.requires.weights;
  adds = adds-none {X = List Branch} {Y = Branch} (λ o wanted. AreWantedAfter c.args.game.now c.args.candidates.now (last_of c.args.solver.now) c.args.a o wanted) (λ wanted. wanted) (map branch_of c.args.wanted.now.items) [];
}

pub loop-o-preserved : goal.loop-o-preserved
loop-o-preserved c =
    let added = c.in_ok-push_wanted_after.ensures.wanted in
    record {
      prices = omega arith;
      weights = omega arith;
      adds = adds-more {X = List Branch} {Y = Branch} (λ o wanted. AreWantedAfter c.args.game.now c.args.candidates.now (last_of c.args.solver.now) c.args.a o wanted) (λ wanted. wanted) c.loop-o.o
          (map branch_of c.args.wanted.now.items) (map branch_of c.loop-o.wanted.items) (map branch_of c.push_wanted_after.new.wanted.items) added.wanted c.loop-o.invariant.adds added.read added.same;
    }
