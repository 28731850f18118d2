use Rattle.std.proofs.Common.{List, [], map, arith}
use Rattle.game_model.specs.Branches.{Branch, branch_of}
use Rattle.stage_game.specs.Advice.{AreStepsAfter}
use Rattle.stage_game.specs.Reading.{last_of}
use Rattle.stage_game.proofs.Families.{adds-more, adds-none}
use Rattle.stage_game.proofs.steps.push_steps_of.Goals as goal

pub loop-o-init : goal.loop-o-init
loop-o-init c = record {
  weights = c.requires.weights;
  shares = c.requires.shares;
  adds = adds-none {X = List Branch} {Y = Branch} (λ o steps. AreStepsAfter c.args.game.now c.args.candidates.now (last_of c.args.solver.now) c.args.own.now c.args.a o steps) (λ steps. steps) (map branch_of c.args.next.now.items) [];
}

pub loop-o-preserved : goal.loop-o-preserved
loop-o-preserved c =
    let added = c.in_ok-push_steps_after.ensures.steps in
    record {
      weights = omega arith;
      shares = omega arith;
      adds = adds-more {X = List Branch} {Y = Branch} (λ o steps. AreStepsAfter c.args.game.now c.args.candidates.now (last_of c.args.solver.now) c.args.own.now c.args.a o steps) (λ steps. steps) c.loop-o.o
          (map branch_of c.args.next.now.items) (map branch_of c.loop-o.next.items) (map branch_of c.push_steps_after.new.next.items) added.steps c.loop-o.invariant.adds added.read added.same;
    }
