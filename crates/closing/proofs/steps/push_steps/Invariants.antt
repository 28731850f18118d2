use Rattle.std.proofs.Common.{◌≡◌, ◌++◌, map}
use Rattle.std.specs.Prelude.{filter}
use Rattle.scaled_num.specs.Sums.{below}
use Rattle.game_model.specs.Branches.{branch_of}
use Rattle.stage_game.specs.AdviceData.{has_weight}
use Rattle.closing.specs.Plans.{numbered_one}
use Rattle.closing.proofs.steps.push_steps.Given as goal

abbrev pub invariant-loop-place : goal.invariant-loop-place
invariant-loop-place l =
    map branch_of l.next.items ≡ map branch_of l.initial.next.items ++ filter has_weight (map (numbered_one l.fn.a l.fn.o l.fn.shares) (below l.place))
