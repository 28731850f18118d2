use Rattle.std.proofs.Common.{◌≡◌, ◌++◌, map}
use Rattle.scaled_num.specs.Sums.{below}
use Rattle.game_model.specs.Branches.{branch_of}
use Rattle.stage_game.specs.AdviceData.{listed_one}
use Rattle.stage_game.proofs.wanted.push_wanted.Given as goal

abbrev pub invariant-loop-place : goal.invariant-loop-place
invariant-loop-place l =
    map branch_of l.wanted.items ≡ map branch_of l.initial.wanted.items ++ map (listed_one l.fn.a l.fn.o l.fn.candidates l.fn.weights) (below l.place)
