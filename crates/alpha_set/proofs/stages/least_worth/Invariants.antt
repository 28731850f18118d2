use Rattle.game_model.specs.Bounds.{IsLeastOf}
use Rattle.game_model.specs.Game.{numbers}
use Rattle.alpha_set.specs.Members.{mix_of, worth_by}
use Rattle.alpha_set.proofs.stages.least_worth.Given as goal

abbrev pub invariant-loop-c : goal.invariant-loop-c
invariant-loop-c l = IsLeastOf (worth_by (numbers l.fn.game) (mix_of l.fn.mix) l.fn.table l.fn.s) l.c l.least
