use Rattle.std.specs.Prelude.{FitsSigned}
use Rattle.std.specs.Int.{w128}
use Rattle.std.proofs.lemmas.Int.{to_z-of_z}
use Rattle.game_model.proofs.builder.GameBuilder.step.Goals as goal

pub returns-in-Err-clause-total : goal.returns-in-Err-clause-total
returns-in-Err-clause-total c = let fits : FitsSigned w128 c.args.reward = c.ranges.reward in simp to_z-of_z at c.in-Err.ensures.total

pub returns-in-Err-clause-wide : goal.returns-in-Err-clause-wide
returns-in-Err-clause-wide c = let fits : FitsSigned w128 c.args.reward = c.ranges.reward in simp to_z-of_z at c.in-Err.ensures.wide
