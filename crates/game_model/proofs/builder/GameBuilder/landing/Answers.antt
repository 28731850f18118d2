use Rattle.std.specs.Prelude.{FitsSigned}
use Rattle.std.specs.Int.{w128}
use Rattle.std.proofs.lemmas.Int.{to_z-of_z}
use Rattle.game_model.proofs.builder.GameBuilder.landing.Goals as goal

pub returns-in-Err-clause-total : goal.returns-in-Err-clause-total
returns-in-Err-clause-total c = let fits : FitsSigned w128 c.args.weight = c.ranges.weight in simp to_z-of_z at c.in-Err.ensures.total

pub returns-in-Err-clause-order : goal.returns-in-Err-clause-order
returns-in-Err-clause-order c = let fits : FitsSigned w128 c.args.weight = c.ranges.weight in simp to_z-of_z at c.in-Err.ensures.order
