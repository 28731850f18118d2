use Rattle.std.proofs.Common.{rules}
use Rattle.osposg_cli.proofs.Due.{complete_early, complete_whole, ends_whole, promised, promised_close, promised_gen, promised_solve, promised_summary}
use Rattle.osposg_cli.specs.declared.words.Command.TheVariants.{Check, Floor, Show, Simulate}
use Rattle.osposg_cli.specs.Check.{CheckPromises}
use Rattle.osposg_cli.specs.Floor.{FloorPromises}
use Rattle.osposg_cli.specs.Show.{ShowPromises}
use Rattle.osposg_cli.specs.Simulate.{SimulatePromises}
use Rattle.osposg_cli.proofs.command.run.Goals as goal

pub returns-in-Ok-write_all-clause-ends : goal.returns-in-Ok-write_all-clause-ends
returns-in-Ok-write_all-clause-ends g c = ends_whole _ _ _ _ _ _ _ _ c.in-Ok.ensures.due (search rules)

pub returns-in-Ok-write_all-clause-complete : goal.returns-in-Ok-write_all-clause-complete
returns-in-Ok-write_all-clause-complete g c = complete_whole _ _ _ _ _ _ _ _ _ c.in-Ok.ensures.due (search rules)

pub returns-clause-complete : goal.returns-clause-complete
returns-clause-complete g c = complete_early _ _ _ _ _ _ _ _ c.in-Err.ensures.early (λ calm. search rules)

pub returns-in-Ok-write_all-clause-read : goal.returns-in-Ok-write_all-clause-read
returns-in-Ok-write_all-clause-read g c = λ reads one. c.in-Ok.ensures.read reads

pub returns-in-Ok-write_all-clause-floor_earns : goal.returns-in-Ok-write_all-clause-floor_earns
returns-in-Ok-write_all-clause-floor_earns g c = promised FloorPromises Floor c.law_floor.ensures.keeps _ _ _ _ _ _ _ c.in-Ok.ensures.due (search rules)

pub returns-in-Ok-write_all-clause-check_proves : goal.returns-in-Ok-write_all-clause-check_proves
returns-in-Ok-write_all-clause-check_proves g c = promised CheckPromises Check c.law_check.ensures.keeps _ _ _ _ _ _ _ c.in-Ok.ensures.due (search rules)

pub returns-in-Ok-write_all-clause-show_spells : goal.returns-in-Ok-write_all-clause-show_spells
returns-in-Ok-write_all-clause-show_spells g c = promised ShowPromises Show c.law_show.ensures.keeps _ _ _ _ _ _ _ c.in-Ok.ensures.due (search rules)

pub returns-in-Ok-write_all-clause-solve_proves : goal.returns-in-Ok-write_all-clause-solve_proves
returns-in-Ok-write_all-clause-solve_proves g c =
    λ trials gap e made. promised_solve c.law_solve.ensures.keeps trials gap _ _ _ _ _ _ _ c.in-Ok.ensures.due (search rules) e made

pub returns-in-Ok-write_all-clause-gen_spells : goal.returns-in-Ok-write_all-clause-gen_spells
returns-in-Ok-write_all-clause-gen_spells g c =
    λ number size done e. promised_gen c.law_generate.ensures.keeps number size _ _ _ _ _ _ _ c.in-Ok.ensures.due (search rules) c.in-Ok.ensures.within done e

pub returns-in-Ok-write_all-clause-gen_proves : goal.returns-in-Ok-write_all-clause-gen_proves
returns-in-Ok-write_all-clause-gen_proves g c =
    λ number size trials gap e made. promised_summary c.law_summary.ensures.keeps number size trials gap _ _ _ _ _ _ _ c.in-Ok.ensures.due (search rules) e made

pub returns-in-Ok-write_all-clause-close_proves : goal.returns-in-Ok-write_all-clause-close_proves
returns-in-Ok-write_all-clause-close_proves g c =
    λ rounds gap e made. promised_close c.law_close.ensures.keeps rounds gap _ _ _ _ _ _ _ c.in-Ok.ensures.due (search rules) e made

pub returns-in-Ok-write_all-clause-simulate_plays : goal.returns-in-Ok-write_all-clause-simulate_plays
returns-in-Ok-write_all-clause-simulate_plays g c =
    λ seed stages rival done e. promised (SimulatePromises seed stages rival) (Simulate seed stages rival) (c.law_simulate.ensures.keeps seed stages rival) _ _ _ _ _ _ _ c.in-Ok.ensures.due (search rules) done e
