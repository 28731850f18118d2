use Rattle.osposg_cli.proofs.Answered.{answers-checked, answers-once, answers-some, work-defined, work-some}
use Rattle.osposg_cli.proofs.command.law_answers.Goals as goal

pub returns-clause-work : goal.returns-clause-work
returns-clause-work c = work-defined c.law_floor.ensures.defined c.law_solve.ensures.defined c.law_check.ensures.defined c.law_close.ensures.told c.law_show.ensures.defined c.law_generate.ensures.defined c.law_summary.ensures.defined c.law_simulate.ensures.defined

pub returns-clause-one : goal.returns-clause-one
returns-clause-one c = answers-once (work-defined c.law_floor.ensures.defined c.law_solve.ensures.defined c.law_check.ensures.defined c.law_close.ensures.told c.law_show.ensures.defined c.law_generate.ensures.defined c.law_summary.ensures.defined c.law_simulate.ensures.defined)

pub returns-clause-some : goal.returns-clause-some
returns-clause-some c = answers-some (work-some c.law_floor.ensures.some c.law_check.ensures.some c.law_show.ensures.some c.law_generate.ensures.some c.law_simulate.ensures.some)

pub returns-clause-checked : goal.returns-clause-checked
returns-clause-checked c = answers-checked c.law_any_rest.ensures
