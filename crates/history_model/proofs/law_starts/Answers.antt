use Rattle.history_model.proofs.LowerHalves.{start-nodes_weigh, starts-earn, starts-earn_at}
use Rattle.history_model.proofs.UpperHalves.{start-points_make_up, starts-hold}
use Rattle.history_model.proofs.law_starts.Goals as goal

pub returns-clause-lower : goal.returns-clause-lower
returns-clause-lower c = starts-earn

pub returns-clause-lower_at : goal.returns-clause-lower_at
returns-clause-lower_at c = starts-earn_at

pub returns-clause-upper : goal.returns-clause-upper
returns-clause-upper c = starts-hold

pub returns-clause-some_node : goal.returns-clause-some_node
returns-clause-some_node c = start-nodes_weigh

pub returns-clause-make_up_first : goal.returns-clause-make_up_first
returns-clause-make_up_first c = start-points_make_up
