use Rattle.std.proofs.Common.{length}
use Rattle.std.specs.Prelude.{pos}
use Rattle.controller.specs.Starts.{most_over}
use Rattle.controller.proofs.StartSums.{few-starts}
use Rattle.controller.proofs.bounds.start_mass.Goals as goal

pub weighted_belief-requires-clause-starts : goal.weighted_belief-requires-clause-starts
weighted_belief-requires-clause-starts c = few-starts (length c.args.points.now.members) (pos most_over) c.args.starts.now c.requires.points.few c.requires.starts
