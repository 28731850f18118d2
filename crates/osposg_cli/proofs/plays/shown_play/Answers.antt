use Rattle.std.proofs.Common.{arith}
use Rattle.osposg_cli.proofs.plays.shown_play.Goals as goal

pub play-requires-clause-short : goal.play-requires-clause-short
play-requires-clause-short c = (c.longest-most.ensures.longest c.min.result).0 (omega arith)
