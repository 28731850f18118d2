use Rattle.worked_plays.proofs.plays.played.Goals as goal

pub play-requires-clause-short : goal.play-requires-clause-short
play-requires-clause-short c = (c.longest.ensures.longest c.args.stages).0 c.if-stages-longest.false
