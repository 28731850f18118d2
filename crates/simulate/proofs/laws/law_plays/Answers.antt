use Rattle.simulate.proofs.Lengths.{lengths-are_one}
use Rattle.simulate.proofs.StartPlays.{is-own-play}
use Rattle.simulate.proofs.laws.law_plays.Goals as goal

pub returns-clause-own : goal.returns-clause-own
returns-clause-own c = is-own-play

pub returns-clause-lengths : goal.returns-clause-lengths
returns-clause-lengths c = lengths-are_one
