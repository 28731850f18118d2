use Rattle.simplex.proofs.Short.{short_difference_is}
use Rattle.simplex.proofs.quotients.short_difference.Goals as goal

pub returns : goal.returns
returns c = short_difference_is c.args.lead c.args.own c.args.part c.args.word c.ranges.lead c.ranges.own c.ranges.part c.ranges.word c.requires.own c.requires.word
