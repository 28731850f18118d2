use Rattle.closing.specs.Closer.{IsBetter}
use Rattle.closing.proofs.closer.improved.Given as goal

abbrev pub invariant-loop : goal.invariant-loop
invariant-loop l = IsBetter l.game l.fn.certificate l.best
