use Rattle.std.proofs.Common.{◌≡◌, ◌-◌, ◌++◌}
use Rattle.simulate.specs.Plays.{CanStand, steps_from}
use Rattle.simulate.proofs.plays.play_stages.Given as goal

abbrev pub invariant-loop : goal.invariant-loop
invariant-loop l = record {
  steps : l.steps.items ++ steps_from l.game l.certificate (l.stages - l.counter) l.at l.draw ≡ steps_from l.game l.certificate l.stages l.fn.first l.initial.draw;
  stands : CanStand l.game l.certificate l.at;
}
