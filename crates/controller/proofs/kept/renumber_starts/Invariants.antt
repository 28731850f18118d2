use Rattle.std.proofs.Common.{take, ◌≡◌}
use Rattle.controller.specs.Export.{renumbered_starts}
use Rattle.controller.specs.Reached.{flag_at}
use Rattle.controller.proofs.kept.renumber_starts.Given as goal

abbrev pub invariant-loop-start : goal.invariant-loop-start
invariant-loop-start l = l.new.items ≡ renumbered_starts (flag_at l.numbering) (take l.start-index l.starts)
