use Rattle.std.proofs.Common.{length, map, take, ◌≡◌}
use Rattle.hsvi_trial.proofs.WholeFirst.{times_mix}
use Rattle.hsvi_trial.proofs.starts.write_whole_first.Given as goal

abbrev pub invariant-loop-s : goal.invariant-loop-s
invariant-loop-s l = record {
  long : length l.out ≡ length l.first;
  done : take l.s l.out ≡ map times_mix (take l.s l.first);
}
