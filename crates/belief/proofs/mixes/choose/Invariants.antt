use Rattle.std.proofs.Common.{◌≡◌, ◌++◌, ◌-◌, ◌*◌, length, take, replicate}
use Rattle.std.specs.Prelude.{pos, flat_map}
use Rattle.belief.specs.Sure.{sure}
use Rattle.belief.proofs.mixes.choose.Given as goal

abbrev pub invariant-loop-s : goal.invariant-loop-s
invariant-loop-s l = l.weights ≡ flat_map (sure l.actions) (take l.s l.choice) ++ replicate ((length l.choice - l.s) * l.actions) (pos 0)
