use Rattle.point_set.proofs.One.{best-one, corner-one, sawtooth-one, times-one}
use Rattle.point_set.proofs.laws.law_bounds.Goals as goal

pub returns : goal.returns
returns c = record { corners = corner-one; times = times-one; sawtooth = sawtooth-one; best = best-one }
