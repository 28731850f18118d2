use Rattle.std.proofs.Common.{◌≡◌, ◌++◌, map}
use Rattle.std.specs.List.{AllByRecursion}
use Rattle.cert_text.specs.Draft.{AreFit, spot_data}
use Rattle.cert_text.proofs.texts.point_set.Given as goal

abbrev pub invariant-loop-spot : goal.invariant-loop-spot
invariant-loop-spot l = record {
  same : l.set.members ++ map spot_data l.spot-iterator.rest.items ≡ map spot_data l.fn.spots.items;
  fit : AllByRecursion (AreFit l.fn.game) (map spot_data l.spot-iterator.rest.items);
}
