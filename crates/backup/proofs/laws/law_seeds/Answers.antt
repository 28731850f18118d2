use Rattle.backup.proofs.OneSeeds.{corners-one, evaluations-one, nodes-one, points-one}
use Rattle.backup.proofs.laws.law_seeds.Goals as goal

pub returns : goal.returns
returns c = record { nodes = nodes-one; corners = corners-one; evaluations = evaluations-one; points = points-one }
