use Rattle.controller.proofs.CutMembers.{cut-nodes-fit, cut-nodes-stand, cut-points-fit, cut-points-stand}
use Rattle.controller.proofs.laws.law_cut.Goals as goal

pub returns : goal.returns
returns c = record { nodes_stand = cut-nodes-stand; nodes_fit = cut-nodes-fit; points_stand = cut-points-stand; points_fit = cut-points-fit }
