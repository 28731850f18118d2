use Rattle.controller.proofs.Members.{nodes-keep, points-keep, shares-name, steps-name}
use Rattle.controller.proofs.laws.law_members.Goals as goal

pub returns : goal.returns
returns c = record { nodes = nodes-keep; points = points-keep; steps = steps-name; shares = shares-name }
