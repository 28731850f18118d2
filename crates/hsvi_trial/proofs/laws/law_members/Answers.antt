use Rattle.hsvi_trial.proofs.Growing.{first_members-stay, nodes-stay, points-stay}
use Rattle.hsvi_trial.proofs.laws.law_members.Goals as goal

pub returns : goal.returns
returns c = record { first = first_members-stay; nodes = nodes-stay; points = points-stay }
