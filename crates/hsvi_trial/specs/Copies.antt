-- What stays while sets grow, and while visits keep nothing; and a right visit under another trial's number.
use Rattle.std.specs.Prelude.{ℕ, Bool, List, ◌++◌, length, ◌+◌, ◌≡◌, ◌≤◌}
use Rattle.alpha_set.specs.Nodes.{NodeData}
use Rattle.controller.specs.Certificates.{FractionData}
use Rattle.game_model.specs.Game.{GameData}
use Rattle.point_set.specs.Points.{PointData}
use Rattle.hsvi_trial.specs.RightVisit.{IsRightVisit}
use Rattle.hsvi_trial.specs.Sets.{Sets, kept_nodes, kept_points, sets_after}
use Rattle.hsvi_trial.specs.declared.visits.Visit.{Visit}

-- a visit under another trial's number
abbrev pub renumbered : ℕ → Visit → Visit
renumbered trial visit = record visit { trial = trial }

-- ---- sets that grow

-- the first members of sets are the same in all sets that go on from them
abbrev pub FirstMembersStay : Type 0
FirstMembersStay =
    (seeds sets : Sets) (nodes : List NodeData) (points : List PointData) (visits : List Visit) →
    length seeds.nodes + kept_nodes visits ≤ length sets.nodes → length seeds.points + kept_points visits ≤ length sets.points →
    sets_after seeds (record { nodes = sets.nodes ++ nodes; points = sets.points ++ points }) visits ≡ sets_after seeds sets visits

-- visits that kept no node leave the nodes, and those that kept no point leave the points
abbrev pub NodesStay : Type 0
NodesStay =
    (seeds sets : Sets) (earlier visits : List Visit) → kept_nodes visits ≡ 0 →
    (sets_after seeds sets (earlier ++ visits)).nodes ≡ (sets_after seeds sets earlier).nodes

abbrev pub PointsStay : Type 0
PointsStay =
    (seeds sets : Sets) (earlier visits : List Visit) → kept_points visits ≡ 0 →
    (sets_after seeds sets (earlier ++ visits)).points ≡ (sets_after seeds sets earlier).points

-- ---- trials

-- a right visit is right under any trial's number
abbrev pub RightUnderAnyNumber : Type 0
RightUnderAnyNumber =
    (g : GameData) (gap : FractionData) (before after : Sets) (cut : Bool) (visit : Visit) (trial : ℕ) →
    IsRightVisit g gap before after cut visit → IsRightVisit g gap before after cut (renumbered trial visit)
