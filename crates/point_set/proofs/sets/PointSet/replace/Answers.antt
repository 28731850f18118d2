use Rattle.std.proofs.Common.{◌≡◌, ◌∙◌, List, ap, set}
use Rattle.std.proofs.lemmas.List.{map-set}
use Rattle.game_model.specs.Sets.{SetData}
use Rattle.point_set.specs.Members.{data_of, point_data}
use Rattle.point_set.specs.Points.{PointData}
use Rattle.point_set.proofs.sets.PointSet.replace.Goals as goal

pub returns-clause-members : goal.returns-clause-members
returns-clause-members c =
    let held : data_of c.self.inside.points.items ≡ c.args.self.now.members = ap (λ (set : SetData PointData). set.members) c.self.view_is in
    map-set point_data c.self.inside.points.items c.args.number c.args.point
    ∙ ap (λ (ms : List PointData). set ms c.args.number (point_data c.args.point)) held
