use Rattle.std.proofs.Common.{◌≡◌, ◌<◌, ℕ, List, ap, get_or, length, subst, sym, ◌∙◌}
use Rattle.std.specs.Prelude.{IfSome}
use Rattle.game_model.proofs.Front.{length-map}
use Rattle.game_model.specs.Game.{numbers}
use Rattle.game_model.specs.Sets.{SetData}
use Rattle.point_set.specs.Faults.{FailsFirst}
use Rattle.point_set.specs.Members.{data_of, point_data}
use Rattle.point_set.specs.Points.{PointData, no_point, point_of, points_of}
use Rattle.point_set.proofs.Named.{data-at}
use Rattle.point_set.proofs.sets.PointSet.stands.Goals as goal

pub returns-clause-first : goal.returns-clause-first
returns-clause-first c =
    let held : data_of c.self.inside.points.items ≡ c.args.self.now.members = ap (λ (set : SetData PointData). set.members) c.self.view_is in
    let members : data_of c.deref.result.now ≡ c.args.self.now.members = ap data_of c.deref.ensures.value ∙ held in
    let inside : c.args.j < length c.self.inside.points.items =
    subst (λ (n : ℕ). c.args.j < n) (ap length (sym held) ∙ length-map point_data c.self.inside.points.items) c.requires.member in
    let point : point_data c.index.result.now ≡ get_or c.args.self.now.members c.args.j no_point =
    sym (data-at c.self.inside.points.items c.args.j c.index.result.now inside c.index.ensures) ∙ ap (λ (ms : List PointData). get_or ms c.args.j no_point) held in
    subst (λ (p : PointData). IfSome c.first_fault.result (FailsFirst (numbers c.args.game.now) (points_of c.args.self.now.members) (point_of p))) point
    (subst (λ (ms : List PointData). IfSome c.first_fault.result (FailsFirst (numbers c.args.game.now) (points_of ms) (point_of (point_data c.index.result.now)))) members c.first_fault.ensures.first)
