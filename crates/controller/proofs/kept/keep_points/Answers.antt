use Rattle.std.proofs.Common.{◌≡◌, ◌∙◌, ◌<◌, ℕ, Bool, false, true, List, length, ap, arith, get_or, sym, subst}
use Rattle.std.specs.List.{AllByRecursion}
use Rattle.point_set.specs.Members.{point_data}
use Rattle.point_set.specs.Points.{PointData, no_point}
use Rattle.game_model.specs.Branches.{Branch}
use Rattle.controller.specs.Export.{renumbered_point}
use Rattle.controller.specs.Reached.{flag_at}
use Rattle.controller.proofs.Renumbering.{keep-few, keep-no, keep-yes}
use Rattle.controller.proofs.kept.keep_points.Goals as goal

abbrev changed : List Bool → List PointData → ℕ → PointData
changed flags members k = renumbered_point (flag_at flags) (get_or members k no_point)

pub loop-j-preserved-then-not-keeps : goal.loop-j-preserved-then-not-keeps
loop-j-preserved-then-not-keeps c =
    let not_kept : flag_at c.args.numbering.now c.loop-j.j ≡ false = sym c.keeps.ensures ∙ c.if-not-keeps.true in
    keep-no (changed c.args.numbering.now c.args.points.now.members) (flag_at c.args.numbering.now) c.loop-j.j c.loop-j.kept.members c.loop-j.invariant not_kept

pub renumber_point-requires : goal.renumber_point-requires
renumber_point-requires c =
    let inside : c.loop-j.j < length c.args.points.now.members = omega (arith, c.len-j-end.ensures.count) in
    subst (λ (n : ℕ). AllByRecursion (λ (b : Branch). b.member < n) (point_data c.point.result.now).splits) (sym c.requires.count)
    (subst (λ (x : PointData). AllByRecursion (λ (b : Branch). b.member < length c.args.points.now.members) x.splits) (sym c.point.ensures) (c.requires.named c.loop-j.j inside))

pub add_point-requires : goal.add_point-requires
add_point-requires c =
    let few = keep-few (changed c.args.numbering.now c.args.points.now.members) (flag_at c.args.numbering.now) c.loop-j.j c.loop-j.kept.members c.loop-j.invariant in
    omega (arith, few, c.len-j-end.ensures.count, c.len-j-end.ensures.few)

pub loop-j-preserved : goal.loop-j-preserved
loop-j-preserved c =
    let is_kept : flag_at c.args.numbering.now c.loop-j.j ≡ true = sym c.keeps.ensures ∙ c.if-not-keeps.false in
    let same : point_data c.in_ok-point.point ≡ changed c.args.numbering.now c.args.points.now.members c.loop-j.j =
    c.in_ok-point.ensures ∙ ap (λ (x : PointData). renumbered_point (flag_at c.args.numbering.now) x) c.point.ensures in
    keep-yes (changed c.args.numbering.now c.args.points.now.members) (flag_at c.args.numbering.now) c.loop-j.j c.loop-j.kept.members c.add_point.new.points.members (point_data c.in_ok-point.point)
    c.loop-j.invariant c.in_ok-add_point.ensures same is_kept
