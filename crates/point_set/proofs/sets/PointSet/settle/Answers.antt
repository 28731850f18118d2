use Rattle.std.proofs.Common.{◌≡◌, ◌∙◌, ◌<◌, ◌≤◌, ℕ, List, length, ap, subst, sym}
use Rattle.std.specs.List.{AllByRecursion}
use Rattle.std.specs.Vec.{with_items}
use Rattle.std.proofs.lemmas.List.{with_items_is}
use Rattle.game_model.proofs.Front.{length-map}
use Rattle.game_model.specs.Game.{GameData, numbers}
use Rattle.game_model.specs.Sets.{SetData}
use Rattle.point_set.specs.Changes.{IsSettled}
use Rattle.point_set.specs.Faults.{SplitsHold}
use Rattle.point_set.specs.Members.{data_of, point_data}
use Rattle.point_set.specs.Points.{PointData, PointFits, points_of}
use Rattle.point_set.specs.declared.points.Point.{Point}
use Rattle.point_set.proofs.Settling.{SettledKeep, settled-keep}
use Rattle.point_set.proofs.sets.PointSet.settle.Goals as goal

kept : (c : goal.After-self-2-1) → SettledKeep c.args.game.now c.args.self.now.members (data_of (with_items c.self.inside.points c.settle_point.new.points).items)
kept c =
    let g : GameData = c.args.game.now in
    let number : ℕ = c.args.number in
    let points : List Point = c.self.inside.points.items in
    let news : List Point = c.settle_point.new.points in
    let held : data_of points ≡ c.args.self.now.members = ap (λ (set : SetData PointData). set.members) c.self.view_is in
    let written : (with_items c.self.inside.points news).items ≡ news = with_items_is c.self.inside.points news (c.settle_point.auto.points ∙ c.deref_mut.ensures.len) in
    let count : length c.args.self.now.members ≡ length points = ap length (sym held) ∙ length-map point_data points in
    let inside : number < length points = subst (λ (n : ℕ). number < n) count c.requires.member in
    let fit : AllByRecursion (PointFits g (length points)) (data_of points) =
    subst (AllByRecursion (PointFits g (length points))) (sym held) (subst (λ (n : ℕ). AllByRecursion (PointFits g n) c.args.self.now.members) count c.requires.fits) in
    let splits : SplitsHold (numbers g) (points_of (data_of points)) (points_of (data_of points) number) =
    subst (λ (ps : List PointData). SplitsHold (numbers g) (points_of ps) (points_of ps number)) (sym held) c.requires.splits in
    let few : length points ≤ 1024 = subst (λ (n : ℕ). n ≤ 1024) (length-map point_data points) c.self.invariant.0.corners_kept.few in
    let settled : IsSettled g (data_of points) number (data_of news) = subst (λ (ps : List Point). IsSettled g (data_of ps) number (data_of news)) c.deref_mut.ensures.value c.settle_point.ensures.settled in
    let all : SettledKeep g (data_of points) (data_of news) = settled-keep g c.law_game.ensures.accepted points (data_of news) number few inside fit splits settled in
    subst (λ (ps : List PointData). SettledKeep g ps (data_of (with_items c.self.inside.points news).items)) held (subst (λ (ps : List Point). SettledKeep g (data_of points) (data_of ps)) (sym written) all)

pub returns-clause-count : goal.returns-clause-count
returns-clause-count c = (kept c).count

pub returns-clause-never_higher : goal.returns-clause-never_higher
returns-clause-never_higher c = λ j. ((kept c).lower j).value

pub returns-clause-beliefs : goal.returns-clause-beliefs
returns-clause-beliefs c = λ j. ((kept c).lower j).belief

pub returns-clause-fit : goal.returns-clause-fit
returns-clause-fit c = (kept c).fit

pub returns-clause-stand : goal.returns-clause-stand
returns-clause-stand c = (kept c).stand
