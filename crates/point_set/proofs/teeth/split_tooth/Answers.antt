use Rattle.std.proofs.Common.{◌≡◌, ◌<◌, List, Option, Some, None, ℕ, length, get_or, subst, sym}
use Rattle.std.specs.List.{AllByRecursion}
use Rattle.std.specs.Option.{unwrap_or}
use Rattle.std.specs.Prelude.{ℤ}
use Rattle.game_model.proofs.Front.{length-map}
use Rattle.point_set.specs.Members.{data_of, point_data}
use Rattle.point_set.specs.Points.{PointData}
use Rattle.point_set.proofs.Items.{belief-at}
use Rattle.point_set.proofs.Splitting.{measured-beliefs, measured-some}
use Rattle.point_set.proofs.ToothSplits.{IsNamed, named-inside, one-wanted, tooth-cost, tooth-split}
use Rattle.point_set.proofs.teeth.split_tooth.Goals as goal

-- the number that is named
named-by : (best : Option ℕ) (other k : ℕ) → k ≡ unwrap_or best other → IsNamed best other k
named-by None other k e = e
named-by (Some j) other k e = e

pub split_mass-requires-clause-wanted : goal.split_mass-requires-clause-wanted
split_mass-requires-clause-wanted c =
    let points : List PointData = data_of c.args.points.now in
    let corners : ℕ → ℕ = λ s. get_or c.args.corners.now s 0 in
    let named : IsNamed c.args.best (corners 0) c.unwrap_or-point.result = named-by c.args.best (corners 0) c.unwrap_or-point.result c.unwrap_or-point.ensures in
    one-wanted points (length c.args.mass.now) corners c.unwrap_or-point.result
    (named-inside points c.args.mass.now corners c.unwrap_or-point.result c.args.best (measured-some points c.args.mass.now c.requires.measured) c.requires.current c.requires.best named) c.requires.current

pub returns-clause-split : goal.returns-clause-split
returns-clause-split c =
    let points : List PointData = data_of c.args.points.now in
    let mass = c.args.mass.now in
    let corners : ℕ → ℕ = λ s. get_or c.args.corners.now s 0 in
    let k : ℕ = c.unwrap_or-point.result in
    let named : IsNamed c.args.best (corners 0) k = named-by c.args.best (corners 0) k c.unwrap_or-point.ensures in
    let some = measured-some points mass c.requires.measured in
    let inside = named-inside points mass corners k c.args.best some c.requires.current c.requires.best named in
    tooth-split points mass corners k c.split_mass.new.out c.args.best some (belief-at (length mass) points k (measured-beliefs points mass c.requires.measured) inside) c.requires.current c.requires.best named c.split_mass.ensures.split

pub returns-clause-cost : goal.returns-clause-cost
returns-clause-cost c =
    let points : List PointData = data_of c.args.points.now in
    let mass = c.args.mass.now in
    let corners : ℕ → ℕ = λ s. get_or c.args.corners.now s 0 in
    let k : ℕ = c.unwrap_or-point.result in
    let named : IsNamed c.args.best (corners 0) k = named-by c.args.best (corners 0) k c.unwrap_or-point.ensures in
    let some = measured-some points mass c.requires.measured in
    let inside = named-inside points mass corners k c.args.best some c.requires.current c.requires.best named in
    tooth-cost points mass c.split_mass.new.out (subst (λ (n : ℕ). AllByRecursion (λ (item : ℕ × ℤ). item.0 < n) c.split_mass.new.out) (sym (length-map point_data c.args.points.now)) c.split_mass.ensures.inside)
    (tooth-split points mass corners k c.split_mass.new.out c.args.best some (belief-at (length mass) points k (measured-beliefs points mass c.requires.measured) inside) c.requires.current c.requires.best named c.split_mass.ensures.split)
