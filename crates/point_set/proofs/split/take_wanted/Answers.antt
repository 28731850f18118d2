use Rattle.std.proofs.Common.{◌≡◌, ℕ, ◌+◌, ◌<◌, ◌^◌, ◌∙◌, List, length, get_or, arith, ap, rules, subst, sym}
use Rattle.std.specs.Prelude.{ℤ, pos, FitsSigned, ◌≤ℤ◌}
use Rattle.std.specs.Int.{w128}
use Rattle.std.proofs.lemmas.Int.{ints, to_z-of_z}
use Rattle.scaled_num.proofs.Sums.{each-at}
use Rattle.game_model.proofs.Front.{length-map}
use Rattle.game_model.specs.Game.{IsBelief, IsWithin}
use Rattle.point_set.specs.Corners.{point_at}
use Rattle.point_set.specs.Members.{data_of, point_data}
use Rattle.point_set.specs.Points.{PointData}
use Rattle.point_set.specs.Split.{TakesMost, less_times}
use Rattle.point_set.specs.declared.points.Point.{Point as PointParts}
use Rattle.point_set.proofs.Named.{data-at}
use Rattle.point_set.proofs.Items.{belief-at}
use Rattle.point_set.proofs.Rests.{part-fits}
use Rattle.point_set.proofs.Wanted.{WantedSoFar, wanted-add, wanted-ready, wanted-room, wanted-skip, zero-only}
use Rattle.point_set.proofs.split.take_wanted.Goals as goal
use Rattle.point_set.proofs.split.take_wanted.Goals.{then-times-gt0, else-times-gt0}

pub take-times-requires-clause-belief : goal.take-times-requires-clause-belief
take-times-requires-clause-belief c =
    let points : List PointParts = c.args.points.now in
    let k : ℕ = (get_or c.args.wanted.now c.loop-index.index (0, pos 0)).0 in
    let inside : k < length (data_of points) = each-at (λ (want : ℕ × ℤ). want.0 < length (data_of points)) (0, pos 0) c.args.wanted.now c.loop-index.index c.requires.wanted.inside c.loop-index-test.true in
    let named : k < length points = subst (λ (n : ℕ). k < n) (length-map point_data points) inside in
    let same : (point_at (data_of points) k).belief ≡ c.index-points-want.result.belief = ap (λ (p : PointData). p.belief) (data-at points k c.index-points-want.result named c.index-points-want.is) in
    subst (λ (n : ℕ). IsBelief n (get_or points k c.index-points-want.result).belief) (sym c.loop-index.invariant.long)
    (subst (λ (p : PointParts). IsBelief (length c.args.rest.now) p.belief) c.index-points-want.is
    (subst (IsBelief (length c.args.rest.now)) same (belief-at (length c.args.rest.now) (data_of points) k c.requires.beliefs inside)))

pub take-times-requires-clause-small : goal.take-times-requires-clause-small
take-times-requires-clause-small c =
    (wanted-ready (data_of c.args.points.now) c.args.rest.now c.args.wanted.now c.args.shares.now c.loop-index.index c.loop-index.rest c.loop-index.out c.requires.beliefs c.requires.mass c.requires.sum c.loop-index.invariant).small

pub take-times-requires-clause-sum : goal.take-times-requires-clause-sum
take-times-requires-clause-sum c =
    (wanted-ready (data_of c.args.points.now) c.args.rest.now c.args.wanted.now c.args.shares.now c.loop-index.index c.loop-index.rest c.loop-index.out c.requires.beliefs c.requires.mass c.requires.sum c.loop-index.invariant).sum

pub add-requires-clause-small : goal.add-requires-clause-small
add-requires-clause-small c =
    (wanted-ready (data_of c.args.points.now) c.args.rest.now c.args.wanted.now c.args.shares.now c.loop-index.index c.loop-index.rest c.loop-index.out c.requires.beliefs c.requires.mass c.requires.sum c.loop-index.invariant).light

pub add-requires-clause-room : goal.add-requires-clause-room
add-requires-clause-room c =
    let fits : FitsSigned w128 c.take-times.result = search rules in
    simp to_z-of_z (wanted-room (data_of c.args.points.now) c.args.rest.now c.args.wanted.now c.args.shares.now c.loop-index.index c.loop-index.rest c.loop-index.out c.take-times.result c.requires.wanted c.requires.few c.loop-index.invariant c.loop-index-test.true)

pub loop-index-preserved : goal.loop-index-preserved
loop-index-preserved c =
    let points : List PointParts = c.args.points.now in
    let wanted : List (ℕ × ℤ) = c.args.wanted.now in
    let shares : List ℤ = c.args.shares.now in
    let i : ℕ = c.loop-index.index in
    let k : ℕ = (get_or wanted i (0, pos 0)).0 in
    let inside : k < length (data_of points) = each-at (λ (want : ℕ × ℤ). want.0 < length (data_of points)) (0, pos 0) wanted i c.requires.wanted.inside c.loop-index-test.true in
    let named : k < length points = subst (λ (n : ℕ). k < n) (length-map point_data points) inside in
    let given : List ℤ = (get_or points k c.index-points-want.result).belief in
    let same : given ≡ (point_at (data_of points) k).belief =
    sym (ap (λ (p : PointData). p.belief) (data-at points k c.index-points-want.result named c.index-points-want.is) ∙ ap (λ (p : PointParts). p.belief) c.index-points-want.is) in
    let times : ℤ = c.take-times.result in
    let fits : FitsSigned w128 times = search rules in
    let within : IsWithin (pos 0) (pos (2 ^ 66)) times = c.take-times.ensures.within in
    let share : ℤ = get_or shares i (pos 0) in
    let share_fits : FitsSigned w128 share = part-fits shares i c.requires.shares (omega (arith, c.requires.places)) in
    let told : TakesMost c.loop-index.rest given share times = search rules in
    let most : TakesMost c.loop-index.rest (point_at (data_of points) k).belief share times = subst (λ (b : List ℤ). TakesMost c.loop-index.rest b share times) same told in
    let left : c.take-times.new.rest ≡ less_times c.loop-index.rest (point_at (data_of points) k).belief times = c.take-times.ensures.rest ∙ ap (λ (b : List ℤ). less_times c.loop-index.rest b times) same in
    let shared : i < length shares = omega (arith, c.requires.places) in
    subst (λ (r : List ℤ). WantedSoFar (data_of points) c.args.rest.now wanted shares (i + 1) r c.if-times-gt0.out) (sym left)
    (elim c.if-times-gt0.branch [
      | then-times-gt0 w ↦
          let test = simp to_z-of_z at w.if-times-gt0.true in
          let some : pos 1 ≤ℤ times = omega (arith, ints, test) in
          let next = simp to_z-of_z at w.add.ensures in
          subst (WantedSoFar (data_of points) c.args.rest.now wanted shares (i + 1) (less_times c.loop-index.rest (point_at (data_of points) k).belief times)) (sym (w.out-is ∙ next))
          (wanted-add (data_of points) c.args.rest.now wanted shares i c.loop-index.rest c.loop-index.out times c.requires.beliefs c.loop-index.invariant c.loop-index-test.true shared inside some most)
      | else-times-gt0 w ↦
          let test = simp to_z-of_z at w.if-times-gt0.false in
          let none : times ≡ pos 0 = zero-only times within.0 (omega (arith, ints, test)) in
          subst (WantedSoFar (data_of points) c.args.rest.now wanted shares (i + 1) (less_times c.loop-index.rest (point_at (data_of points) k).belief times)) (sym w.out-is)
          (wanted-skip (data_of points) c.args.rest.now wanted shares i c.loop-index.rest c.loop-index.out times c.loop-index.invariant c.loop-index-test.true shared none most)
    ])
