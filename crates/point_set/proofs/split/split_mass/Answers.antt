use Rattle.std.proofs.Common.{ℕ, ◌<◌, ◌≤◌, ◌^◌, ◌∙◌, List, length, get_or, ap, rules, subst, sym}
use Rattle.std.specs.Prelude.{ℤ, pos, FitsSigned, ◌≤ℤ◌}
use Rattle.std.specs.Int.{w128}
use Rattle.std.specs.List.{AllByRecursion}
use Rattle.std.proofs.lemmas.Int.{to_z-of_z}
use Rattle.std.proofs.lemmas.List.{length-take-le}
use Rattle.scaled_num.specs.Share.{at}
use Rattle.scaled_num.specs.Sums.{sum_of}
use Rattle.game_model.proofs.Front.{length-map}
use Rattle.game_model.specs.Game.{IsWithin}
use Rattle.point_set.specs.Members.{data_of, point_data}
use Rattle.point_set.specs.Takes.{AreBeliefs, AreItems, others}
use Rattle.point_set.proofs.Splitting.{IsDone, corners-few, done-by-copy, items-within, measured-beliefs, measured-few, measured-sum, rest-within, sum-within, wanted-few}
use Rattle.point_set.proofs.split.split_mass.Goals as goal

pub slice_bounds-shares-end : goal.slice_bounds-shares-end
slice_bounds-shares-end c =
    wanted-few (data_of c.args.points.now) (length c.args.mass.now) c.args.wanted.now c.requires.wanted (measured-few (data_of c.args.points.now) c.args.mass.now c.requires.measured)

pub share_by-requires-clause-few : goal.share_by-requires-clause-few
share_by-requires-clause-few c =
    wanted-few (data_of c.args.points.now) (length c.args.mass.now) c.args.wanted.now c.requires.wanted (measured-few (data_of c.args.points.now) c.args.mass.now c.requires.measured)

pub slice_bounds-shares-end-2 : goal.slice_bounds-shares-end-2
slice_bounds-shares-end-2 c =
    let few : length c.args.wanted.now ≤ 24 = wanted-few (data_of c.args.points.now) (length c.args.mass.now) c.args.wanted.now c.requires.wanted (measured-few (data_of c.args.points.now) c.args.mass.now c.requires.measured) in
    sym (length-take-le (length c.args.wanted.now) _ few)

pub share_by-requires-clause-places : goal.share_by-requires-clause-places
share_by-requires-clause-places c =
    let few : length c.args.wanted.now ≤ 24 = wanted-few (data_of c.args.points.now) (length c.args.mass.now) c.args.wanted.now c.requires.wanted (measured-few (data_of c.args.points.now) c.args.mass.now c.requires.measured) in
    length-take-le (length c.args.wanted.now) _ few

pub share_by-requires-clause-total : goal.share_by-requires-clause-total
share_by-requires-clause-total c =
    let fits : FitsSigned w128 c.sum.result = search rules in
    let within : IsWithin (pos 0) (pos (2 ^ 66)) c.sum.result = subst (IsWithin (pos 0) (pos (2 ^ 66))) (sym c.sum.ensures) (sum-within (data_of c.args.points.now) c.args.mass.now c.requires.measured) in
    simp to_z-of_z within

pub take_wanted-requires-clause-beliefs : goal.take_wanted-requires-clause-beliefs
take_wanted-requires-clause-beliefs c =
    subst (λ (mass : List ℤ). AreBeliefs (length mass) (data_of c.args.points.now)) (sym c.copy_from_slice.ensures.after) (measured-beliefs (data_of c.args.points.now) c.args.mass.now c.requires.measured)

pub give_corners-requires-clause-few : goal.give_corners-requires-clause-few
give_corners-requires-clause-few c =
    let f : ℕ → ℕ = λ s. get_or c.args.corners.now s 0 in
    let few = subst (λ (mass : List ℤ). (v : ℕ → ℕ) → others v (length mass) c.take_wanted.new.out ≤ others v (length mass) c.args.wanted.now) c.copy_from_slice.ensures.after c.take_wanted.ensures.others in
    subst (λ (n : ℕ). others f n c.take_wanted.new.out ≤ 8) (sym c.requires.states)
    (corners-few (data_of c.args.points.now) (length c.args.mass.now) c.args.wanted.now c.take_wanted.new.out f c.requires.wanted c.requires.current few)

pub give_corners-requires-clause-items : goal.give_corners-requires-clause-items
give_corners-requires-clause-items c =
    items-within (data_of c.args.points.now) c.args.mass.now c.take_wanted.new.rest c.take_wanted.new.out (measured-beliefs (data_of c.args.points.now) c.args.mass.now c.requires.measured) c.requires.measured.right.each
    c.take_wanted.ensures.mass (c.take_wanted.ensures.places ∙ ap length c.copy_from_slice.ensures.after) (measured-sum (data_of c.args.points.now) c.args.mass.now c.requires.measured)
    (subst (λ (xs : List ℤ). AreItems (data_of c.args.points.now) xs (at c.take_wanted.new.rest) c.take_wanted.new.out) c.copy_from_slice.ensures.after c.take_wanted.ensures.items)

pub give_corners-requires-clause-rest : goal.give_corners-requires-clause-rest
give_corners-requires-clause-rest c =
    rest-within c.args.mass.now c.take_wanted.new.rest c.take_wanted.ensures.mass
    (subst (λ (xs : List ℤ). sum_of c.take_wanted.new.rest ≤ℤ sum_of xs) c.copy_from_slice.ensures.after c.take_wanted.ensures.sum)
    (measured-sum (data_of c.args.points.now) c.args.mass.now c.requires.measured)

pub returns-clause-split : goal.returns-clause-split
returns-clause-split c =
    let f : ℕ → ℕ = λ s. get_or c.args.corners.now s 0 in
    let fits : FitsSigned w128 c.sum.result = search rules in
    let shared = simp to_z-of_z at c.share_by.ensures.shared in
    (done-by-copy (data_of c.args.points.now) c.args.wanted.now c.args.mass.now c.copy_from_slice.new.self c.share_by.new.shares c.take_wanted.new.rest c.take_wanted.new.out c.give_corners.new.out f (length c.args.corners.now) c.sum.result c.requires.measured c.requires.current
    c.copy_from_slice.ensures.after c.requires.states c.sum.ensures shared c.take_wanted.ensures.taken c.take_wanted.ensures.items c.take_wanted.ensures.mass c.take_wanted.ensures.places c.give_corners.ensures).split

pub returns-clause-makes_up : goal.returns-clause-makes_up
returns-clause-makes_up c =
    let f : ℕ → ℕ = λ s. get_or c.args.corners.now s 0 in
    let fits : FitsSigned w128 c.sum.result = search rules in
    let shared = simp to_z-of_z at c.share_by.ensures.shared in
    (done-by-copy (data_of c.args.points.now) c.args.wanted.now c.args.mass.now c.copy_from_slice.new.self c.share_by.new.shares c.take_wanted.new.rest c.take_wanted.new.out c.give_corners.new.out f (length c.args.corners.now) c.sum.result c.requires.measured c.requires.current
    c.copy_from_slice.ensures.after c.requires.states c.sum.ensures shared c.take_wanted.ensures.taken c.take_wanted.ensures.items c.take_wanted.ensures.mass c.take_wanted.ensures.places c.give_corners.ensures).makes_up

pub returns-clause-inside : goal.returns-clause-inside
returns-clause-inside c =
    let done : IsDone (data_of c.args.points.now) c.args.wanted.now c.args.mass.now c.give_corners.new.out =
    let f : ℕ → ℕ = λ s. get_or c.args.corners.now s 0 in
    let fits : FitsSigned w128 c.sum.result = search rules in
    let shared = simp to_z-of_z at c.share_by.ensures.shared in
    (done-by-copy (data_of c.args.points.now) c.args.wanted.now c.args.mass.now c.copy_from_slice.new.self c.share_by.new.shares c.take_wanted.new.rest c.take_wanted.new.out c.give_corners.new.out f (length c.args.corners.now) c.sum.result c.requires.measured c.requires.current
    c.copy_from_slice.ensures.after c.requires.states c.sum.ensures shared c.take_wanted.ensures.taken c.take_wanted.ensures.items c.take_wanted.ensures.mass c.take_wanted.ensures.places c.give_corners.ensures) in
    subst (λ (n : ℕ). AllByRecursion (λ (item : ℕ × ℤ). item.0 < n) c.give_corners.new.out) (length-map point_data c.args.points.now) done.inside

pub returns-clause-most : goal.returns-clause-most
returns-clause-most c =
    let f : ℕ → ℕ = λ s. get_or c.args.corners.now s 0 in
    let fits : FitsSigned w128 c.sum.result = search rules in
    let shared = simp to_z-of_z at c.share_by.ensures.shared in
    (done-by-copy (data_of c.args.points.now) c.args.wanted.now c.args.mass.now c.copy_from_slice.new.self c.share_by.new.shares c.take_wanted.new.rest c.take_wanted.new.out c.give_corners.new.out f (length c.args.corners.now) c.sum.result c.requires.measured c.requires.current
    c.copy_from_slice.ensures.after c.requires.states c.sum.ensures shared c.take_wanted.ensures.taken c.take_wanted.ensures.items c.take_wanted.ensures.mass c.take_wanted.ensures.places c.give_corners.ensures).most
