use Rattle.std.proofs.Common.{◌^◌, List, rules, arith, sym, subst}
use Rattle.std.specs.Prelude.{ℤ, FitsSigned}
use Rattle.std.specs.Int.{w128}
use Rattle.std.proofs.lemmas.Int.{ints, to_z-of_z}
use Rattle.point_set.specs.Sawtooth.{FitsTimes, IsMostTimes}
use Rattle.point_set.specs.Takes.{IsLesser}
use Rattle.point_set.proofs.Taking.{less-none, takes-none, takes-well, times-within}
use Rattle.point_set.proofs.takes.take.Goals as goal

pub returns-then-share-total-clause-most : goal.returns-then-share-total-clause-most
returns-then-share-total-clause-most c =
    let share_fits : FitsSigned w128 c.args.share = c.ranges.share in
    let total_fits : FitsSigned w128 c.total-total.result = search rules in
    let test = simp to_z-of_z at c.if-share-total.true in
    takes-none c.args.rest.now c.args.belief.now c.args.share c.total-total.result c.requires.mass c.total-total.ensures c.requires.share.0 (omega (arith, ints, test))

pub returns-then-share-total-clause-rest : goal.returns-then-share-total-clause-rest
returns-then-share-total-clause-rest c = less-none c.args.rest.now c.args.belief.now

pub allowed-times-requires-clause-times : goal.allowed-times-requires-clause-times
allowed-times-requires-clause-times c =
    let times_fits : FitsSigned w128 c.most_times.result = search rules in
    let most : IsMostTimes c.args.rest.now c.args.belief.now c.most_times.result = subst (λ (ps : List ℤ). IsMostTimes c.args.rest.now ps c.most_times.result) c.parts.ensures.parts c.most_times.ensures in
    simp to_z-of_z (times-within c.args.rest.now c.args.belief.now c.most_times.result (2 ^ 66) c.requires.belief c.requires.mass c.requires.sum most)

pub lessen-requires-clause-fits : goal.lessen-requires-clause-fits
lessen-requires-clause-fits c =
    let share_fits : FitsSigned w128 c.args.share = c.ranges.share in
    let times_fits : FitsSigned w128 c.most_times.result = search rules in
    let total_fits : FitsSigned w128 c.total-total.result = search rules in
    let few_fits : FitsSigned w128 c.allowed-times.result = search rules in
    let lesser : IsLesser c.most_times.result c.args.share c.total-total.result c.allowed-times.result = simp to_z-of_z at c.allowed-times.ensures in
    let well = takes-well c.args.rest.now c.args.belief.now c.parts.result.now c.args.share c.most_times.result c.allowed-times.result c.total-total.result c.requires.belief c.requires.mass c.requires.sum c.parts.ensures.parts c.total-total.ensures c.most_times.ensures lesser in
    simp to_z-of_z (subst (λ (ps : List ℤ). FitsTimes c.args.rest.now ps c.allowed-times.result) (sym c.parts-2.ensures.parts) well.most.fits)

pub returns-clause-most : goal.returns-clause-most
returns-clause-most c =
    let share_fits : FitsSigned w128 c.args.share = c.ranges.share in
    let times_fits : FitsSigned w128 c.most_times.result = search rules in
    let total_fits : FitsSigned w128 c.total-total.result = search rules in
    let few_fits : FitsSigned w128 c.allowed-times.result = search rules in
    let lesser : IsLesser c.most_times.result c.args.share c.total-total.result c.allowed-times.result = simp to_z-of_z at c.allowed-times.ensures in
    let well = takes-well c.args.rest.now c.args.belief.now c.parts.result.now c.args.share c.most_times.result c.allowed-times.result c.total-total.result c.requires.belief c.requires.mass c.requires.sum c.parts.ensures.parts c.total-total.ensures c.most_times.ensures lesser in
    simp to_z-of_z well.most

pub returns-clause-within : goal.returns-clause-within
returns-clause-within c =
    let share_fits : FitsSigned w128 c.args.share = c.ranges.share in
    let times_fits : FitsSigned w128 c.most_times.result = search rules in
    let total_fits : FitsSigned w128 c.total-total.result = search rules in
    let few_fits : FitsSigned w128 c.allowed-times.result = search rules in
    let lesser : IsLesser c.most_times.result c.args.share c.total-total.result c.allowed-times.result = simp to_z-of_z at c.allowed-times.ensures in
    let well = takes-well c.args.rest.now c.args.belief.now c.parts.result.now c.args.share c.most_times.result c.allowed-times.result c.total-total.result c.requires.belief c.requires.mass c.requires.sum c.parts.ensures.parts c.total-total.ensures c.most_times.ensures lesser in
    simp to_z-of_z well.within
