use Rattle.std.proofs.Common.{◌≡◌, refl, ◌<◌, pos, ◌+ℤ◌, ◌-ℤ◌, ◌≤ℤ◌, ◌<ℤ◌, length, rules, ℕ, List, ℤ, FitsSigned, to_z-of_z, arith, sym, subst, set, replicate, ap, ◌∙◌}
use Rattle.std.specs.Int.{w128}
use Rattle.std.proofs.lemmas.Int.{ints}
use Rattle.scaled_num.specs.Sums.{sum_of}
use Rattle.scaled_num.specs.Share.{at, AreFloors}
use Rattle.scaled_num.proofs.Floors.{All-to_recursion, NoneNegative, Taken, floors-taken, missing_fits, topped_fits, taken_item_fits, topped-sum, topped-none_negative, replicate-none_negative, set-none_negative, zeros-sum, sum-positive}
use Rattle.scaled_num.proofs.shares.take_share.Goals as goal

pub returns-then-whole-eq0-clause-whole : goal.returns-then-whole-eq0-clause-whole
returns-then-whole-eq0-clause-whole c =
    let fits : FitsSigned w128 c.args.total = c.ranges.total in
    let n : ℕ = length c.args.out.now in
    let zeros : c.fill.new.self ≡ replicate n (pos 0) = search rules in
    simp to_z-of_z (ap (λ (xs : List ℤ). sum_of (set xs 0 c.args.total)) zeros ∙ zeros-sum n c.args.total (omega (arith, c.requires.some, c.requires.lengths)))

pub returns-then-whole-eq0-clause-positive : goal.returns-then-whole-eq0-clause-positive
returns-then-whole-eq0-clause-positive c =
    let fits : FitsSigned w128 c.args.total = c.ranges.total in
    let n : ℕ = length c.args.out.now in
    let zeros : c.fill.new.self ≡ replicate n (pos 0) = search rules in
    simp to_z-of_z (set-none_negative c.fill.new.self 0 c.args.total (subst NoneNegative (sym zeros) (replicate-none_negative n)) c.requires.total)

pub take_floors-requires-clause-positive : goal.take_floors-requires-clause-positive
take_floors-requires-clause-positive c =
    let fits : FitsSigned w128 c.sum-whole.result = search rules in
    simp to_z-of_z (subst (λ s. pos 0 <ℤ s) (sym c.sum-whole.ensures) (sum-positive c.args.weights.now c.sum-whole.result c.requires.weights c.sum-whole.ensures c.if-whole-eq0.false))

pub sum-whole-requires-clause-each : goal.sum-whole-requires-clause-each
sum-whole-requires-clause-each c = All-to_recursion (λ x. pos 0 ≤ℤ x) c.args.weights.now c.requires.weights

pub sum-requires-clause-each : goal.sum-requires-clause-each
sum-requires-clause-each c =
    let weights : List ℤ = c.args.weights.now in
    let total : ℤ = c.args.total in
    let out : List ℤ = c.take_floors.new.out in
    let fits : FitsSigned w128 total = c.ranges.total in
    let floors : AreFloors weights total out = simp to_z-of_z at c.take_floors.ensures in
    let taken : Taken total out = floors-taken weights c.sum-whole.result total out c.requires.weights c.requires.total c.requires.product c.sum-whole.ensures c.if-whole-eq0.false floors in
    All-to_recursion (λ x. pos 0 ≤ℤ x) out taken.none_negative

pub sum-requires-clause-most : goal.sum-requires-clause-most
sum-requires-clause-most c =
    let weights : List ℤ = c.args.weights.now in
    let total : ℤ = c.args.total in
    let out : List ℤ = c.take_floors.new.out in
    let fits : FitsSigned w128 total = c.ranges.total in
    let floors : AreFloors weights total out = simp to_z-of_z at c.take_floors.ensures in
    let taken : Taken total out = floors-taken weights c.sum-whole.result total out c.requires.weights c.requires.total c.requires.product c.sum-whole.ensures c.if-whole-eq0.false floors in
    omega (arith, ints, taken.within, taken.small)

pub overflow_sub-missing : goal.overflow_sub-missing
overflow_sub-missing c =
    let weights : List ℤ = c.args.weights.now in
    let total : ℤ = c.args.total in
    let out : List ℤ = c.take_floors.new.out in
    let fits : FitsSigned w128 total = c.ranges.total in
    let floors : AreFloors weights total out = simp to_z-of_z at c.take_floors.ensures in
    let taken : Taken total out = floors-taken weights c.sum-whole.result total out c.requires.weights c.requires.total c.requires.product c.sum-whole.ensures c.if-whole-eq0.false floors in
    let fits_given : FitsSigned w128 c.sum.result = search rules in
    simp to_z-of_z (rw c.sum.ensures (missing_fits total out taken))

pub overflow_add-out : goal.overflow_add-out
overflow_add-out c =
    let weights : List ℤ = c.args.weights.now in
    let total : ℤ = c.args.total in
    let out : List ℤ = c.take_floors.new.out in
    let fits : FitsSigned w128 total = c.ranges.total in
    let floors : AreFloors weights total out = simp to_z-of_z at c.take_floors.ensures in
    let taken : Taken total out = floors-taken weights c.sum-whole.result total out c.requires.weights c.requires.total c.requires.product c.sum-whole.ensures c.if-whole-eq0.false floors in
    let fits_given : FitsSigned w128 c.sum.result = search rules in
    let place : ℕ = c.first_greatest.result in
    let inside : place < length out = omega (arith, c.first_greatest.ensures.inside, floors.same_length) in
    let fits_item : FitsSigned w128 (at out place) = taken_item_fits total out place taken inside in
    let fits_missing : FitsSigned w128 (total -ℤ c.sum.result) = rw c.sum.ensures (missing_fits total out taken) in
    let fits_topped : FitsSigned w128 (at out place +ℤ (total -ℤ c.sum.result)) = rw c.sum.ensures (topped_fits total out place taken inside) in
    simp to_z-of_z fits_topped

pub returns-clause-shared : goal.returns-clause-shared
returns-clause-shared c =
    let weights : List ℤ = c.args.weights.now in
    let total : ℤ = c.args.total in
    let out : List ℤ = c.take_floors.new.out in
    let fits : FitsSigned w128 total = c.ranges.total in
    let floors : AreFloors weights total out = simp to_z-of_z at c.take_floors.ensures in
    let taken : Taken total out = floors-taken weights c.sum-whole.result total out c.requires.weights c.requires.total c.requires.product c.sum-whole.ensures c.if-whole-eq0.false floors in
    let fits_given : FitsSigned w128 c.sum.result = search rules in
    let place : ℕ = c.first_greatest.result in
    let inside : place < length out = omega (arith, c.first_greatest.ensures.inside, floors.same_length) in
    let fits_item : FitsSigned w128 (at out place) = taken_item_fits total out place taken inside in
    let fits_missing : FitsSigned w128 (total -ℤ c.sum.result) = rw c.sum.ensures (missing_fits total out taken) in
    let fits_topped : FitsSigned w128 (at out place +ℤ (total -ℤ c.sum.result)) = rw c.sum.ensures (topped_fits total out place taken inside) in
    let some : pos 0 <ℤ sum_of weights = sum-positive weights c.sum-whole.result c.requires.weights c.sum-whole.ensures c.if-whole-eq0.false in
    simp to_z-of_z (rw c.sum.ensures (record {
      none = λ zero. absurd (omega (arith, ints, zero, some));
      some = λ _. record { floors = out; place = place; are_floors = floors; is_first = c.first_greatest.ensures; topped = refl };
    }))

pub returns-clause-whole : goal.returns-clause-whole
returns-clause-whole c =
    let weights : List ℤ = c.args.weights.now in
    let total : ℤ = c.args.total in
    let out : List ℤ = c.take_floors.new.out in
    let fits : FitsSigned w128 total = c.ranges.total in
    let floors : AreFloors weights total out = simp to_z-of_z at c.take_floors.ensures in
    let taken : Taken total out = floors-taken weights c.sum-whole.result total out c.requires.weights c.requires.total c.requires.product c.sum-whole.ensures c.if-whole-eq0.false floors in
    let fits_given : FitsSigned w128 c.sum.result = search rules in
    let place : ℕ = c.first_greatest.result in
    let inside : place < length out = omega (arith, c.first_greatest.ensures.inside, floors.same_length) in
    let fits_item : FitsSigned w128 (at out place) = taken_item_fits total out place taken inside in
    let fits_missing : FitsSigned w128 (total -ℤ c.sum.result) = rw c.sum.ensures (missing_fits total out taken) in
    let fits_topped : FitsSigned w128 (at out place +ℤ (total -ℤ c.sum.result)) = rw c.sum.ensures (topped_fits total out place taken inside) in
    simp to_z-of_z (rw c.sum.ensures (topped-sum out place total inside))

pub returns-clause-positive : goal.returns-clause-positive
returns-clause-positive c =
    let weights : List ℤ = c.args.weights.now in
    let total : ℤ = c.args.total in
    let out : List ℤ = c.take_floors.new.out in
    let fits : FitsSigned w128 total = c.ranges.total in
    let floors : AreFloors weights total out = simp to_z-of_z at c.take_floors.ensures in
    let taken : Taken total out = floors-taken weights c.sum-whole.result total out c.requires.weights c.requires.total c.requires.product c.sum-whole.ensures c.if-whole-eq0.false floors in
    let fits_given : FitsSigned w128 c.sum.result = search rules in
    let place : ℕ = c.first_greatest.result in
    let inside : place < length out = omega (arith, c.first_greatest.ensures.inside, floors.same_length) in
    let fits_item : FitsSigned w128 (at out place) = taken_item_fits total out place taken inside in
    let fits_missing : FitsSigned w128 (total -ℤ c.sum.result) = rw c.sum.ensures (missing_fits total out taken) in
    let fits_topped : FitsSigned w128 (at out place +ℤ (total -ℤ c.sum.result)) = rw c.sum.ensures (topped_fits total out place taken inside) in
    simp to_z-of_z (rw c.sum.ensures (topped-none_negative total out place taken inside))
