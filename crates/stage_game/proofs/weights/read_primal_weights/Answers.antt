use Rattle.std.proofs.Common.{◌≢◌, ◌<◌, ◌+◌, ℕ, ℤ, List, FitsSigned, length, pos, sym, subst, below_more, get_or-set_other, rules, to_z, of_z, to_z-of_z, arith}
use Rattle.std.specs.Int.{w128}
use Rattle.std.proofs.lemmas.List.{get_or-set_same}
use Rattle.stage_game.specs.Reading.{last_of}
use Rattle.stage_game.proofs.Weighed.{IsWeighed, weighed-positive, weighed-small}
use Rattle.stage_game.proofs.weights.read_primal_weights.Goals as goal

pub returns-clause-weights : goal.returns-clause-weights
returns-clause-weights c = record { long = omega arith; each = λ i l. (c.loop-place.invariant i (omega arith)).is_weight }

pub returns-clause-positive : goal.returns-clause-positive
returns-clause-positive c = weighed-positive (last_of c.args.solver.now) c.args.first c.loop-place.weights (λ k l. c.loop-place.invariant k (omega arith))

pub returns-clause-small : goal.returns-clause-small
returns-clause-small c = weighed-small (last_of c.args.solver.now) c.args.first c.loop-place.weights (omega arith) (λ k l. c.loop-place.invariant k (omega arith))

pub loop-place-preserved : goal.loop-place-preserved
loop-place-preserved c =
    let d = last_of c.args.solver.now in
    let place : ℕ = c.loop-place.place in
    let weights : List ℤ = c.loop-place.weights in
    let weight : ℤ = c.primal_weight.result in
    let fits : FitsSigned w128 weight = search rules in
    let weighed : IsWeighed d (c.args.first + place) weight = record { is_weight = c.primal_weight.ensures.weight; positive = c.primal_weight.ensures.positive; small = c.primal_weight.ensures.small } in
    let there : place < length weights = omega arith in
    below_more _ _
    (λ k l. let ne : k ≢ place = omega arith in rw get_or-set_other (c.loop-place.invariant k l))
    (subst (IsWeighed d (c.args.first + place)) (sym (get_or-set_same weights place (to_z w128 (of_z w128 weight)) (pos 0) there)) (simp to_z-of_z weighed))
