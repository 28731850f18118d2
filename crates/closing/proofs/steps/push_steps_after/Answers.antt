use Rattle.std.proofs.Common.{◌≡◌, ◌++◌, ℕ, ℤ, FitsSigned, List, get_or, length, map, pos, rules, to_z-of_z, arith}
use Rattle.std.specs.Int.{w128}
use Rattle.std.specs.Prelude.{filter}
use Rattle.std.proofs.lemmas.Result.{IfOk-weaker}
use Rattle.scaled_num.proofs.Sums.{each-at}
use Rattle.game_model.specs.Branches.{branch_of, mix_total}
use Rattle.game_model.specs.Game.{IsWithin}
use Rattle.stage_game.specs.AdviceData.{has_weight}
use Rattle.stage_game.proofs.SharedTotals.{ArePartsOf}
use Rattle.closing.specs.Plans.{AddsSuch, AreStepsFor, numbered}
use Rattle.closing.proofs.Stepping.{steps-right}
use Rattle.closing.proofs.steps.push_steps_after.Goals as goal

pub share-requires-clause-total : goal.share-requires-clause-total
share-requires-clause-total c =
    let weight : ℤ = get_or c.args.own.now c.args.a (pos 0) in
    let fits : FitsSigned w128 weight = search rules in
    let within : IsWithin (pos 0) (pos mix_total) weight = each-at (IsWithin (pos 0) (pos mix_total)) (pos 0) c.args.own.now c.args.a c.requires.own.each (omega (arith, c.requires.own.long)) in
    simp to_z-of_z within

pub returns-clause-steps : goal.returns-clause-steps
returns-clause-steps c =
    let weight : ℤ = get_or c.args.own.now c.args.a (pos 0) in
    let fits : FitsSigned w128 weight = search rules in
    let within : IsWithin (pos 0) (pos mix_total) weight = each-at (IsWithin (pos 0) (pos mix_total)) (pos 0) c.args.own.now c.args.a c.requires.own.each (omega (arith, c.requires.own.long)) in
    let shares : List ℤ = c.share.new.out in
    let count : ℕ = length c.args.weights.now in
    let parts : ArePartsOf weight count shares = record { long = omega arith; not_negative = c.share.ensures.positive; sums = simp to_z-of_z at c.share.ensures.whole } in
    IfOk-weaker c.push_steps.result
    (λ _. map branch_of c.push_steps.new.next.items ≡ map branch_of c.args.next.now.items ++ filter has_weight (numbered c.args.a c.args.o shares))
    (λ _. AddsSuch (AreStepsFor count c.args.a c.args.o weight) (map branch_of c.args.next.now.items) (map branch_of c.push_steps.new.next.items))
    (λ _ e. record { added = filter has_weight (numbered c.args.a c.args.o shares); right = steps-right count c.args.a c.args.o weight shares parts within.1; same = e })
    c.push_steps.ensures
