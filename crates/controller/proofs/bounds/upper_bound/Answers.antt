use Rattle.std.proofs.Common.{length}
use Rattle.std.specs.Prelude.{pos}
use Rattle.std.proofs.lemmas.Int.{to_z-of_z}
use Rattle.controller.specs.Starts.{most_over}
use Rattle.controller.proofs.StartSums.{denominator-fits, few-starts, values-small}
use Rattle.controller.proofs.bounds.upper_bound.Goals as goal

pub weighted_value-num-requires-clause-starts : goal.weighted_value-num-requires-clause-starts
weighted_value-num-requires-clause-starts c = few-starts (length c.args.points.now.members) (pos most_over) c.args.starts.now c.requires.points.few c.requires.starts

pub weighted_value-num-requires-clause-small : goal.weighted_value-num-requires-clause-small
weighted_value-num-requires-clause-small c =
    values-small c.args.game.now c.args.points.now.members c.args.starts.now c.args.multiple
    (record { game = c.law_game.ensures.accepted; all = c.requires.points.each; each = c.requires.starts.each; within = c.requires.multiple; sums = c.requires.made_up })

pub overflow_mul-den : goal.overflow_mul-den
overflow_mul-den c =
    let d = denominator-fits c.args.multiple c.bound_scale.result c.requires.multiple c.bound_scale.ensures.low c.bound_scale.ensures.small in
    let times = d.times in
    let scale = d.scale in
    simp to_z-of_z d.product

pub invariant_of-result : goal.invariant_of-result
invariant_of-result c =
    let d = denominator-fits c.args.multiple c.bound_scale.result c.requires.multiple c.bound_scale.ensures.low c.bound_scale.ensures.small in
    let times = d.times in
    let scale = d.scale in
    let product = d.product in
    simp to_z-of_z (record { positive = d.positive })
