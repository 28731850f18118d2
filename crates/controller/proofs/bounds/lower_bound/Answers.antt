use Rattle.std.proofs.Common.{length, refl, rules, subst, sym, ◌≡◌}
use Rattle.std.specs.Prelude.{ℤ, pos, FitsSigned, ◌*ℤ◌}
use Rattle.std.specs.Int.{w128}
use Rattle.std.proofs.lemmas.Int.{to_z-of_z}
use Rattle.game_model.specs.Game.{IsWithin}
use Rattle.controller.specs.Starts.{most_from}
use Rattle.controller.proofs.StartSums.{denominator-fits, few-starts, from-within, weights-positive}
use Rattle.controller.proofs.bounds.lower_bound.Goals as goal

pub weighted_product-num-requires-clause-starts : goal.weighted_product-num-requires-clause-starts
weighted_product-num-requires-clause-starts c = few-starts (length c.args.nodes.now.members) (pos most_from) c.args.starts.now c.requires.nodes.few c.requires.starts

pub sum_of_weights-requires : goal.sum_of_weights-requires
sum_of_weights-requires c = from-within c.args.starts.now (length c.args.nodes.now.members) (pos most_from) c.requires.starts

pub overflow_mul-den : goal.overflow_mul-den
overflow_mul-den c =
    let within : IsWithin (pos 1) (pos most_from) c.sum_of_weights.result =
    subst (λ (x : ℤ). IsWithin (pos 1) (pos most_from) x) (sym c.sum_of_weights.ensures) (weights-positive c.args.starts.now (length c.args.nodes.now.members) (pos most_from) c.requires.starts, c.requires.light) in
    let d = denominator-fits c.sum_of_weights.result c.bound_scale.result within c.bound_scale.ensures.low c.bound_scale.ensures.small in
    let times = d.times in
    let scale = d.scale in
    simp to_z-of_z d.product

pub invariant_of-result : goal.invariant_of-result
invariant_of-result c =
    let within : IsWithin (pos 1) (pos most_from) c.sum_of_weights.result =
    subst (λ (x : ℤ). IsWithin (pos 1) (pos most_from) x) (sym c.sum_of_weights.ensures) (weights-positive c.args.starts.now (length c.args.nodes.now.members) (pos most_from) c.requires.starts, c.requires.light) in
    let d = denominator-fits c.sum_of_weights.result c.bound_scale.result within c.bound_scale.ensures.low c.bound_scale.ensures.small in
    let times = d.times in
    let scale = d.scale in
    let product = d.product in
    simp to_z-of_z (record { positive = d.positive })

pub returns : goal.returns
returns c =
    let within : IsWithin (pos 1) (pos most_from) c.sum_of_weights.result =
    subst (λ (x : ℤ). IsWithin (pos 1) (pos most_from) x) (sym c.sum_of_weights.ensures) (weights-positive c.args.starts.now (length c.args.nodes.now.members) (pos most_from) c.requires.starts, c.requires.light) in
    let d = denominator-fits c.sum_of_weights.result c.bound_scale.result within c.bound_scale.ensures.low c.bound_scale.ensures.small in
    let num : FitsSigned w128 c.weighted_product-num.result = search rules in
    let times = d.times in
    let scale = d.scale in
    let product = d.product in
    simp to_z-of_z (c.weighted_product-num.ensures, both c.sum_of_weights.ensures c.bound_scale.ensures.exact)
  where
    both : {x y a b : ℤ} → x ≡ a → y ≡ b → x *ℤ y ≡ a *ℤ b
    both e f = rw (e, f) refl
