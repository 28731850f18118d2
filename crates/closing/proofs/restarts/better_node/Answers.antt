use Rattle.std.proofs.Common.{rules, ◌≡◌, ap, length, sym, subst, ◌∙◌}
use Rattle.std.specs.List.{AllByRecursion}
use Rattle.std.specs.Prelude.{ℕ, ℤ, pos, FitsSigned}
use Rattle.std.specs.Int.{w128}
use Rattle.std.proofs.lemmas.Int.{to_z-of_z}
use Rattle.alpha_set.specs.Worth.{AreWeighed}
use Rattle.controller.specs.Starts.{most_from, weights_sum}
use Rattle.controller.proofs.StartSums.{from-within}
use Rattle.game_model.specs.Game.{IsWithin}
use Rattle.closing.proofs.OneStarts.{first-weighed, node-times, not-most, start-node}
use Rattle.closing.proofs.restarts.better_node.Goals as goal

pub worth-product-requires-clause-weighed : goal.worth-product-requires-clause-weighed
worth-product-requires-clause-weighed c =
    let stands = rw (← c.certificate.view_is) at c.requires.stands in
    subst (AreWeighed c.certificate.inside.nodes.members) (sym c.first.ensures) (first-weighed c.args.game.now _ c.law_game.ensures.accepted stands)

pub sum_of_weights-requires : goal.sum_of_weights-requires
sum_of_weights-requires c =
    let stands = rw (← c.certificate.view_is) at c.requires.stands in
    subst (AllByRecursion (λ (start : ℕ × ℤ). IsWithin (pos 1) (pos most_from) start.1)) (sym c.deref.ensures.value)
    (from-within c.certificate.inside.start_nodes.items (length c.certificate.inside.nodes.members) (pos most_from) stands.fits.starts.from)

pub overflow_mul-product : goal.overflow_mul-product
overflow_mul-product c =
    let stands = rw (← c.certificate.view_is) at c.requires.stands in
    let worth = rw c.first.ensures at c.worth-product.ensures.worth in
    let weights : c.sum_of_weights.result ≡ weights_sum c.certificate.inside.start_nodes.items = c.sum_of_weights.ensures ∙ ap weights_sum c.deref.ensures.value in
    let times = node-times c.args.game.now _ c.worth-product.result.0 c.worth-product.result.1 c.law_game.ensures.accepted stands.fits worth in
    let first = times.first in
    let second = times.second in
    simp (weights, to_z-of_z) times.product

pub returns : goal.returns
returns c =
    let stands = rw (← c.certificate.view_is) at c.requires.stands in
    let worth = rw c.first.ensures at c.worth-product.ensures.worth in
    let weights : c.sum_of_weights.result ≡ weights_sum c.certificate.inside.start_nodes.items = c.sum_of_weights.ensures ∙ ap weights_sum c.deref.ensures.value in
    let times = node-times c.args.game.now _ c.worth-product.result.0 c.worth-product.result.1 c.law_game.ensures.accepted stands.fits worth in
    let first = times.first in
    let second = times.second in
    let product = times.product in
    let num : FitsSigned w128 c.certificate.inside.lower.num = search rules in
    let told = simp (weights, to_z-of_z) at c.if-product-sum_of_weights.false in
    rw (← c.certificate.view_is)
    (start-node c.args.game.now _ c.worth-product.result.0 c.worth-product.result.1 c.law_game.ensures.accepted stands worth
    (not-most _ _ told) (rw (← c.certificate.view_is) at (c.takes_one_node.ensures c.if-not-takes_one_node.false)))
