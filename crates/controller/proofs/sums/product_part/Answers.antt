use Rattle.std.proofs.Common.{◌≡◌, ◌∙◌, List, ap, get_or, length, subst, sym, ◌^◌, ◌≤◌}
use Rattle.std.specs.Prelude.{ℤ, pos, unsigned_abs, ◌*ℤ◌}
use Rattle.std.specs.List.{AllByRecursion}
use Rattle.std.proofs.lemmas.Int.{to_z-of_z}
use Rattle.scaled_num.specs.Sums.{below, total}
use Rattle.game_model.specs.Game.{first_at}
use Rattle.alpha_set.specs.Nodes.{NodeData, no_node}
use Rattle.controller.specs.Certificates.{node_product}
use Rattle.controller.proofs.StartSums.{entries-narrow, node-in, product-part}
use Rattle.controller.proofs.sums.product_part.Goals as goal

pub first_product-requires-clause-long : goal.first_product-requires-clause-long
first_product-requires-clause-long c =
    let vector : c.deref.result.now ≡ (get_or c.args.nodes.now.members c.args.start.now.0 no_node).vector = c.deref.ensures.value ∙ ap (λ (node : NodeData). node.vector) c.node-node.ensures in
    ap length vector ∙ (node-in c.args.game.now c.args.nodes.now.members c.requires.nodes.each c.args.start.now.0 c.requires.start.0).long

pub first_product-requires-clause-entries : goal.first_product-requires-clause-entries
first_product-requires-clause-entries c =
    let vector : c.deref.result.now ≡ (get_or c.args.nodes.now.members c.args.start.now.0 no_node).vector = c.deref.ensures.value ∙ ap (λ (node : NodeData). node.vector) c.node-node.ensures in
    subst (λ (xs : List ℤ). AllByRecursion (λ x. unsigned_abs x ≤ 2 ^ 70) xs) (sym vector)
    (entries-narrow c.args.game.now c.law_game.ensures.accepted c.args.nodes.now.members c.args.start.now.0 c.requires.nodes.each c.requires.start.0)

pub overflow_mul-result : goal.overflow_mul-result
overflow_mul-result c =
    let vector : c.deref.result.now ≡ (get_or c.args.nodes.now.members c.args.start.now.0 no_node).vector = c.deref.ensures.value ∙ ap (λ (node : NodeData). node.vector) c.node-node.ensures in
    let is : c.first_product.result ≡ node_product c.args.game.now c.args.nodes.now.members c.args.start.now.0 =
    c.first_product.ensures ∙ ap (λ (entries : List ℤ). total (λ s. pos (first_at c.args.game.now s) *ℤ get_or entries s (pos 0)) (below c.args.game.now.shape.states)) vector in
    let f = product-part c.args.game.now c.law_game.ensures.accepted c.args.nodes.now.members c.args.start.now c.requires.nodes.each c.requires.start in
    let weight = f.weight in
    let number = f.number in
    simp (is, to_z-of_z) f.product

pub returns-clause-exact : goal.returns-clause-exact
returns-clause-exact c =
    let vector : c.deref.result.now ≡ (get_or c.args.nodes.now.members c.args.start.now.0 no_node).vector = c.deref.ensures.value ∙ ap (λ (node : NodeData). node.vector) c.node-node.ensures in
    let is : c.first_product.result ≡ node_product c.args.game.now c.args.nodes.now.members c.args.start.now.0 =
    c.first_product.ensures ∙ ap (λ (entries : List ℤ). total (λ s. pos (first_at c.args.game.now s) *ℤ get_or entries s (pos 0)) (below c.args.game.now.shape.states)) vector in
    let f = product-part c.args.game.now c.law_game.ensures.accepted c.args.nodes.now.members c.args.start.now c.requires.nodes.each c.requires.start in
    let weight = f.weight in
    let number = f.number in
    let product = f.product in
    simp (is, to_z-of_z)

pub returns-clause-small : goal.returns-clause-small
returns-clause-small c =
    let vector : c.deref.result.now ≡ (get_or c.args.nodes.now.members c.args.start.now.0 no_node).vector = c.deref.ensures.value ∙ ap (λ (node : NodeData). node.vector) c.node-node.ensures in
    let is : c.first_product.result ≡ node_product c.args.game.now c.args.nodes.now.members c.args.start.now.0 =
    c.first_product.ensures ∙ ap (λ (entries : List ℤ). total (λ s. pos (first_at c.args.game.now s) *ℤ get_or entries s (pos 0)) (below c.args.game.now.shape.states)) vector in
    let f = product-part c.args.game.now c.law_game.ensures.accepted c.args.nodes.now.members c.args.start.now c.requires.nodes.each c.requires.start in
    let weight = f.weight in
    let number = f.number in
    let product = f.product in
    simp (is, to_z-of_z) f.small
