use Rattle.std.proofs.Common.{◌≡◌, ◌∙◌, ap, arith, rules, subst, sym, to_z}
use Rattle.std.specs.Prelude.{FitsSigned, ◌≤ℤ◌, ◌<ℤ◌}
use Rattle.std.specs.Int.{w128}
use Rattle.std.proofs.lemmas.Int.{ints, to_z-of_z}
use Rattle.alpha_set.specs.Members.{data_of}
use Rattle.alpha_set.specs.Products.{AreShort, CanMultiply, node_product_of, product_of}
use Rattle.alpha_set.proofs.Products.{best-more, best-same, can-at, node-vector, short-at}
use Rattle.alpha_set.proofs.worth.first_greatest.Goals.{then-worth-best, else-worth-best}
use Rattle.alpha_set.proofs.worth.first_greatest.Goals as goal

pub product-worth-requires-clause-fits : goal.product-worth-requires-clause-fits
product-worth-requires-clause-fits c =
    subst (CanMultiply c.args.portions.now) (sym (c.deref-in-loop-i.ensures.value ∙ node-vector c.args.nodes.now c.loop-i.i c.index-nodes-i.result c.loop-i-test.true))
    (can-at c.args.nodes.now c.args.portions.now c.loop-i.i c.requires.each c.loop-i-test.true)

pub product-worth-requires-clause-short : goal.product-worth-requires-clause-short
product-worth-requires-clause-short c = λ short.
    subst (AreShort c.args.portions.now) (sym (c.deref-in-loop-i.ensures.value ∙ node-vector c.args.nodes.now c.loop-i.i c.index-nodes-i.result c.loop-i-test.true))
    (short-at c.args.nodes.now c.args.portions.now c.loop-i.i (c.requires.short short) c.loop-i-test.true)

pub loop-i-preserved : goal.loop-i-preserved
loop-i-preserved c =
    let fits : FitsSigned w128 c.product-worth.result = search rules in
    let is : c.product-worth.result ≡ node_product_of (data_of c.args.nodes.now) c.args.portions.now c.loop-i.i =
    c.product-worth.ensures ∙ ap (product_of c.args.portions.now) (c.deref-in-loop-i.ensures.value ∙ node-vector c.args.nodes.now c.loop-i.i c.index-nodes-i.result c.loop-i-test.true) in
    elim c.if-worth-best.branch [
      | then-worth-best w ↦
          let more : to_z w128 c.loop-i.best-bits <ℤ c.product-worth.result = omega (arith, ints, w.if-worth-best.true) in
          rw (w.best-is, w.first-is) (simp to_z-of_z (best-more (node_product_of (data_of c.args.nodes.now) c.args.portions.now) c.loop-i.i c.loop-i.first (to_z w128 c.loop-i.best-bits) c.product-worth.result is more c.loop-i.invariant))
      | else-worth-best w ↦
          let less : c.product-worth.result ≤ℤ to_z w128 c.loop-i.best-bits = omega (arith, ints, w.if-worth-best.false) in
          rw (w.best-is, w.first-is) (best-same (node_product_of (data_of c.args.nodes.now) c.args.portions.now) c.loop-i.i c.loop-i.first (to_z w128 c.loop-i.best-bits) c.product-worth.result is less c.loop-i.invariant)
    ]
