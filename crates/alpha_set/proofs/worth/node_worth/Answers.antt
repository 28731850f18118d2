use Rattle.std.proofs.Common.{List, [], ◌∷◌, take, ap, ◌∙◌, ◌≡◌, rules, subst, sym}
use Rattle.std.specs.Prelude.{FitsSigned}
use Rattle.std.specs.Int.{w128}
use Rattle.std.proofs.lemmas.Int.{to_z-of_z}
use Rattle.scaled_num.specs.Share.{at}
use Rattle.alpha_set.specs.Members.{node_data}
use Rattle.alpha_set.specs.Products.{CanMultiply, product_of}
use Rattle.alpha_set.specs.Worth.{worth_at}
use Rattle.alpha_set.specs.declared.worth.Portion.{Portion}
use Rattle.alpha_set.proofs.Products.{can-all}
use Rattle.alpha_set.proofs.worth.node_worth.Goals as goal

pub wide_product-requires : goal.wide_product-requires
wide_product-requires c =
    let portions : List Portion = take c.gather-count.result c.gather-count.new.portions in
    subst (CanMultiply portions) (sym c.deref.ensures.value)
    (can-all (node_data c.args.node.now ∷ []) c.args.mass.now portions c.requires c.gather-count.ensures.gathered).0

pub returns : goal.returns
returns c =
    let portions : List Portion = take c.gather-count.result c.gather-count.new.portions in
    let fits : FitsSigned w128 c.wide_product.result = search rules in
    let is : c.wide_product.result ≡ worth_at c.args.mass.now c.args.node.now.vector.items =
    c.wide_product.ensures ∙ ap (product_of portions) c.deref.ensures.value ∙ c.gather-count.ensures.gathered.same (at c.args.node.now.vector.items) in
    simp to_z-of_z is
