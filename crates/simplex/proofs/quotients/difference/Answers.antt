use Rattle.std.proofs.Common.{◌-ℤ◌, ap₂, ◌∙◌, FitsSigned, to_z-of_z}
use Rattle.std.specs.Int.{w64}
use Rattle.simplex.proofs.Short.{difference_word}
use Rattle.simplex.proofs.quotients.difference.Goals as goal

pub returns : goal.returns
returns c =
    let a : FitsSigned w64 c.args.lead = c.ranges.lead in
    let b : FitsSigned w64 c.args.own = c.ranges.own in
    let d : FitsSigned w64 c.args.part = c.ranges.part in
    let e : FitsSigned w64 c.args.word = c.ranges.word in
    difference_word c.word_product.result c.word_product-2.result c.word_product.ensures.small c.word_product-2.ensures.small
    ∙ ap₂ ◌-ℤ◌ c.word_product.ensures.value c.word_product-2.ensures.value
    ∙ simp to_z-of_z
