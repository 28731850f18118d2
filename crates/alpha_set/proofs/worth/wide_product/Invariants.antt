use Rattle.alpha_set.proofs.Products.{SumSoFar}
use Rattle.alpha_set.proofs.worth.wide_product.Given as goal

abbrev pub invariant-loop-portion : goal.invariant-loop-portion
invariant-loop-portion l = SumSoFar l.fn.portions l.fn.vector l.portion-index l.sum
