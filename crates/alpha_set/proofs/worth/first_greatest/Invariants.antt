use Rattle.alpha_set.specs.Members.{data_of}
use Rattle.alpha_set.specs.Products.{IsFirstBest, node_product_of}
use Rattle.alpha_set.proofs.worth.first_greatest.Given as goal

abbrev pub invariant-loop-i : goal.invariant-loop-i
invariant-loop-i l = IsFirstBest (node_product_of (data_of l.fn.nodes) l.fn.portions) l.i l.best l.first
