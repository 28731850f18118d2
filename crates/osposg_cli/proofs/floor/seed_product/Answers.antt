use Rattle.std.proofs.Common.{rules, ℕ}
use Rattle.std.specs.Prelude.{pos, slice_index_or}
use Rattle.osposg_cli.proofs.floor.seed_product.Goals as goal

pub first_product-requires-clause-entries : goal.first_product-requires-clause-entries
first_product-requires-clause-entries c = c.steady.ensures.small

pub returns : goal.returns
returns c =
    ((λ (s : ℕ). slice_index_or c.steady.new.out s (pos 0)), c.steady.ensures.seed, search rules)
