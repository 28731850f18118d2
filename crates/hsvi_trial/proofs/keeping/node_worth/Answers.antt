use Rattle.std.proofs.Common.{List, sym, ◌^◌, ◌≤◌, subst, unsigned_abs}
use Rattle.std.specs.List.{AllByRecursion}
use Rattle.std.specs.Prelude.{ℤ}
use Rattle.alpha_set.specs.Members.{node_data, most_nodes}
use Rattle.hsvi_trial.proofs.Products.{small-entries}
use Rattle.hsvi_trial.proofs.keeping.node_worth.Goals as goal

pub product-requires-clause-entries : goal.product-requires-clause-entries
product-requires-clause-entries c =
    subst (λ (xs : List ℤ). AllByRecursion (λ x. unsigned_abs x ≤ 2 ^ 70) xs) (sym c.deref.ensures.value)
    (small-entries c.args.game.now most_nodes (node_data c.args.node.now) c.law_game.ensures.small_span c.requires.node)
