use Rattle.std.proofs.Common.{rules}
use Rattle.alpha_set.specs.Worth.{IsWorth}
use Rattle.alpha_set.proofs.Spanned.{worth-spanned}
use Rattle.alpha_set.proofs.sets.NodeSet.worth.Goals as goal

pub returns-clause-bounded : goal.returns-clause-bounded
returns-clause-bounded c =
    let h : IsWorth c.args.self.now.members c.args.mass.now c.greatest.result.0 c.greatest.result.1 = search rules in
    λ w. worth-spanned c.args.self.now.members c.args.mass.now c.greatest.result.0 c.greatest.result.1 h w
