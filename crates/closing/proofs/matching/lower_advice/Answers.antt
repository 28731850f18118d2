use Rattle.std.proofs.Common.{ℕ, List, length, map, subst}
use Rattle.std.specs.Prelude.{ℤ}
use Rattle.scaled_num.specs.Share.{at}
use Rattle.game_model.specs.Branches.{branch_of}
use Rattle.closing.specs.Plans.{AreForPairs, AreStepsFor}
use Rattle.closing.proofs.ForPairs.{lower-fits}
use Rattle.closing.proofs.matching.lower_advice.Goals as goal

pub returns : goal.returns
returns c =
    lower-fits c.args.game.now (length c.args.nodes.now.members) _ c.in_ok-own.ensures
    (subst (λ (n : ℕ). AreForPairs c.args.game.now (λ a o. AreStepsFor n a o (at c.in_ok-own.own.items a)) (map branch_of c.in_ok-next.next.items)) c.len.ensures.count
    (subst (λ (xs : List ℤ). AreForPairs c.args.game.now (λ a o. AreStepsFor c.len.result a o (at xs a)) (map branch_of c.in_ok-next.next.items)) c.deref.ensures.value c.in_ok-next.ensures))
    c.in_ok-informed.ensures
