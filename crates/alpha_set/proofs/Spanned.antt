-- What nodes are worth at a mass is within the span times its total.
use Rattle.std.proofs.Common.{◌≡◌, ℕ, ◌<◌, List, length, sym, subst, ◌∙◌}
use Rattle.std.specs.Prelude.{ℤ, pos, neg_ℤ, ◌*ℤ◌, ◌≤ℤ◌, slice_index_or}
use Rattle.scaled_num.specs.Share.{at}
use Rattle.scaled_num.specs.Sums.{below, sum_of, total}
use Rattle.scaled_num.proofs.Sums.{each-at, total-places}
use Rattle.scaled_num.proofs.Weighted.{IsUpTo, weighted-within}
use Rattle.game_model.specs.Game.{IsWithin, span}
use Rattle.game_model.specs.Spans.{IsWithinSpan}
use Rattle.alpha_set.specs.Members.{most_nodes}
use Rattle.alpha_set.specs.Nodes.{NodeData, NodeFits, no_node}
use Rattle.alpha_set.specs.Worth.{AreWeighed, IsWorth}

pub worth-spanned : (nodes : List NodeData) (mass : List ℤ) (value : ℤ) (number : ℕ) → IsWorth nodes mass value number → (w : AreWeighed nodes mass) → IsWithinSpan w.game mass value
worth-spanned nodes mass value number h w =
    let node : NodeData = slice_index_or nodes number no_node in
    let fits : NodeFits w.game most_nodes node = each-at (NodeFits w.game most_nodes) no_node nodes number w.fit h.inside in
    let V : ℤ = pos (span w.game) in
    let entry : (s : ℕ) → s < length mass → IsUpTo V (at node.vector s) =
    λ s l. each-at (IsWithin (neg_ℤ V) V) (pos 0) node.vector s fits.entries (subst (λ (n : ℕ). s < n) (w.right.long ∙ sym fits.long) l) in
    let sum : total (at mass) (below (length mass)) ≡ sum_of mass = total-places (λ (x : ℤ). x) (pos 0) mass in
    subst (λ (x : ℤ). IsWithinSpan w.game mass x) (sym h.has)
    (subst (λ (z : ℤ). IsUpTo (V *ℤ z) (total (λ s. at mass s *ℤ at node.vector s) (below (length mass)))) sum
    (weighted-within V (length mass) (at mass) (at node.vector) (λ s l. each-at (λ x. pos 0 ≤ℤ x) (pos 0) mass s w.right.each l) entry))
