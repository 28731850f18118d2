use Rattle.std.proofs.Common.{◌∙◌, ◌≤◌, ℕ, ◌∷◌, List, ap, arith, length, subst, sym, take}
use Rattle.std.proofs.lemmas.List.{length-take}
use Rattle.scaled_num.proofs.Places.{IfOk-then}
use Rattle.game_model.specs.Game.{GameData, IsMass}
use Rattle.alpha_set.specs.Nodes.{NodeData}
use Rattle.stage_game.specs.Asked.{AreLowerEnds}
use Rattle.stage_game.specs.Chosen.{downwards, risen}
use Rattle.stage_game.proofs.LowerEnds.{belief-mass, first-among, lower-serves}
use Rattle.stage_game.proofs.candidates.first_lower.Goals as goal

pub worth-best-requires-clause-weighed : goal.worth-best-requires-clause-weighed
worth-best-requires-clause-weighed c =
    let g : GameData = c.args.game.now in
    record {
      game = g;
      accepted = c.law_game.ensures.accepted;
      fit = c.requires.nodes.fit;
      right = subst (IsMass g) (sym c.parts.ensures.parts) (belief-mass g c.law_game.ensures.accepted c.args.belief.now c.requires.belief.right);
    }

pub returns-clause-serve : goal.returns-clause-serve
returns-clause-serve c =
    let nodes : List NodeData = c.args.nodes.now.members in
    let best : ℕ = c.worth-best.result.1 in
    let last : List ℕ = take 15 (downwards (length nodes)) in
    let few : length (best ∷ last) ≤ 16 = omega (arith, length-take 15 (downwards (length nodes))) in
    IfOk-then c.best_and_last.result c.best_and_last.ensures (λ found h.
    subst (AreLowerEnds nodes) (sym (h ∙ ap (λ (n : ℕ). risen n (best ∷ take 15 (downwards n))) c.len.ensures.count))
    (lower-serves nodes (best ∷ last) best c.worth-best.ensures.worth.inside (first-among best last) few))
