use Rattle.std.proofs.Common.{◌≡◌, ◌∙◌, ◌++◌, ◌∷◌, [], ℕ, List, ap, length, subst, sym}
use Rattle.std.specs.Prelude.{ℤ}
use Rattle.scaled_num.proofs.Places.{IfOk-then}
use Rattle.game_model.specs.Game.{GameData, IsMass}
use Rattle.alpha_set.specs.Nodes.{NodeData}
use Rattle.alpha_set.specs.Worth.{IsWorth}
use Rattle.stage_game.specs.Chosen.{downwards, risen}
use Rattle.stage_game.specs.LowerCandidates.{most_lower}
use Rattle.stage_game.specs.Preferred.{GoesOn}
use Rattle.stage_game.proofs.MadeCandidates.{priced-made, priced-serves}
use Rattle.stage_game.proofs.LowerEnds.{belief-mass}
use Rattle.stage_game.proofs.candidates.priced_lower.Goals as goal

pub worth-best-requires-clause-weighed : goal.worth-best-requires-clause-weighed
worth-best-requires-clause-weighed c =
    let g : GameData = c.args.game.now in
    record {
      game = g;
      accepted = c.law_game.ensures.accepted;
      fit = c.requires.nodes.fit;
      right = subst (IsMass g) (sym c.parts.ensures.parts) (belief-mass g c.law_game.ensures.accepted c.args.belief.now c.requires.belief.right);
    }

pub returns-clause-candidates : goal.returns-clause-candidates
returns-clause-candidates c =
    let nodes : List NodeData = c.args.nodes.now.members in
    let best : ℕ = c.worth-best.result.1 in
    let first : c.push.new.self.items ≡ best ∷ [] = c.in_ok-push.ensures.items ∙ ap (λ (xs : List ℕ). xs ++ best ∷ []) c.in_ok-kept.ensures.items in
    let worth : IsWorth nodes c.args.belief.now c.worth-best.result.0 best = subst (λ (mass : List ℤ). IsWorth nodes mass c.worth-best.result.0 best) c.parts.ensures.parts c.worth-best.ensures.worth in
    let down : GoesOn most_lower (downwards (length nodes)) c.prefer_worthy.new.kept.items c.prefer_downwards.new.kept.items =
    subst (λ (n : ℕ). GoesOn most_lower (downwards n) c.prefer_worthy.new.kept.items c.prefer_downwards.new.kept.items) c.len.ensures.count c.in_ok-prefer_downwards.ensures in
    IfOk-then c.risen.result c.risen.ensures (λ found e.
    priced-made c.args.game.now c.args.belief.now nodes c.args.mixes.now c.worth-best.result.0 best c.push.new.self.items c.prefer_worthy.new.kept.items c.prefer_downwards.new.kept.items found.items worth first c.in_ok-prefer_worthy.ensures down
    (e ∙ ap (λ (n : ℕ). risen n c.deref-2.result.now) c.len-2.ensures.count ∙ ap (λ (xs : List ℕ). risen (length nodes) xs) c.deref-2.ensures.value))

pub returns-clause-serve : goal.returns-clause-serve
returns-clause-serve c =
    IfOk-then c.risen.result (returns-clause-candidates c) (λ found h. priced-serves c.args.game.now c.args.belief.now c.args.nodes.now.members c.args.mixes.now found.items h)
