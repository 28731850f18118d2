use Rattle.std.proofs.Common.{◌∙◌, ◌++◌, ◌∷◌, [], ℕ, List, ap}
use Rattle.stage_game.proofs.Appends.{number-more}
use Rattle.stage_game.proofs.pairs.push_pairs.Goals as goal

pub loop-second-preserved : goal.loop-second-preserved
loop-second-preserved c =
    c.in_ok-push.ensures.items
    ∙ ap (λ (xs : List (ℕ × ℕ)). xs ++ (c.args.first, c.loop-second.second) ∷ []) c.loop-second.invariant
    ∙ number-more (λ j. (c.args.first, j)) c.args.made.now.items c.loop-second.second
