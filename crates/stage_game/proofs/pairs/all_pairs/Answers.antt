use Rattle.std.proofs.Common.{◌∙◌, ◌++◌, [], ℕ, List, ap, map}
use Rattle.scaled_num.specs.Sums.{below}
use Rattle.stage_game.proofs.Appends.{numbers-block-more}
use Rattle.stage_game.proofs.pairs.all_pairs.Goals as goal

pub loop-first-preserved : goal.loop-first-preserved
loop-first-preserved c =
    c.in_ok-push_pairs.ensures
    ∙ ap (λ (xs : List (ℕ × ℕ)). xs ++ map (λ j. (c.loop-first.first, j)) (below c.args.seconds)) c.loop-first.invariant
    ∙ numbers-block-more (λ i. map (λ j. (i, j)) (below c.args.seconds)) [] c.loop-first.first
