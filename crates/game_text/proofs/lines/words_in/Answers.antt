use Rattle.std.proofs.Common.{ltb, length, ◌∙◌, rules, tests}
use Rattle.std.proofs.lemmas.Iterator.Consumers.{map_from_collect, YieldsList-at, YieldsList-from_filter}
use Rattle.std.proofs.lemmas.Iterator.Splits.{YieldsList-from_slice_split}
use Rattle.game_text.specs.Plain.{before_comment, is_gap, words_in}
use Rattle.game_text.proofs.lines.words_in.Goals as goal

pub returns : goal.returns
unfolding words_in
returns c =
    map_from_collect _ c.collect.ensures.ran
    (YieldsList-from_filter _ (λ word. ltb 0 (length word))
    (YieldsList-at c.filter.ensures.source
    (YieldsList-from_slice_split _ is_gap (before_comment c.args.piece.now) (c.split.ensures.rest ∙ c.before_comment.ensures) c.split.ensures.done c.split.ensures.closure (λ x b q k. search (rules, tests))))
    c.filter.ensures.closure (λ x b q k. search (rules, tests)))
