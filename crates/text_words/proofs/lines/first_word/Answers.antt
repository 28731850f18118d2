use Rattle.std.proofs.Common.{◌==◌, ◌+◌, length, sym, ◌∙◌, rules, tests, arith}
use Rattle.std.proofs.lemmas.Iterator.{YieldsList-from_slice}
use Rattle.std.proofs.lemmas.Iterator.Search.{position_from_yields_List}
use Rattle.std.proofs.lemmas.Slice.{between_to_end}
use Rattle.text_words.proofs.Pieces.{words-more, words-none}
use Rattle.text_words.proofs.lines.first_word.Goals as goal

pub returns-in-Some-clause-words : goal.returns-in-Some-clause-words
returns-in-Some-clause-words c =
    let at = position_from_yields_List (λ b. b == 32) _ _ c.position.result c.position.ensures.ran (YieldsList-from_slice c.args.line.now cc) (λ x b q k. search (rules, tests)) in
    rw (between_to_end c.args.line.now (c.in-Some.end + 1) (length c.args.line.now) (omega arith)) (words-more c.args.line.now c.in-Some.end (sym at ∙ c.in-Some.is))

pub returns-in-None-clause-words : goal.returns-in-None-clause-words
returns-in-None-clause-words c =
    let at = position_from_yields_List (λ b. b == 32) _ _ c.position.result c.position.ensures.ran (YieldsList-from_slice c.args.line.now cc) (λ x b q k. search (rules, tests)) in
    words-none c.args.line.now (sym at ∙ c.in-None.is)
