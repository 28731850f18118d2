use Rattle.std.proofs.Common.{◌==◌, arith, rules, tests}
use Rattle.std.proofs.lemmas.Iterator.{YieldsList-from_slice}
use Rattle.std.proofs.lemmas.Iterator.Consumers.{count_from_yields_List, YieldsList-at, YieldsList-from_filter}
use Rattle.std.proofs.lemmas.List.Splits.{length-slice_split}
use Rattle.std.proofs.lemmas.List.Sums.{length-filter}
use Rattle.text_words.specs.Lines.{words_of}
use Rattle.text_words.proofs.lines.spaces.Goals as goal

pub returns : goal.returns
unfolding words_of
returns c =
    let line = c.args.line.now in
    let counted = count_from_yields_List c.filter.result c.count.result c.count.ensures.ran (YieldsList-from_filter _ (λ b. b == 32) (YieldsList-at c.filter.ensures.source (YieldsList-from_slice line cc)) c.filter.ensures.closure (λ x b q k. search (rules, tests))) in
    omega (arith, counted, length-filter (λ b. b == 32) line, length-slice_split (λ b. b == 32) line)
