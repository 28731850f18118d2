use Rattle.std.proofs.Common.{◌==◌, arith, rules, tests}
use Rattle.std.proofs.lemmas.Iterator.{YieldsList-from_slice}
use Rattle.std.proofs.lemmas.Iterator.Consumers.{count_from_yields_List, YieldsList-at, YieldsList-from_filter}
use Rattle.std.proofs.lemmas.List.Splits.{length-slice_split}
use Rattle.std.proofs.lemmas.List.Sums.{length-filter}
use Rattle.game_text.proofs.lines.line_feeds.Goals as goal

pub returns-clause-pieces : goal.returns-clause-pieces
returns-clause-pieces c =
    let text = c.args.text.now in
    let counted = count_from_yields_List c.filter.result c.count.result c.count.ensures.ran (YieldsList-from_filter _ (λ b. b == 10) (YieldsList-at c.filter.ensures.source (YieldsList-from_slice text cc)) c.filter.ensures.closure (λ x b q k. search (rules, tests))) in
    omega (arith, counted, length-filter (λ b. b == 10) text, length-slice_split (λ b. b == 10) text)
