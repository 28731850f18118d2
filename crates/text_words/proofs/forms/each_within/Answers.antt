use Rattle.std.proofs.Common.{refl, sym, ◌∙◌, rules, tests}
use Rattle.std.proofs.lemmas.Iterator.{YieldsList-from_slice}
use Rattle.std.proofs.lemmas.Iterator.Search.{all_from_yields_List}
use Rattle.text_words.specs.Forms.{is_within, each_within}
use Rattle.text_words.proofs.Limits.{each_small}
use Rattle.text_words.proofs.forms.each_within.Goals as goal

pub returns-then-not-all-clause-kind : goal.returns-then-not-all-clause-kind
unfolding each_within
returns-then-not-all-clause-kind g c =
    let at = all_from_yields_List (is_within c.args.low c.args.high) _ _ c.all.result c.all.ensures.ran (YieldsList-from_slice c.args.numbers.now cc) (λ x b q k. search (rules, tests)) in
    rw (sym at ∙ c.if-not-all.true) refl

pub returns-clause-kind : goal.returns-clause-kind
unfolding each_within
returns-clause-kind g c =
    let at = all_from_yields_List (is_within c.args.low c.args.high) _ _ c.all.result c.all.ensures.ran (YieldsList-from_slice c.args.numbers.now cc) (λ x b q k. search (rules, tests)) in
    rw (sym at ∙ c.if-not-all.false) refl

pub returns-clause-small : goal.returns-clause-small
returns-clause-small g c =
    let at = all_from_yields_List (is_within c.args.low c.args.high) _ _ c.all.result c.all.ensures.ran (YieldsList-from_slice c.args.numbers.now cc) (λ x b q k. search (rules, tests)) in
    each_small c.args.low c.args.high c.args.numbers.now (sym at ∙ c.if-not-all.false)
