use Rattle.std.proofs.Common.{pos, refl, sym, ◌∙◌, rules, tests}
use Rattle.std.proofs.lemmas.Iterator.{YieldsList-from_slice}
use Rattle.std.proofs.lemmas.Iterator.Search.{all_from_yields_List}
use Rattle.text_words.specs.Forms.{is_within}
use Rattle.cert_text.specs.Forms.{none_lacks}
use Rattle.cert_text.proofs.guards.none_lacks.Goals as goal

pub returns-then-not-all : goal.returns-then-not-all
unfolding none_lacks
returns-then-not-all c =
    let at = all_from_yields_List (is_within (pos 0) (pos 0)) _ _ c.all.result c.all.ensures.ran (YieldsList-from_slice c.args.lacking.now cc) (λ x b q k. search (rules, tests)) in
    rw (sym at ∙ c.if-not-all.true) refl

pub returns : goal.returns
unfolding none_lacks
returns c =
    let at = all_from_yields_List (is_within (pos 0) (pos 0)) _ _ c.all.result c.all.ensures.ran (YieldsList-from_slice c.args.lacking.now cc) (λ x b q k. search (rules, tests)) in
    rw (sym at ∙ c.if-not-all.false) refl
