use Rattle.std.proofs.Common.{sym, subst, ◌∙◌, arith}
use Rattle.std.proofs.lemmas.Bool.Decides.{nat_tests}
use Rattle.text_words.specs.Fault.{Gives}
use Rattle.game_text.proofs.PlainLines.{after_count, after_name, after_none, after_some}
use Rattle.game_text.proofs.forms.numbers_after.Goals as goal
use Rattle.game_text.proofs.forms.numbers_after.Goals.{in_default-via-then-words-lt1, in_default-via-in-len1-up+then-eq+else-rest-count, in_default-via-in-len1-up+else-eq}

pub returns-in-len1-up-clause-gives : goal.returns-in-len1-up-clause-gives
returns-in-len1-up-clause-gives c =
    subst (Gives (λ numbers. numbers.items) c.numbers.result) (sym (after_some c.args.words.now _ c.args.name.now c.args.count c.requires (omega arith) (sym c.eq.ensures ∙ c.if-eq.true) (omega arith))) c.numbers.ensures.gives

pub returns-in_default-clause-gives : goal.returns-in_default-clause-gives
returns-in_default-clause-gives c =
    elim c.in_default.branch [
      | in_default-via-then-words-lt1 w ↦ after_none c.args.words.now c.args.name.now c.args.count (grind (arith, nat_tests, w))
      | in_default-via-in-len1-up+then-eq+else-rest-count w ↦ after_count c.args.words.now c.args.name.now c.args.count (omega (arith, w.in-len1-up.len_at_least)) (λ e. grind (arith, nat_tests, e, w.if-rest-count.false))
      | in_default-via-in-len1-up+else-eq w ↦ after_name c.args.words.now _ c.args.name.now c.args.count (omega (arith, w.in-len1-up.len_at_least)) (sym w.eq.ensures ∙ w.if-eq.false)
    ]
