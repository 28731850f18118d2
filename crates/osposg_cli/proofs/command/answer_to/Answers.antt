use Rattle.std.proofs.Common.{ℕ, List, subst, sym, ◌∙◌}
use Rattle.std.proofs.lemmas.Result.{IfOk-weaker}
use Rattle.osposg_cli.specs.Answer.{IsWork}
use Rattle.osposg_cli.proofs.Due.{due_refused, due_unread, due_work, kept}
use Rattle.osposg_cli.proofs.command.answer_to.Goals as goal

pub returns-in-Ok-None-clause-due : goal.returns-in-Ok-None-clause-due
returns-in-Ok-None-clause-due g c =
    kept c.words_refused.result c.map_err.result _ _ c.map_err.ensures.cases
    (IfOk-weaker c.words_refused.result _ _ (λ answer h.
    due_refused _ _ _ _ (sym c.in-Ok-None.ensures.command ∙ c.in-Ok-None.field-0-is) h.0 h.1) c.words_refused.ensures)

pub returns-in-Ok-clause-due : goal.returns-in-Ok-clause-due
returns-in-Ok-clause-due g c =
    kept c.work-in-Ok.result c.map_err-in-Ok.result _ _ c.map_err-in-Ok.ensures.cases
    (IfOk-weaker c.work-in-Ok.result _ _ (λ answer h.
    due_work c.law_answers.ensures.work _ _ _ _ c.in-Ok.bytes.items answer.status answer.text.items
    (sym c.in-Ok-Some.ensures.command ∙ c.in-Ok-Some.field-0-is) c.in-Ok.ensures.whole c.in-Ok.ensures.within
    (subst (λ (input : List ℕ). IsWork c.in-Ok-Some.command input answer.status answer.text.items) c.deref.ensures.value h)) c.work-in-Ok.ensures)

pub returns-then-not-reads_input-clause-due : goal.returns-then-not-reads_input-clause-due
returns-then-not-reads_input-clause-due g c =
    kept c.work.result c.map_err-then-not-reads_input.result _ _ c.map_err-then-not-reads_input.ensures.cases
    (IfOk-weaker c.work.result _ _ (λ answer h.
    due_unread c.law_answers.ensures.work _ _ _ _ answer.status answer.text.items
    (sym c.in-Ok-Some.ensures.command ∙ c.in-Ok-Some.field-0-is) (sym c.reads_input.ensures ∙ c.if-not-reads_input.true) h) c.work.ensures)
