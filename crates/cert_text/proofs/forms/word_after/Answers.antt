use Rattle.std.proofs.Common.{◌≡◌, ◌∷◌, Some, sym, ap, ◌∙◌}
use Rattle.text_words.specs.Lines.{words_behind, words_of}
use Rattle.cert_text.specs.Forms.{word_after}
use Rattle.cert_text.proofs.LongLines.{three-word_after}
use Rattle.cert_text.proofs.forms.word_after.Goals as goal

pub returns-in_default-Some-first_word : goal.returns-in_default-Some-first_word
returns-in_default-Some-first_word c =
    let first = c.first_word.result.0.now in
    let second = c.first_word-in_default-Some.result.0.now in
    let more = c.in_default-Some-first_word.field-0-1 in
    let behind : words_of c.in_default-Some.rest.now ≡ second ∷ words_behind (Some more) = c.first_word-in_default-Some.ensures.words ∙ ap (λ r. second ∷ words_behind r) c.in_default-Some-first_word.is-1 in
    let whole : words_of c.args.line.now ≡ first ∷ second ∷ words_behind (Some more) = c.first_word.ensures.words ∙ ap (λ r. first ∷ words_behind r) c.in_default-Some.is-1 ∙ ap (λ ws. first ∷ ws) behind in
    sym (ap (word_after c.args.name.now) whole ∙ three-word_after c.args.name.now first second more)
