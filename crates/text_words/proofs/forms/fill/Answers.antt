use Rattle.std.proofs.Common.{◌≡◌, [], ◌∷◌, List, Option, ℤ, sym, ap, ◌∙◌, length, take, take_all, arith, rules}
use Rattle.std.specs.Option.{ok_or}
use mir.Syntax.{w128}
use mir.Val.{SFits, of_z, to_z}
use Rattle.std.proofs.lemmas.Int.{to_z-of_z}
use Rattle.std.proofs.lemmas.List.{take_more_set, length-set}
use Rattle.text_words.specs.Forms.{numbers_said}
use Rattle.text_words.specs.Lines.{words_behind}
use Rattle.text_words.proofs.Numbered.{after, after-some, after-none, after-nil}
use Rattle.text_words.proofs.forms.fill.Goals as goal

pub returns-in_default-number-clause-said : goal.returns-in_default-number-clause-said
unfolding numbers_said
returns-in_default-number-clause-said g c =
    let none = sym c.number.ensures ∙ c.in_default-number.is in
    let here : words_behind c.loop-rest.rest ≡ c.first_word.result.0.now ∷ words_behind c.first_word.result.1 = rw c.in-Some.is c.first_word.ensures.words in
    let front = take c.loop-rest.i c.loop-rest.numbers in
    ap (λ (o : Option (List ℤ)). ok_or o c.args.other) (sym c.loop-rest.invariant.said ∙ ap (after front) here ∙ after-none front _ _ none)

pub loop-rest-preserved : goal.loop-rest-preserved
loop-rest-preserved g c =
    let some = sym c.number.ensures ∙ c.in-Some-number.is in
    let here : words_behind c.loop-rest.rest ≡ c.first_word.result.0.now ∷ words_behind c.first_word.result.1 = rw c.in-Some.is c.first_word.ensures.words in
    let i = c.loop-rest.i in
    let n = c.in-Some-number.number in
    let front = take i c.loop-rest.numbers in
    let fits : SFits w128 n = search rules in
    record {
      said = rw (to_z-of_z w128 n fits, take_more_set c.loop-rest.numbers i n (omega (arith, ap length here, c.loop-rest.invariant.count)))
          (sym (after-some front _ (words_behind c.first_word.result.1) n some) ∙ sym (ap (after front) here) ∙ c.loop-rest.invariant.said);
      count = rw (length-set c.loop-rest.numbers i (to_z w128 (of_z w128 n))) (omega (arith, ap length here, c.loop-rest.invariant.count));
      room = rw (length-set c.loop-rest.numbers i (to_z w128 (of_z w128 n))) c.loop-rest.invariant.room;
    }

pub returns-clause-said : goal.returns-clause-said
unfolding numbers_said
returns-clause-said g c =
    let whole = take_all c.loop-rest.i c.loop-rest.numbers (omega (arith, c.loop-rest.invariant.count, ap (λ r. length (words_behind r)) c.in_default.is)) in
    ap (λ (o : Option (List ℤ)). ok_or o c.args.other) (sym c.loop-rest.invariant.said ∙ ap (λ r. after (take c.loop-rest.i c.loop-rest.numbers) (words_behind r)) c.in_default.is ∙ ap (λ l. after l []) whole ∙ after-nil c.loop-rest.numbers)
