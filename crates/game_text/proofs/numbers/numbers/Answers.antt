use Rattle.std.proofs.Common.{List, Option, ℤ, sym, ap, ◌∙◌, arith, rules}
use Rattle.std.specs.Option.{ok_or}
use mir.Syntax.{w128}
use mir.Val.{SFits}
use Rattle.std.proofs.lemmas.Int.{to_z-of_z}
use Rattle.text_words.specs.Forms.{numbers_said}
use Rattle.game_text.specs.declared.fault.Kind.TheVariants as kinds
use Rattle.game_text.proofs.NumberWords.{after_more, after_stops, after_all}
use Rattle.game_text.proofs.numbers.numbers.Goals as goal

pub returns-in_default-clause-gives : goal.returns-in_default-clause-gives
unfolding numbers_said
returns-in_default-clause-gives c =
    let none = sym c.number.ensures ∙ c.in_default.is in
    ap (λ (o : Option (List ℤ)). ok_or o kinds.Number) (sym c.loop-word.invariant.said ∙ after_stops c.loop-word.numbers.items c.args.words.now c.loop-word.word-index _ (omega arith) none)

pub loop-word-preserved : goal.loop-word-preserved
loop-word-preserved c =
    let some = sym c.number.ensures ∙ c.in-Some.is in
    let more = after_more c.loop-word.numbers.items c.args.words.now c.loop-word.word-index _ c.in-Some.number (omega arith) some in
    let fits : SFits w128 c.in-Some.number = search rules in
    record {
      said = rw (c.in_ok-push.ensures.items, to_z-of_z w128 c.in-Some.number fits) (more ∙ c.loop-word.invariant.said);
      count = search rules;
    }

pub returns-clause-gives : goal.returns-clause-gives
unfolding numbers_said
returns-clause-gives c =
    ap (λ (o : Option (List ℤ)). ok_or o kinds.Number) (sym c.loop-word.invariant.said ∙ after_all c.loop-word.numbers.items c.args.words.now c.loop-word.word-index (omega arith))
