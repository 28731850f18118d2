use Rattle.std.proofs.Common.{◌≡◌, ℕ, List, eqb, false, ◌<◌, length, get_or, take, Some, sym, ap, ◌∙◌, subst, arith}
use Rattle.std.specs.Str.Parse.{AllDigits, digits_value}
use Rattle.std.proofs.lemmas.Bool.Decides.{nat_tests}
use Rattle.std.proofs.lemmas.List.{length-take-le, take_all}
use Rattle.std.proofs.lemmas.Int.Digits.{digits_more, digits_value_more}
use Rattle.std.proofs.lemmas.Str.{digit_value_digit}
use Rattle.text_words.proofs.Digits.{digits_value-below}
use Rattle.osposg_cli.proofs.DigitValues.{digits_of-digits, digits_of-empty, digits_of-long, digits_of-other}
use Rattle.osposg_cli.proofs.words.digits.Goals as goal
use Rattle.osposg_cli.proofs.words.digits.Goals.{then-is_empty-via-then-is_empty, then-is_empty-via-else-is_empty+then-text-gt-MOST_DIGITS}

length_pos : (text : List ℕ) → eqb (length text) 0 ≡ false → 0 < length text
length_pos text e = grind (arith, nat_tests)

pub returns-then-is_empty : goal.returns-then-is_empty
returns-then-is_empty c =
    elim c.then-is_empty.branch [
      | then-is_empty-via-then-is_empty w ↦ sym (digits_of-empty c.args.text.now (sym c.is_empty.ensures ∙ w.if-is_empty.true))
      | then-is_empty-via-else-is_empty+then-text-gt-MOST_DIGITS w ↦ sym (digits_of-long c.args.text.now (omega arith))
    ]

pub returns-then-not-is_ascii_digit : goal.returns-then-not-is_ascii_digit
returns-then-not-is_ascii_digit c =
    sym (digits_of-other c.args.text.now c.loop-digit.digit-index (omega arith) (sym c.if-not-is_ascii_digit.ensures.value))

pub overflow_mul-value : goal.overflow_mul-value
overflow_mul-value c =
    let i = c.loop-digit.digit-index in
    let front = take i c.args.text.now in
    omega (arith, digits_value-below front 29 (omega (arith, length-take-le i c.args.text.now (omega arith))) c.loop-digit.invariant.digits)

pub overflow_add-value : goal.overflow_add-value
overflow_add-value c =
    let i = c.loop-digit.digit-index in
    let front = take i c.args.text.now in
    omega (arith, digits_value-below front 29 (omega (arith, length-take-le i c.args.text.now (omega arith))) c.loop-digit.invariant.digits)

pub loop-digit-preserved : goal.loop-digit-preserved
loop-digit-preserved c =
    let i = c.loop-digit.digit-index in
    let text = c.args.text.now in
    let value = digit_value_digit (get_or text i 0) c.if-not-is_ascii_digit.ensures.cases in
    record {
      digits = digits_more 10 text i (omega arith) c.loop-digit.invariant.digits c.if-not-is_ascii_digit.ensures.bound;
      value = omega (arith, digits_value_more 10 text i (omega arith));
    }

pub returns : goal.returns
returns c =
    let text = c.args.text.now in
    let whole : take c.loop-digit.digit-index text ≡ text = take_all c.loop-digit.digit-index text (omega arith) in
    let all : AllDigits 10 text = subst (AllDigits 10) whole c.loop-digit.invariant.digits in
    ap Some (c.loop-digit.invariant.value ∙ ap (digits_value 10) whole) ∙ sym (digits_of-digits text (length_pos text (sym c.is_empty.ensures ∙ c.if-is_empty.false)) (omega arith) all)
