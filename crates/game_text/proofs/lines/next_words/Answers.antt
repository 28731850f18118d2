use Rattle.std.proofs.Common.{◌≡◌, ◌+◌, ◌<◌, ℕ, List, [], ◌∷◌, length, refl, sym, ap, ◌∙◌, arith}
use Rattle.std.proofs.lemmas.Bool.Decides.{nat_tests}
use Rattle.std.proofs.Common.{Bor}
use Rattle.text_words.specs.Lines.{Line, line_in}
use Rattle.game_text.specs.Plain.{pieces_of, plain_line, words_of, worded_in, Worded}
use Rattle.game_text.proofs.Parted.{worded_in-none, worded_in-skip, worded_in-some}
use Rattle.game_text.proofs.Parted.{no_words}
use Rattle.game_text.proofs.lines.next_words.Goals as goal

some_words : (words : List (Bor (List ℕ))) (line : Line) → line_in words ≡ line → 0 < length words → 0 < length line
some_words [] line e some = absurd (omega arith)
some_words (word ∷ words) line e some = omega (arith, ap length e)

with_words : ℕ → List ℕ → List Worded → Line → List Worded
with_words number after lines words = record { number = number; words = plain_line words; after = after } ∷ lines

pub returns-then-not-is_empty-clause-line : goal.returns-then-not-is_empty-clause-line
unfolding with_words
returns-then-not-is_empty-clause-line c =
    let words : line_in c.in_ok-words.words.items ≡ words_of c.in-Some.line.now = c.in_ok-words.ensures in
    let some : 0 < length (words_of c.in-Some.line.now) = some_words c.in_ok-words.words.items (words_of c.in-Some.line.now) words (grind (arith, nat_tests, c.is_empty.ensures, c.if-not-is_empty.true)) in
    sym c.loop-line.invariant.same
    ∙ worded_in-some c.loop-line.number c.loop-line.rest.now c.in-Some.line.now c.in-Some.after.now c.in-Some.ensures.pieces some
    ∙ ap (with_words (c.loop-line.number + 1) c.in-Some.after.now (worded_in (c.loop-line.number + 1) c.in-Some.after.now)) (sym words)

pub loop-line-preserved : goal.loop-line-preserved
loop-line-preserved c =
    let words : line_in c.in_ok-words.words.items ≡ words_of c.in-Some.line.now = c.in_ok-words.ensures in
    let none : words_of c.in-Some.line.now ≡ [] = no_words c.in_ok-words.words.items (words_of c.in-Some.line.now) words (grind (arith, nat_tests, c.is_empty.ensures, c.if-not-is_empty.false)) in
    record {
      same = sym (worded_in-skip c.loop-line.number c.loop-line.rest.now c.in-Some.line.now c.in-Some.after.now c.in-Some.ensures.pieces none) ∙ c.loop-line.invariant.same;
      counted = omega (arith, ap length c.in-Some.ensures.pieces, c.loop-line.invariant.counted);
      shorter = omega (arith, c.in-Some.ensures.shorter, c.loop-line.invariant.shorter);
      later = omega (arith, c.loop-line.invariant.later);
    }

pub returns-clause-missing : goal.returns-clause-missing
returns-clause-missing c =
    let last : pieces_of c.loop-line.rest.now ≡ c.loop-line.rest.now ∷ [] = c.in_default.ensures.pieces in (
      sym c.loop-line.invariant.same ∙ worded_in-none c.loop-line.number c.loop-line.rest.now last,
      omega (arith, ap length last, c.loop-line.invariant.counted),
      refl,
    )
