use Rattle.std.proofs.Common.{◌≡◌, ◌+◌, length, take}
use Rattle.text_words.specs.Lines.{words_behind}
use Rattle.text_words.proofs.Numbered.{after, left}
use Rattle.text_words.specs.Numbers.{numbers_of}
use Rattle.text_words.proofs.forms.fill.Given as goal

abbrev pub invariant-loop-rest : goal.invariant-loop-rest
invariant-loop-rest g l = record {
  said : after (take l.i l.numbers) (words_behind l.rest) ≡ numbers_of (words_behind l.behind);
  count : l.i + length (words_behind l.rest) ≡ length l.numbers;
  room : length l.numbers ≡ length l.fn.numbers;
}

abbrev pub decreases-loop-rest : goal.decreases-loop-rest
decreases-loop-rest g l = left l.rest
