use Rattle.std.proofs.Common.{◌≡◌, ◌++◌, List, ℤ, length, map, drop}
use Rattle.std.specs.Option.{option_map}
use Rattle.text_words.specs.Numbers.{numbers_of}
use Rattle.game_text.specs.Plain.{plain_word}
use Rattle.game_text.proofs.numbers.numbers.Given as goal

abbrev pub invariant-loop-word : goal.invariant-loop-word
invariant-loop-word l = record {
  said : option_map (λ (ns : List ℤ). l.numbers.items ++ ns) (numbers_of (map plain_word (map (λ word. word.now) (drop l.word-index l.words)))) ≡ numbers_of (map plain_word (map (λ word. word.now) l.words));
  count : length l.numbers.items ≡ l.word-index;
}
