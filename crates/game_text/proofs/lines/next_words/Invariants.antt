use Rattle.std.proofs.Common.{◌≡◌, ◌+◌, ◌≤◌, length}
use Rattle.game_text.specs.Plain.{pieces_of, worded_in}
use Rattle.game_text.proofs.lines.next_words.Given as goal

abbrev pub invariant-loop-line : goal.invariant-loop-line
invariant-loop-line l = record {
  same : worded_in l.number l.rest ≡ worded_in l.fn.before l.fn.text;
  counted : l.number + length (pieces_of l.rest) ≡ l.fn.before + length (pieces_of l.fn.text);
  shorter : l.number + length l.rest ≤ l.fn.before + length l.fn.text;
  later : l.fn.before ≤ l.number;
}

abbrev pub decreases-loop-line : goal.decreases-loop-line
decreases-loop-line l = length l.rest
