-- The canonical text of a game is a text of it.
use Rattle.std.proofs.Common.{◌≡◌, ℕ, ◌+◌, ℤ, List, [], ◌∷◌, ◌++◌, reverse, length, map, ◌∙◌, ap, sym, subst, pos, arith, append-nil, refl}
use Rattle.std.specs.Prelude.{◌*ℤ◌, if◌then◌else◌}
use Rattle.std.specs.List.{AllByRecursion}
use Rattle.std.proofs.lemmas.Int.{ints}
use Rattle.text_words.specs.Lines.{Line}
use Rattle.text_words.specs.Lines.{lines_of as plain_lines}
use Rattle.text_words.proofs.Texts.{each_reverse}
use Rattle.text_words.proofs.Whole.{lines_text}
use Rattle.game_model.specs.Game.{GameData, IsBelief, IsGame}
use Rattle.game_text.specs.Laws.{CanonicalTexts}
use Rattle.game_text.specs.Entries.{Entry, Version, Size, Total, Discount, First, Step, Out, End}
use Rattle.game_text.specs.Plain.{IsWordless, after_lines, completed, ends_open, is_end, last_piece, lines_of, words_at, words_in as words_between, worded_in}
use Rattle.game_text.specs.Text.{IsTextOf, Spells, canonical_text, scaled, text_of}
use Rattle.game_text.proofs.Accept.{entries_of, may_small, plain_back}
use Rattle.game_text.proofs.Bytes.{back_text, lines_back, whole_bytes}
use Rattle.game_text.proofs.Runs.{Run}
use Rattle.game_text.proofs.Said.{name_in, numbers_in, words_in}
use Rattle.game_text.proofs.Spells.{end_run, game_again, map_reverse, rewards_back, rows_back, whole_back}
use Rattle.game_text.proofs.Written.{IsPlainLine, IsPlainWord, after_lines-again, line_again, lines_again, none_behind, numbers_plain}

-- once the first belief is the first belief
once : (weights : List ℤ) → scaled 1 weights ≡ weights
once [] = refl
once (b ∷ weights) = let e : pos 1 *ℤ b ≡ b = omega (arith, ints) in ap (λ (x : ℤ). x ∷ scaled 1 weights) e ∙ ap (λ l. b ∷ l) (once weights)

name_plain : (e : Entry) → IsPlainWord (name_in e)
name_plain Version = (omega arith, (omega arith, (omega arith, (omega arith, (omega arith, (omega arith, (omega arith, tt)))))))
name_plain (Size s a c o) = (omega arith, (omega arith, (omega arith, (omega arith, (omega arith, tt)))))
name_plain (Total t) = (omega arith, (omega arith, (omega arith, (omega arith, (omega arith, (omega arith, tt))))))
name_plain (Discount p q) = (omega arith, (omega arith, (omega arith, (omega arith, (omega arith, (omega arith, (omega arith, (omega arith, (omega arith, tt)))))))))
name_plain (First w) = (omega arith, (omega arith, (omega arith, (omega arith, (omega arith, (omega arith, tt))))))
name_plain (Step s a c r) = (omega arith, (omega arith, (omega arith, (omega arith, (omega arith, tt)))))
name_plain (Out l) = (omega arith, (omega arith, (omega arith, (omega arith, tt))))
name_plain End = (omega arith, (omega arith, (omega arith, (omega arith, tt))))

lines_plain : (entries : List Entry) → Run entries → AllByRecursion IsPlainLine (map words_in entries)
lines_plain [] run = tt
lines_plain (e ∷ entries) run =
    let small = may_small entries e run.1 run.0 in
    (((name_plain e, numbers_plain (numbers_in e) small), line_again (name_in e) (numbers_in e) small), lines_plain entries run.1)

-- the lines of the canonical text

record Printed (g : GameData) : Type 0 where
  lines : List Line
  plain : AllByRecursion IsPlainLine lines
  bytes : lines_text lines ≡ canonical_text g
  same : plain_lines (canonical_text g) ≡ lines

printed : (g : GameData) → IsGame g → Printed g
printed g game =
    let whole = whole_back g game in
    let entries = End ∷ entries_of g g.first in
    let run : Run entries = end_run g.shape g.first (rewards_back g) (rows_back g) game.shape game.first whole in
    let back : back_text entries ≡ canonical_text g =
    whole_bytes g.shape g.first g.first (rewards_back g) (rows_back g) whole.good whole.count ∙ ap (λ (x : GameData). text_of x g.first) (game_again g) in
    record {
      lines = reverse (map words_in entries);
      plain = each_reverse IsPlainLine (map words_in entries) (lines_plain entries run);
      bytes = ap lines_text (sym (map_reverse words_in entries)) ∙ lines_back entries ∙ back;
      same = ap plain_lines (sym back) ∙ plain_back entries run;
    }

spells_itself : (plain : List ℕ) (lines : List Line) (rest : List ℕ) → AllByRecursion IsPlainLine lines → lines_text lines ≡ plain → plain_lines plain ≡ lines → Spells plain (plain ++ rest) rest
spells_itself plain lines rest each bytes same = record {
  after = map words_at (worded_in (0 + length lines) rest);
  lines = ap (λ (t : List ℕ). lines_of (t ++ rest)) (sym bytes) ∙ lines_again 0 lines rest each ∙ ap (λ (ls : List Line). ls ++ map words_at (worded_in (0 + length lines) rest)) (sym same);
  ends = ap (λ (ls : List Line). after_lines (length ls) (plain ++ rest)) same ∙ ap (λ (t : List ℕ). after_lines (length lines) (t ++ rest)) (sym bytes) ∙ after_lines-again lines rest each;
}

front_text : (g : GameData) → IsGame g → (rest : List ℕ) → IsTextOf g (canonical_text g ++ rest) rest
front_text g game rest =
    let p = printed g game in
    let one = once g.first in
    record {
      game = game;
      times = 1;
      some = omega arith;
      first = subst (IsBelief g.shape.states) (sym one) game.first;
      same = subst (λ (first : List ℤ). Spells (text_of g first) (canonical_text g ++ rest) rest) (sym one) (spells_itself (canonical_text g) p.lines rest p.plain p.bytes p.same);
    }

-- nothing stands behind it

no_words : words_between [] ≡ []
unfolding words_between
no_words = refl

nothing : IsWordless []
unfolding worded_in
nothing = (refl, no_words)

not_open : (text : List ℕ) → last_piece text ≡ [] → completed text ≡ text
unfolding completed ends_open
not_open text e = ap (λ (piece : List ℕ). if is_end (words_between piece) then text ++ 10 ∷ [] else text) e ∙ ap (λ (ws : Line). if is_end ws then text ++ 10 ∷ [] else text) no_words

pub canonical-texts : CanonicalTexts
canonical-texts g game =
    let p = printed g game in
    let last = ap last_piece (sym p.bytes) ∙ none_behind p.lines p.plain in
    let front = subst (λ (t : List ℕ). IsTextOf g t []) (append-nil (canonical_text g) ∙ sym (not_open (canonical_text g) last)) (front_text g game []) in
    record { front = front_text g game; whole = ([], front, nothing) }
