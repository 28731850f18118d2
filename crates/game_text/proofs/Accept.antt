-- Accepted lines are texts of games, and texts of games are accepted.
use Rattle.std.proofs.Common.{◌≡◌, ℕ, ◌≤◌, List, [], ◌∷◌, ◌++◌, reverse, length, map, ℤ, pos, refl, sym, ap, subst, ◌∙◌, arith, append-nil, inl, inr, ◌+◌}
use Rattle.game_model.specs.Limits.{most_reward, most_row_total}
use Rattle.std.specs.Prelude.{neg_ℤ}
use Rattle.std.specs.List.{AllByRecursion}
use Rattle.std.proofs.lemmas.List.{length-reverse}
use Rattle.text_words.specs.Lines.{Line}
use Rattle.text_words.specs.Lines.{lines_of as plain_lines}
use Rattle.game_text.specs.Plain.{IsWordless, after_lines, completed, lines_of, number_in}
use Rattle.text_words.proofs.Numerals.{Small, small_within, numbers_written}
use Rattle.text_words.proofs.Whole.{IsWord, IsWritten, lines_text, lines_of-lines}
use Rattle.game_model.specs.declared.parts.Shape.{Shape}
use Rattle.game_model.specs.declared.parts.Landing.{Landing}
use Rattle.game_model.specs.Game.{GameData, IsGame, IsBelief}
use Rattle.game_text.specs.declared.fault.Kind.{Kind}
use Rattle.game_text.specs.Text.{IsTextOf, IsWholeTextOf, Spells, scaled, text_of}
use Rattle.game_text.specs.Entries.{Entry, Version, Size, Total, Discount, First, Step, Out, End, shape_in}
use Rattle.game_text.specs.Steps.{GoesPast, Reads, ReadsAll, Stops, StopsWhole}
use Rattle.game_text.specs.Built.{rewards_in, onto_last, rows_in}
use Rattle.game_text.proofs.Said.{words_in, name_in, numbers_in, small_discount, small_weights, small_weight}
use Rattle.game_text.specs.Forms.{state_at, own_at, informed_at}
use Rattle.game_text.proofs.Runs.{May, Run, outs, step_of, spelled, Good, say_run, run_say, shape_limits, open_before, open_row, shape_spelled}
use Rattle.game_text.proofs.Spells.{Finished, finished, end_run, game_from, game_is, whole_back, game_again, rewards_back, rows_back, map_reverse}
use Rattle.game_text.proofs.Bytes.{back_text, whole_bytes, lines_back}
use Rattle.game_text.proofs.Coprime.{Parts, parts, scaled_once}
use Rattle.game_text.proofs.OneReading.{accepted_once, not_both, refused_once}
use Rattle.text_words.proofs.Texts.{each_reverse}

-- the words of entries

pub may_small : (before : List Entry) (e : Entry) → Run before → May before e → AllByRecursion Small (numbers_in e)
may_small before Version run may = (omega arith, tt)
may_small before (Size s a c o) run may =
    let f = may.2 in (omega (arith, f.states), (omega (arith, f.own_actions), (omega (arith, f.informed_actions), (omega (arith, f.observations), tt))))
may_small before (Total t) run may = (small_within (pos 1) (pos most_row_total) t (omega arith) (omega arith) may.6, tt)
may_small before (Discount p q) run may = let s = small_discount p q may.3 in (s.0, (s.1, tt))
may_small before (First w) run may = small_weights w may.4.each
may_small before (Step s a c r) run may =
    let limits = shape_limits before run (open_before before may.0) in
    let f = may.1 in
    (omega (arith, f.state, limits.states), (omega (arith, f.own, limits.own_actions), (omega (arith, f.informed, limits.informed_actions), (small_within (neg_ℤ (pos most_reward)) (pos most_reward) r (omega arith) (omega arith) f.range, tt))))
may_small before (Out l) run may =
    let limits = shape_limits before run (open_row before may.0) in
    let f = may.1 in
    (omega (arith, f.seen, limits.observations), (omega (arith, f.to, limits.states), (small_weight (shape_in before) l.weight limits f.weight, tt)))
may_small before End run may = tt

name_written : (e : Entry) → IsWord (name_in e)
name_written Version = (omega arith, (omega arith, (omega arith, (omega arith, (omega arith, (omega arith, tt))))))
name_written (Size s a c o) = (omega arith, (omega arith, (omega arith, (omega arith, tt))))
name_written (Total t) = (omega arith, (omega arith, (omega arith, (omega arith, (omega arith, tt)))))
name_written (Discount p q) = (omega arith, (omega arith, (omega arith, (omega arith, (omega arith, (omega arith, (omega arith, (omega arith, tt))))))))
name_written (First w) = (omega arith, (omega arith, (omega arith, (omega arith, (omega arith, tt)))))
name_written (Step s a c r) = (omega arith, (omega arith, (omega arith, (omega arith, tt))))
name_written (Out l) = (omega arith, (omega arith, (omega arith, tt)))
name_written End = (omega arith, (omega arith, (omega arith, tt)))

words_written : (entries : List Entry) → Run entries → AllByRecursion IsWritten (map words_in entries)
words_written [] run = tt
words_written (e ∷ entries) run = ((name_written e, numbers_written (numbers_in e) (may_small entries e run.1 run.0)), words_written entries run.1)

-- from lines to a game

-- the lines of the bytes that entries spell
no_lines : plain_lines [] ≡ []
unfolding plain_lines
no_lines = refl

pub plain_back : (entries : List Entry) → Run entries → plain_lines (back_text entries) ≡ reverse (map words_in entries)
plain_back entries run =
    let lines = reverse (map words_in entries) in
    let written : AllByRecursion IsWritten lines = each_reverse IsWritten (map words_in entries) (words_written entries run) in
    let bytes : lines_text lines ≡ back_text entries = ap lines_text (sym (map_reverse words_in entries)) ∙ lines_back entries in
    ap plain_lines (sym bytes ∙ sym (append-nil (lines_text lines))) ∙ lines_of-lines lines [] written ∙ ap (λ (l : List Line). lines ++ l) no_lines ∙ append-nil lines

pub back_length : (entries : List Entry) → Run entries → length (plain_lines (back_text entries)) ≡ length (map words_in entries)
back_length entries run = ap length (plain_back entries run) ∙ length-reverse (map words_in entries)

pub spells_from : (text : List ℕ) (count : ℕ) (entries : List Entry) (rest : List Line) → Reads (lines_of text) count entries rest → Spells (back_text entries) text (after_lines count text)
spells_from text count entries rest reads =
    let p = say_run reads.0 entries reads.3 in
    record {
      after = rest;
      lines = reads.1 ∙ ap (λ (ls : List Line). reverse ls ++ rest) p.0 ∙ ap (λ (ls : List Line). ls ++ rest) (sym (plain_back entries p.1));
      ends = ap (λ (n : ℕ). after_lines n text) (back_length entries p.1 ∙ ap length (sym p.0) ∙ reads.2);
    }

-- the game of a finished chain, with these coprime weights
pub finished_text : (entries : List Entry) (f : Finished entries) (p : Parts f.front.shape.states f.front.first) (text rest : List ℕ) → Spells (back_text (End ∷ entries)) text rest
    → IsTextOf (game_from f.front.shape p.kept f.front.rs f.front.rows) text rest
finished_text entries f p text rest spells =
    let shape = f.front.shape in
    let g = game_from shape p.kept f.front.rs f.front.rows in
    let same : back_text (End ∷ entries) ≡ text_of g (scaled p.times p.kept) =
    ap (λ (es : List Entry). back_text (End ∷ es)) f.front.same
    ∙ whole_bytes shape p.kept f.front.first f.front.rs f.front.rows f.front.good f.whole.count
    ∙ ap (text_of g) (sym p.same) in
    record {
      game = game_is shape p.kept f.front.rs f.front.rows f.front.limits p.belief p.coprime f.whole;
      times = p.times;
      some = p.some;
      first = subst (IsBelief shape.states) (sym p.same) f.front.belief;
      same = subst (λ (plain : List ℕ). Spells plain text rest) same spells;
    }

pub lines_are_texts : (text : List ℕ) (count : ℕ) (entries : List Entry) (rest : List Line) → ReadsAll (lines_of text) count entries rest → (g : GameData) × IsTextOf g text (after_lines count text)
lines_are_texts text count entries rest reads =
    let run = (say_run reads.0 (End ∷ entries) reads.3).1 in
    let f = finished entries run in
    let p = parts f.front.shape.states f.front.first f.front.belief in
    (game_from f.front.shape p.kept f.front.rs f.front.rows, finished_text entries f p text (after_lines count text) (spells_from text count (End ∷ entries) rest reads))

-- from a game to lines

-- what a text of a game says
abbrev pub entries_of : GameData → List ℤ → List Entry
entries_of g first = spelled g.shape first (rewards_back g) (rows_back g)

pub record ReadAs (g : GameData) (text rest : List ℕ) (t : IsTextOf g text rest) : Type 0 where
  pub count : ℕ
  pub after : List Line
  pub reads : ReadsAll (lines_of text) count (entries_of g (scaled t.times g.first)) after
  pub ends : after_lines count text ≡ rest

pub text_reads : (g : GameData) (text rest : List ℕ) (t : IsTextOf g text rest) → ReadAs g text rest t
text_reads g text rest t =
    let first = scaled t.times g.first in
    let whole = whole_back g t.game in
    let entries = entries_of g first in
    let run = end_run g.shape first (rewards_back g) (rows_back g) t.game.shape t.first whole in
    let bytes : back_text (End ∷ entries) ≡ text_of g first =
    whole_bytes g.shape g.first first (rewards_back g) (rows_back g) whole.good whole.count ∙ ap (λ (x : GameData). text_of x first) (game_again g) in
    let spells : Spells (back_text (End ∷ entries)) text rest = subst (λ (plain : List ℕ). Spells plain text rest) (sym bytes) t.same in
    record {
      count = length (map words_in (End ∷ entries));
      after = spells.after;
      reads = (map words_in (End ∷ entries), spells.lines ∙ ap (λ (ls : List Line). ls ++ spells.after) (plain_back (End ∷ entries) run), refl, run_say (End ∷ entries) run);
      ends = ap (λ (n : ℕ). after_lines n text) (sym (back_length (End ∷ entries) run)) ∙ spells.ends;
    }

-- a text is of one game

abbrev pub weights_in : List Entry → List ℤ
weights_in [] = []
weights_in (First w ∷ b) = w
weights_in (e ∷ b) = weights_in b

weights_outs : (row : List Landing) (b : List Entry) → weights_in (outs row b) ≡ weights_in b
weights_outs [] b = refl
weights_outs (l ∷ row) b = weights_outs row b

pub weights_spelled : (shape : Shape) (first rs : List ℤ) (rows : List (List Landing)) → weights_in (spelled shape first rs rows) ≡ first
weights_spelled shape first [] [] = refl
weights_spelled shape first [] (row ∷ rows) = refl
weights_spelled shape first (r ∷ rs) [] = refl
weights_spelled shape first (r ∷ rs) (row ∷ rows) = weights_outs row (step_of shape (length rs) r ∷ spelled shape first rs rows) ∙ weights_spelled shape first rs rows

rewards_outs : (row : List Landing) (b : List Entry) → rewards_in (outs row b) ≡ rewards_in b
rewards_outs [] b = refl
rewards_outs (l ∷ row) b = rewards_outs row b

pub rewards_spelled : (shape : Shape) (first rs : List ℤ) (rows : List (List Landing)) → Good shape rs rows → rewards_in (spelled shape first rs rows) ≡ rs
rewards_spelled shape first [] [] good = refl
rewards_spelled shape first [] (row ∷ rows) good = absurd good
rewards_spelled shape first (r ∷ rs) [] good = absurd good
rewards_spelled shape first (r ∷ rs) (row ∷ rows) good =
    rewards_outs row (step_of shape (length rs) r ∷ spelled shape first rs rows) ∙ ap (λ (x : List ℤ). r ∷ x) (rewards_spelled shape first rs rows good.4)

rows_outs : (row : List Landing) (s a c : ℕ) (r : ℤ) (b : List Entry) → rows_in (outs row (Step s a c r ∷ b)) ≡ row ∷ rows_in b
rows_outs [] s a c r b = refl
rows_outs (l ∷ row) s a c r b = ap (onto_last l) (rows_outs row s a c r b)

pub rows_spelled : (shape : Shape) (first rs : List ℤ) (rows : List (List Landing)) → Good shape rs rows → rows_in (spelled shape first rs rows) ≡ rows
rows_spelled shape first [] [] good = refl
rows_spelled shape first [] (row ∷ rows) good = absurd good
rows_spelled shape first (r ∷ rs) [] good = absurd good
rows_spelled shape first (r ∷ rs) (row ∷ rows) good =
    rows_outs row (state_at shape (length rs)) (own_at shape (length rs)) (informed_at shape (length rs)) r (spelled shape first rs rows) ∙ ap (λ (x : List (List Landing)). row ∷ x) (rows_spelled shape first rs rows good.4)

same_game : (g h : GameData) → g.shape ≡ h.shape → g.first ≡ h.first → rewards_back g ≡ rewards_back h → rows_back g ≡ rows_back h → g ≡ h
same_game g h shape first rewards rows =
    sym (game_again g)
    ∙ ap (λ (x : Shape). game_from x g.first (rewards_back g) (rows_back g)) shape
    ∙ ap (λ (x : List ℤ). game_from h.shape x (rewards_back g) (rows_back g)) first
    ∙ ap (λ (x : List ℤ). game_from h.shape h.first x (rows_back g)) rewards
    ∙ ap (λ (x : List (List Landing)). game_from h.shape h.first (rewards_back h) x) rows
    ∙ game_again h

tail_same : (e f : Entry) (a b : List Entry) → e ∷ a ≡ f ∷ b → a ≡ b
tail_same e f a b h = cc

game_from_entries : (g h : GameData) (v w : List ℤ) (k m : ℕ) → IsGame g → IsGame h → 1 ≤ k → v ≡ scaled k g.first → w ≡ scaled m h.first → entries_of g v ≡ entries_of h w → g ≡ h
game_from_entries g h v w k m ga ha some e f same =
    let gw = whole_back g ga in
    let hw = whole_back h ha in
    let shape = sym (shape_spelled g.shape v (rewards_back g) (rows_back g)) ∙ ap shape_in same ∙ shape_spelled h.shape w (rewards_back h) (rows_back h) in
    let weights = sym (weights_spelled g.shape v (rewards_back g) (rows_back g)) ∙ ap weights_in same ∙ weights_spelled h.shape w (rewards_back h) (rows_back h) in
    let rewards = sym (rewards_spelled g.shape v (rewards_back g) (rows_back g) gw.good) ∙ ap rewards_in same ∙ rewards_spelled h.shape w (rewards_back h) (rows_back h) hw.good in
    let rows = sym (rows_spelled g.shape v (rewards_back g) (rows_back g) gw.good) ∙ ap rows_in same ∙ rows_spelled h.shape w (rewards_back h) (rows_back h) hw.good in
    same_game g h shape (scaled_once k m g.first h.first some (sym e ∙ weights ∙ f) ga.coprime ha.coprime) rewards rows

pub texts_are_games : (text rest : List ℕ) (g h : GameData) (other : List ℕ) → IsTextOf g text rest → IsTextOf h text other → (g ≡ h) × (rest ≡ other)
texts_are_games text rest g h other t u =
    let a = text_reads g text rest t in
    let b = text_reads h text other u in
    let v = scaled t.times g.first in
    let w = scaled u.times h.first in
    let same = accepted_once (lines_of text) a.count b.count (entries_of g v) (entries_of h w) a.after b.after a.reads b.reads in (
      game_from_entries g h v w t.times u.times t.game u.game t.some refl refl (tail_same End End (entries_of g v) (entries_of h w) same.1),
      sym a.ends ∙ ap (λ (n : ℕ). after_lines n text) same.0 ∙ b.ends,
    )

pub wholes_are_games : (text : List ℕ) (g h : GameData) → IsWholeTextOf g text → IsWholeTextOf h text → g ≡ h
wholes_are_games text g h t u = (texts_are_games (completed text) t.0 g h u.0 t.1 u.1).0

-- what is accepted is not refused, and a text is refused once

pub text_not_refused : (text rest : List ℕ) (g : GameData) (number : ℕ) (kind : Kind) → IsTextOf g text rest → Stops text number kind → ⊥
text_not_refused text rest g number kind t r =
    let a = text_reads g text rest t in
    not_both (lines_of text) a.count (entries_of g (scaled t.times g.first)) a.after r.0 kind a.reads r.1

goes_not_on : (text rest : List ℕ) (g : GameData) (t : IsTextOf g text rest) (number : ℕ) (kind : Kind) → IsWordless rest → GoesPast text number kind → ⊥
goes_not_on text rest g t number kind none r =
    let a = text_reads g text rest t in
    let same = accepted_once (lines_of text) a.count r.0 (entries_of g (scaled t.times g.first)) r.1 a.after r.2 a.reads r.3 in
    r.4 (subst IsWordless (sym a.ends ∙ ap (λ (n : ℕ). after_lines n text) same.0) none)

pub whole_not_refused : (text rest : List ℕ) (g : GameData) (number : ℕ) (kind : Kind) → IsTextOf g text rest → IsWordless rest → StopsWhole text number kind → ⊥
whole_not_refused text rest g number kind t none (inl r) = text_not_refused text rest g number kind t r
whole_not_refused text rest g number kind t none (inr r) = goes_not_on text rest g t number kind none r

pub front_refused_once : (text : List ℕ) (m n : ℕ) (j k : Kind) → Stops text m j → Stops text n k → (m ≡ n) × (j ≡ k)
front_refused_once text m n j k a b =
    let same = refused_once (lines_of text) a.0 b.0 j k a.1 b.1 in
    (a.2 ∙ ap (λ (place : ℕ). number_in place text) same.0 ∙ sym b.2, same.1)

pub text_refused_once : (text : List ℕ) (m n : ℕ) (j k : Kind) → StopsWhole text m j → StopsWhole text n k → (m ≡ n) × (j ≡ k)
text_refused_once text m n j k (inl a) (inl b) = front_refused_once text m n j k a b
text_refused_once text m n j k (inl a) (inr b) = absurd (not_both (lines_of text) b.0 b.1 b.2 a.0 j b.3 a.1)
text_refused_once text m n j k (inr a) (inl b) = absurd (not_both (lines_of text) a.0 a.1 a.2 b.0 k a.3 b.1)
text_refused_once text m n j k (inr a) (inr b) =
    let same = accepted_once (lines_of text) a.0 b.0 a.1 b.1 a.2 b.2 a.3 b.3 in
    (a.5 ∙ ap (λ (count : ℕ). number_in (count + 1) text) same.0 ∙ sym b.5, a.6 ∙ sym b.6)

pub texts_are_read : (text rest : List ℕ) (g : GameData) → IsTextOf g text rest → (count : ℕ) × (entries : List Entry) × (after : List Line) × ReadsAll (lines_of text) count entries after × (after_lines count text ≡ rest)
texts_are_read text rest g t =
    let a = text_reads g text rest t in
    (a.count, entries_of g (scaled t.times g.first), a.after, a.reads, a.ends)
