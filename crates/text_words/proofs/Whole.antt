-- Whole lines: a line that is written is read back as its words.
use Rattle.std.proofs.Common.{◌≡◌, ℕ, zero, suc, ◌+◌, ◌<◌, ◌≤◌, Bool, true, false, eqb, List, [], ◌∷◌, ◌++◌, length, get_or, take, drop, map, refl, sym, ap, ◌∙◌, arith, append_assoc}
use Rattle.std.specs.List.{AllByRecursion, slice_split, onto_first, join_with_byte, after_first, before_first, position_or_len}
use Rattle.std.proofs.lemmas.List.{drop_more, length-drop}
use Rattle.std.proofs.lemmas.List.Sums.{passes_at_first}
use Rattle.std.proofs.lemmas.List.Splits.{slice_split-cons_yes, slice_split-cons_no, length-slice_split, join_with_byte-slice_split}
use Rattle.std.proofs.lemmas.Bool.{eqb-true}
use Rattle.std.proofs.lemmas.List.{take-append-drop}
use Rattle.std.proofs.lemmas.Bool.{cases_lt}
use Rattle.std.proofs.Common.{inl, inr}
use Rattle.std.proofs.lemmas.Bool.Decides.{nat_tests}
use Rattle.text_words.specs.Lines.{Line, words_of, lines_of, ended, after_lines, line_text}
use Rattle.text_words.proofs.Pieces.{lines_of-more, lines_of-none}

abbrev pub is_feed : ℕ → Bool
is_feed b = eqb b 10

abbrev is_space : ℕ → Bool
is_space b = eqb b 32

-- a word has no space and no line feed
abbrev pub IsWord : List ℕ → Type 0
IsWord word = AllByRecursion (λ b. 32 < b) word

abbrev pub Lacks : (ℕ → Bool) → List ℕ → Type 0
Lacks p bytes = AllByRecursion (λ b. p b ≡ false) bytes

pub split_at : (p : ℕ → Bool) (xs : List ℕ) (y : ℕ) (ys : List ℕ) → Lacks p xs → p y ≡ true → slice_split p (xs ++ y ∷ ys) ≡ xs ∷ slice_split p ys
split_at p [] y ys none is = slice_split-cons_yes p y ys is
split_at p (x ∷ xs) y ys none is = slice_split-cons_no p x (xs ++ y ∷ ys) none.0 ∙ ap (onto_first x) (split_at p xs y ys none.1 is)

pub split_none : (p : ℕ → Bool) (xs : List ℕ) → Lacks p xs → slice_split p xs ≡ xs ∷ []
split_none p [] none = refl
split_none p (x ∷ xs) none = slice_split-cons_no p x xs none.0 ∙ ap (onto_first x) (split_none p xs none.1)

position_at : (p : ℕ → Bool) (xs : List ℕ) (y : ℕ) (ys : List ℕ) → Lacks p xs → p y ≡ true → position_or_len p (xs ++ y ∷ ys) ≡ length xs
position_at p [] y ys none is = rw is refl
position_at p (x ∷ xs) y ys none is = rw (none.0) (rw (position_at p xs y ys none.1 is) (omega arith))

drop_front : (xs ys : List ℕ) (y : ℕ) → drop (length xs + 1) (xs ++ y ∷ ys) ≡ ys
drop_front [] ys y = refl
drop_front (x ∷ xs) ys y = let e : suc (length xs) + 1 ≡ suc (length xs + 1) = omega arith in rw e (drop_front xs ys y)

after_at : (p : ℕ → Bool) (xs : List ℕ) (y : ℕ) (ys : List ℕ) → Lacks p xs → p y ≡ true → after_first p (xs ++ y ∷ ys) ≡ ys
after_at p xs y ys none is = ap (λ (k : ℕ). drop (k + 1) (xs ++ y ∷ ys)) (position_at p xs y ys none is) ∙ drop_front xs ys y

word_spaces : (word : List ℕ) → IsWord word → Lacks is_space word
word_spaces [] w = tt
word_spaces (b ∷ word) w = (grind (arith, nat_tests, w.0), word_spaces word w.1)

lacks_append : (p : ℕ → Bool) (xs ys : List ℕ) → Lacks p xs → Lacks p ys → Lacks p (xs ++ ys)
lacks_append p [] ys none more = more
lacks_append p (x ∷ xs) ys none more = (none.0, lacks_append p xs ys none.1 more)

word_feeds : (word : List ℕ) → IsWord word → Lacks is_feed word
word_feeds [] w = tt
word_feeds (b ∷ word) w = (grind (arith, nat_tests, w.0), word_feeds word w.1)

joined_feeds : (words : Line) → AllByRecursion IsWord words → Lacks is_feed (join_with_byte 32 words)
joined_feeds [] w = tt
joined_feeds (word ∷ []) w = word_feeds word w.0
joined_feeds (word ∷ next ∷ words) w = lacks_append is_feed word (32 ∷ join_with_byte 32 (next ∷ words)) (word_feeds word w.0) (refl, joined_feeds (next ∷ words) w.1)

joined_words : (word : List ℕ) (words : Line) → AllByRecursion IsWord (word ∷ words) → words_of (join_with_byte 32 (word ∷ words)) ≡ word ∷ words
unfolding words_of
joined_words word [] w = split_none is_space word (word_spaces word w.0)
joined_words word (next ∷ words) w =
    split_at is_space word 32 (join_with_byte 32 (next ∷ words)) (word_spaces word w.0) refl ∙ ap (λ (ws : Line). word ∷ ws) (joined_words next words w.1)

ended_more : (piece : List ℕ) (pieces : List (List ℕ)) → 0 < length pieces → ended (piece ∷ pieces) ≡ piece ∷ ended pieces
ended_more piece [] lt = absurd (omega arith)
ended_more piece (next ∷ pieces) lt = refl

line_assoc : (words : Line) (rest : List ℕ) → line_text words ++ rest ≡ join_with_byte 32 words ++ (10 ∷ rest)
line_assoc words rest = append_assoc (join_with_byte 32 words) (10 ∷ []) rest

-- a line that is written first is read first
pub lines_of-line : (word : List ℕ) (words : Line) (rest : List ℕ) → AllByRecursion IsWord (word ∷ words) → lines_of (line_text (word ∷ words) ++ rest) ≡ (word ∷ words) ∷ lines_of rest
unfolding lines_of
lines_of-line word words rest w =
    let bytes = join_with_byte 32 (word ∷ words) in
    let pieces = slice_split is_feed rest in
    let cut : slice_split is_feed (line_text (word ∷ words) ++ rest) ≡ bytes ∷ pieces =
    ap (slice_split is_feed) (line_assoc (word ∷ words) rest) ∙ split_at is_feed bytes 10 rest (joined_feeds (word ∷ words) w) refl in
    ap (λ (ps : List (List ℕ)). map words_of (ended ps)) cut
    ∙ ap (map words_of) (ended_more bytes pieces (omega (arith, length-slice_split is_feed rest)))
    ∙ ap (λ (l : Line). l ∷ map words_of (ended pieces)) (joined_words word words w)

pub after_first-line : (words : Line) (rest : List ℕ) → AllByRecursion IsWord words → after_first is_feed (line_text words ++ rest) ≡ rest
after_first-line words rest w =
    ap (after_first is_feed) (line_assoc words rest) ∙ after_at is_feed (join_with_byte 32 words) 10 rest (joined_feeds words w) refl

-- a line that is read first is written first
cut_first : (text : List ℕ) → position_or_len is_feed text < length text → text ≡ before_first is_feed text ++ (10 ∷ after_first is_feed text)
cut_first text lt =
    let i = position_or_len is_feed text in
    let feed : get_or text i 0 ≡ 10 = eqb-true (get_or text i 0) 10 (passes_at_first is_feed text 0 lt) in
    sym (take-append-drop i text) ∙ ap (λ (l : List ℕ). take i text ++ l) (drop_more text i 0 lt ∙ ap (λ (b : ℕ). b ∷ drop (i + 1) text) feed)

joined_line : (bytes : List ℕ) → join_with_byte 32 (words_of bytes) ≡ bytes
unfolding words_of
joined_line bytes = join_with_byte-slice_split 32 bytes

abbrev Found : List ℕ → Line → List Line → Type 0
Found text line lines = (text ≡ line_text line ++ after_first is_feed text) × (lines_of (after_first is_feed text) ≡ lines)

pub cons_is : (a b : Line) (cs ds : List Line) → a ∷ cs ≡ b ∷ ds → (a ≡ b) × (cs ≡ ds)
cons_is a b cs ds e = (cc, cc)

nil_is : (b : Line) (bs : List Line) → [] ≡ b ∷ bs → ⊥
nil_is b bs e = cc

whole_first : (text : List ℕ) (line : Line) (lines : List Line) → position_or_len is_feed text < length text → lines_of text ≡ line ∷ lines → Found text line lines
whole_first text line lines lt h =
    let i = position_or_len is_feed text in
    let more = lines_of-more text i (grind (arith, nat_tests)) in
    let p = cons_is (words_of (before_first is_feed text)) line (lines_of (after_first is_feed text)) lines (sym more ∙ h) in
    let same : line_text line ++ after_first is_feed text ≡ before_first is_feed text ++ (10 ∷ after_first is_feed text) =
    line_assoc line (after_first is_feed text) ∙ ap (λ (l : List ℕ). l ++ (10 ∷ after_first is_feed text)) (ap (join_with_byte 32) (sym p.0) ∙ joined_line (before_first is_feed text)) in
    (cut_first text lt ∙ sym same, p.1)

pub lines_of-first : (text : List ℕ) (line : Line) (lines : List Line) → lines_of text ≡ line ∷ lines
    → (text ≡ line_text line ++ after_first is_feed text) × (lines_of (after_first is_feed text) ≡ lines)
lines_of-first text line lines h = elim (cases_lt (position_or_len is_feed text) (length text)) [
  | inl lt ↦ whole_first text line lines lt h
  | inr le ↦ absurd (nil_is line lines (sym (lines_of-none text (grind (arith, nat_tests))) ∙ h))
]

-- lines in a row

abbrev pub lines_text : List Line → List ℕ
lines_text [] = []
lines_text (line ∷ lines) = line_text line ++ lines_text lines

abbrev pub IsWritten : Line → Type 0
IsWritten [] = ⊥
IsWritten (word ∷ words) = AllByRecursion IsWord (word ∷ words)

pub lines_of-lines : (lines : List Line) (rest : List ℕ) → AllByRecursion IsWritten lines → lines_of (lines_text lines ++ rest) ≡ lines ++ lines_of rest
lines_of-lines [] rest w = refl
lines_of-lines ([] ∷ lines) rest w = absurd (w.0)
lines_of-lines ((word ∷ words) ∷ lines) rest w =
    ap lines_of (append_assoc (line_text (word ∷ words)) (lines_text lines) rest)
    ∙ lines_of-line word words (lines_text lines ++ rest) w.0
    ∙ ap (λ (ls : List Line). (word ∷ words) ∷ ls) (lines_of-lines lines rest w.1)

pub after_lines-lines : (lines : List Line) (rest : List ℕ) → AllByRecursion IsWritten lines → after_lines (length lines) (lines_text lines ++ rest) ≡ rest
unfolding after_lines
after_lines-lines [] rest w = refl
after_lines-lines ([] ∷ lines) rest w = absurd (w.0)
after_lines-lines ((word ∷ words) ∷ lines) rest w =
    ap (λ (l : List ℕ). after_lines (length lines) (after_first is_feed l)) (append_assoc (line_text (word ∷ words)) (lines_text lines) rest)
    ∙ ap (after_lines (length lines)) (after_first-line (word ∷ words) (lines_text lines ++ rest) w.0)
    ∙ after_lines-lines lines rest w.1

pub lines_of-front : (text : List ℕ) (lines rest : List Line) → lines_of text ≡ lines ++ rest
    → (text ≡ lines_text lines ++ after_lines (length lines) text) × (lines_of (after_lines (length lines) text) ≡ rest)
unfolding after_lines
lines_of-front text [] rest h = (refl, h)
lines_of-front text (line ∷ lines) rest h =
    let p = lines_of-first text line (lines ++ rest) h in
    let q = lines_of-front (after_first is_feed text) lines rest p.1 in
    (p.0 ∙ ap (λ (l : List ℕ). line_text line ++ l) q.0 ∙ sym (append_assoc (line_text line) (lines_text lines) (after_lines (length lines) (after_first is_feed text))), q.1)

pub after_lines-more : (count : ℕ) (text : List ℕ) → after_lines (count + 1) text ≡ after_first is_feed (after_lines count text)
unfolding after_lines
after_lines-more zero text = refl
after_lines-more (suc count) text = let e : suc count + 1 ≡ suc (count + 1) = omega arith in rw e (after_lines-more count (after_first is_feed text))

pub after_lines-add : (m n : ℕ) (text : List ℕ) → after_lines (m + n) text ≡ after_lines n (after_lines m text)
unfolding after_lines
after_lines-add zero n text = let e : 0 + n ≡ n = omega arith in ap (λ (k : ℕ). after_lines k text) e
after_lines-add (suc m) n text = let e : suc m + n ≡ suc (m + n) = omega arith in rw e (after_lines-add m n (after_first is_feed text))

pub after_lines-length : (count : ℕ) (text : List ℕ) → length (after_lines count text) ≤ length text
unfolding after_lines
after_lines-length zero text = omega arith
after_lines-length (suc count) text =
    omega (arith, after_lines-length count (after_first is_feed text), length-drop (position_or_len is_feed text + 1) text)
