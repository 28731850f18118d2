-- Lines that are printed are read as they stand.
use Rattle.std.proofs.Common.{◌≡◌, ℕ, zero, suc, ◌+◌, ◌-◌, ◌^◌, ◌<◌, ◌≤◌, Bool, true, false, cond, eqb, ltb, List, [], ◌∷◌, ◌++◌, length, get_or, map, take, ℤ, pos, negsuc, refl, ap, ◌∙◌, arith, append_assoc}
use Rattle.std.specs.Prelude.{codes}
use Rattle.std.specs.Fmt.{decimal, signed_decimal}
use Rattle.std.specs.List.{AllByRecursion, filter, join_with_byte, position_or_len, slice_split}
use Rattle.std.specs.Str.{bytes_eq}
use Rattle.std.specs.Str.Parse.{AllDigits}
use Rattle.std.proofs.lemmas.Bool.Decides.{nat_tests}
use Rattle.std.proofs.lemmas.Fmt.{decimal_is_IsNumeral_wide}
use Rattle.std.proofs.lemmas.List.{take_all}
use Rattle.std.proofs.lemmas.Str.Parse.{digit_from_value}
use Rattle.text_words.specs.Lines.{Line, Word, line_text}
use Rattle.text_words.proofs.Numerals.{Small}
use Rattle.text_words.proofs.Printed.{number_of-printed}
use Rattle.text_words.proofs.Whole.{Lacks, lines_text, split_at, split_none}
use Rattle.game_text.specs.Plain.{after_lines, before_comment, is_gap, last_piece, pieces_of, plain_line, plain_word, printed_or, without_return, words_at, words_in, words_of, worded_in, Worded}
use Rattle.game_text.proofs.NumberWords.{number_again}
use Rattle.game_text.proofs.Parted.{is_feed, last_piece-line, worded_in-some}

-- ---- printed words

-- neither empty, nor with a space, a tab, a line end or the sign of a comment
abbrev pub IsPlainWord : Word → Type 0
IsPlainWord word = (0 < length word) × AllByRecursion (λ b. 35 < b) word

digits_plain : (ds : List ℕ) → AllDigits 10 ds → AllByRecursion (λ b. 35 < b) ds
digits_plain [] d = tt
digits_plain (c ∷ cs) d = (omega (arith, digit_from_value c d.0), digits_plain cs d.1)

decimal_plain : (n : ℕ) → n < 10 ^ 36 → IsPlainWord (decimal n)
decimal_plain n small = let k = decimal_is_IsNumeral_wide n (omega arith) in (k.0.0, digits_plain (decimal n) k.0.1)

pub number_plain : (z : ℤ) → Small z → IsPlainWord (signed_decimal z)
number_plain (pos n) small = decimal_plain n small
number_plain (negsuc n) small = (omega arith, (omega arith, (decimal_plain (suc n) small).1))

pub numbers_plain : (ns : List ℤ) → AllByRecursion Small ns → AllByRecursion IsPlainWord (map signed_decimal ns)
numbers_plain [] small = tt
numbers_plain (z ∷ ns) small = (number_plain z small.0, numbers_plain ns small.1)

-- ---- the words of a printed line

byte_apart : (b : ℕ) → 35 < b → (13 < b) × (eqb b 35 ≡ false) × (eqb b 10 ≡ false)
byte_apart b lt = (omega arith, grind (arith, nat_tests), grind (arith, nat_tests))

abbrev IsQuiet : ℕ → Type 0
IsQuiet b = (13 < b) × (eqb b 35 ≡ false) × (eqb b 10 ≡ false)

pub all_append : (P : ℕ → Type 0) (xs ys : List ℕ) → AllByRecursion P xs → AllByRecursion P ys → AllByRecursion P (xs ++ ys)
all_append P [] ys h k = k
all_append P (x ∷ xs) ys h k = (h.0, all_append P xs ys h.1 k)

word_quiet : (word : Word) → AllByRecursion (λ b. 35 < b) word → AllByRecursion IsQuiet word
word_quiet [] h = tt
word_quiet (b ∷ word) h = (byte_apart b h.0, word_quiet word h.1)

joined_quiet : (words : Line) → AllByRecursion IsPlainWord words → AllByRecursion IsQuiet (join_with_byte 32 words)
joined_quiet [] h = tt
joined_quiet (word ∷ []) h = word_quiet word h.0.1
joined_quiet (word ∷ next ∷ words) h =
    all_append IsQuiet word (32 ∷ join_with_byte 32 (next ∷ words)) (word_quiet word h.0.1) ((omega arith, refl, refl), joined_quiet (next ∷ words) h.1)

no_return : (bytes : List ℕ) (i : ℕ) → AllByRecursion IsQuiet bytes → eqb (get_or bytes i 0) 13 ≡ false
no_return [] i h = refl
no_return (b ∷ bytes) zero h = other b h.0.0
  where
    other : (b : ℕ) → 13 < b → eqb b 13 ≡ false
    other b lt = grind (arith, nat_tests)
no_return (b ∷ bytes) (suc i) h = no_return bytes i h.1

kept_return : (bytes : List ℕ) → AllByRecursion IsQuiet bytes → without_return bytes ≡ bytes
unfolding without_return
kept_return bytes h = ap (λ (b : Bool). cond b (take (length bytes - 1) bytes) bytes) (no_return bytes (length bytes - 1) h)

no_sign : (bytes : List ℕ) → AllByRecursion IsQuiet bytes → length bytes ≤ position_or_len (λ b. eqb b 35) bytes
no_sign [] h = omega arith
no_sign (b ∷ bytes) h = rw (h.0.1) (omega (arith, no_sign bytes h.1))

kept_comment : (bytes : List ℕ) → AllByRecursion IsQuiet bytes → before_comment bytes ≡ bytes
kept_comment bytes h = take_all (position_or_len (λ b. eqb b 35) bytes) bytes (no_sign bytes h)

word_gaps : (word : Word) → AllByRecursion (λ b. 35 < b) word → Lacks is_gap word
word_gaps [] h = tt
word_gaps (b ∷ word) h = (no_gap b h.0, word_gaps word h.1)
  where
    no_gap : (b : ℕ) → 35 < b → is_gap b ≡ false
    no_gap b lt = grind (arith, nat_tests)

abbrev pub has_bytes : Word → Bool
has_bytes word = ltb 0 (length word)

pub filter_keeps : (word : Word) (words : Line) → 0 < length word → filter has_bytes (word ∷ words) ≡ word ∷ filter has_bytes words
filter_keeps word words some = ap (λ (b : Bool). cond b (word ∷ filter has_bytes words) (filter has_bytes words)) (longer (length word) some)
  where
    longer : (n : ℕ) → 0 < n → ltb 0 n ≡ true
    longer n lt = grind (arith, nat_tests)

joined_split : (word : Word) (words : Line) → AllByRecursion IsPlainWord (word ∷ words) → filter has_bytes (slice_split is_gap (join_with_byte 32 (word ∷ words))) ≡ word ∷ words
joined_split word [] h = ap (filter has_bytes) (split_none is_gap word (word_gaps word h.0.1)) ∙ filter_keeps word [] h.0.0
joined_split word (next ∷ words) h =
    ap (filter has_bytes) (split_at is_gap word 32 (join_with_byte 32 (next ∷ words)) (word_gaps word h.0.1) refl)
    ∙ filter_keeps word (slice_split is_gap (join_with_byte 32 (next ∷ words))) h.0.0
    ∙ ap (λ (ws : Line). word ∷ ws) (joined_split next words h.1)

pub words_again : (word : Word) (words : Line) → AllByRecursion IsPlainWord (word ∷ words) → words_of (join_with_byte 32 (word ∷ words)) ≡ word ∷ words
unfolding words_in
words_again word words h =
    let bytes = join_with_byte 32 (word ∷ words) in
    let quiet = joined_quiet (word ∷ words) h in
    ap words_in (kept_return bytes quiet)
    ∙ ap (λ (bs : List ℕ). filter has_bytes (slice_split is_gap bs)) (kept_comment bytes quiet)
    ∙ joined_split word words h

-- ---- printed numbers

printed_plain : (z : ℤ) → Small z → plain_word (signed_decimal z) ≡ signed_decimal z
printed_plain z small = ap (printed_or (signed_decimal z)) (number_again (signed_decimal z) z (number_of-printed z small))

numbers_again : (ns : List ℤ) → AllByRecursion Small ns → map plain_word (map signed_decimal ns) ≡ map signed_decimal ns
numbers_again [] small = refl
numbers_again (z ∷ ns) small =
    ap (λ (w : Word). w ∷ map plain_word (map signed_decimal ns)) (printed_plain z small.0) ∙ ap (λ (ws : Line). signed_decimal z ∷ ws) (numbers_again ns small.1)

pub line_again : (name : Word) (ns : List ℤ) → AllByRecursion Small ns → plain_line (name ∷ map signed_decimal ns) ≡ name ∷ map signed_decimal ns
unfolding plain_line
line_again name ns small = either (bytes_eq name (codes "osposg"))
  where
    either : (b : Bool) → name ∷ cond b (map signed_decimal ns) (map plain_word (map signed_decimal ns)) ≡ name ∷ map signed_decimal ns
    either true = refl
    either false = ap (λ (ws : Line). name ∷ ws) (numbers_again ns small)

-- ---- lines in a row

-- the words are read as they stand
abbrev pub IsPlainLine : Line → Type 0
IsPlainLine [] = ⊥
IsPlainLine (word ∷ words) = AllByRecursion IsPlainWord (word ∷ words) × (plain_line (word ∷ words) ≡ word ∷ words)

quiet_feeds : (bytes : List ℕ) → AllByRecursion IsQuiet bytes → Lacks is_feed bytes
quiet_feeds [] h = tt
quiet_feeds (b ∷ bytes) h = (h.0.2, quiet_feeds bytes h.1)

line_pieces : (word : Word) (words : Line) (rest : List ℕ) → AllByRecursion IsPlainWord (word ∷ words) → pieces_of (line_text (word ∷ words) ++ rest) ≡ join_with_byte 32 (word ∷ words) ∷ pieces_of rest
line_pieces word words rest h =
    ap pieces_of (append_assoc (join_with_byte 32 (word ∷ words)) (10 ∷ []) rest)
    ∙ split_at is_feed (join_with_byte 32 (word ∷ words)) 10 rest (quiet_feeds (join_with_byte 32 (word ∷ words)) (joined_quiet (word ∷ words) h)) refl

abbrev line_with : ℕ → List ℕ → Line → Worded
line_with number after words = record { number = number; words = words; after = after }

line_first : (before : ℕ) (word : Word) (words : Line) (rest : List ℕ) → IsPlainLine (word ∷ words)
    → worded_in before (line_text (word ∷ words) ++ rest) ≡ line_with (before + 1) rest (word ∷ words) ∷ worded_in (before + 1) rest
line_first before word words rest h =
    let again = words_again word words h.0 in
    let text = line_text (word ∷ words) ++ rest in
    worded_in-some before text (join_with_byte 32 (word ∷ words)) rest (line_pieces word words rest h.0) (omega (arith, ap length again))
    ∙ ap (λ (ws : Line). line_with (before + 1) rest (plain_line ws) ∷ worded_in (before + 1) rest) again
    ∙ ap (λ (ws : Line). line_with (before + 1) rest ws ∷ worded_in (before + 1) rest) h.1

pub lines_again : (before : ℕ) (lines : List Line) (rest : List ℕ) → AllByRecursion IsPlainLine lines
    → map words_at (worded_in before (lines_text lines ++ rest)) ≡ lines ++ map words_at (worded_in (before + length lines) rest)
lines_again before [] rest h = let e : before ≡ before + 0 = omega arith in ap (λ (n : ℕ). map words_at (worded_in n rest)) e
lines_again before ([] ∷ lines) rest h = absurd (h.0)
lines_again before ((word ∷ words) ∷ lines) rest h =
    let e : before + 1 + length lines ≡ before + suc (length lines) = omega arith in
    ap (λ (t : List ℕ). map words_at (worded_in before t)) (append_assoc (line_text (word ∷ words)) (lines_text lines) rest)
    ∙ ap (map words_at) (line_first before word words (lines_text lines ++ rest) h.0)
    ∙ ap (λ (ls : List Line). (word ∷ words) ∷ ls) (lines_again (before + 1) lines rest h.1 ∙ ap (λ (n : ℕ). lines ++ map words_at (worded_in n rest)) e)

after_again : (before : ℕ) (line : Line) (lines : List Line) (rest : List ℕ) → AllByRecursion IsPlainLine (line ∷ lines)
    → get_or (map (λ (l : Worded). l.after) (worded_in before (lines_text (line ∷ lines) ++ rest))) (length lines) [] ≡ rest
after_again before [] lines rest h = absurd (h.0)
after_again before (word ∷ words) [] rest h =
    ap (λ (t : List ℕ). get_or (map (λ (l : Worded). l.after) (worded_in before t)) 0 []) (append_assoc (line_text (word ∷ words)) [] rest)
    ∙ ap (λ (ls : List Worded). get_or (map (λ (l : Worded). l.after) ls) 0 []) (line_first before word words rest h.0)
after_again before (word ∷ words) (next ∷ lines) rest h =
    ap (λ (t : List ℕ). get_or (map (λ (l : Worded). l.after) (worded_in before t)) (suc (length lines)) []) (append_assoc (line_text (word ∷ words)) (lines_text (next ∷ lines)) rest)
    ∙ ap (λ (ls : List Worded). get_or (map (λ (l : Worded). l.after) ls) (suc (length lines)) []) (line_first before word words (lines_text (next ∷ lines) ++ rest) h.0)
    ∙ after_again (before + 1) next lines rest h.1

pub after_lines-again : (lines : List Line) (rest : List ℕ) → AllByRecursion IsPlainLine lines → after_lines (length lines) (lines_text lines ++ rest) ≡ rest
unfolding after_lines
after_lines-again [] rest h = refl
after_lines-again (line ∷ lines) rest h = after_again 0 line lines rest h

-- behind whole lines no piece is left
pub none_behind : (lines : List Line) → AllByRecursion IsPlainLine lines → last_piece (lines_text lines) ≡ []
none_behind [] h = refl
none_behind ([] ∷ lines) h = absurd (h.0)
none_behind ((word ∷ words) ∷ lines) h =
    last_piece-line (line_text (word ∷ words) ++ lines_text lines) (join_with_byte 32 (word ∷ words)) (lines_text lines) (line_pieces word words (lines_text lines) h.0.0)
    ∙ none_behind lines h.1
