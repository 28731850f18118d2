-- The lines of bytes that are a front of others.
use Rattle.std.proofs.Common.{◌≡◌, ◌⊎◌, ℕ, zero, suc, ◌+◌, ◌-◌, ◌<◌, Bool, true, false, cond, eqb, List, [], ◌∷◌, ◌++◌, length, get_or, map, take, inl, inr, refl, sym, ap, subst, ◌∙◌, arith, append_assoc}
use Rattle.std.specs.Prelude.{codes, slice_index}
use Rattle.std.specs.List.{AllByRecursion, filter, join_with_byte, onto_first, position_or_len, slice_split}
use Rattle.std.proofs.lemmas.Bool.{eqb-true}
use Rattle.std.proofs.lemmas.List.Splits.{join_with_byte-slice_split, length-slice_split, slice_split-cons_no, slice_split-cons_yes}
use Rattle.text_words.specs.Lines.{Line, Word}
use Rattle.text_words.proofs.Numerals.{bytes_is}
use Rattle.text_words.proofs.Whole.{Lacks, split_at, split_none}
use Rattle.game_text.specs.Plain.{before_comment, is_end, is_gap, last_of, last_piece, onto, pieces_of, plain_line, without_return, words_at, words_in, words_of, worded_in, Worded}
use Rattle.game_text.proofs.AnyRest.{pieces_at, pieces_lack}
use Rattle.game_text.proofs.Parted.{is_feed, last_piece-line, worded_in-line, worded_in-none, worded_in-some}
use Rattle.game_text.proofs.Written.{all_append, filter_keeps, has_bytes}

no_truth : false ≡ true → ⊥
no_truth e = cc

-- ---- the words behind a first byte

abbrev IsSign : ℕ → Type 0
IsSign b = eqb b 35 ≡ true

abbrev IsLetter : ℕ → Type 0
IsLetter b = (eqb b 35 ≡ false) × (is_gap b ≡ false)

gap_or_not : (b : ℕ) (sign gap : Bool) → eqb b 35 ≡ sign → is_gap b ≡ gap → (is_gap b ≡ true) ⊎ (IsSign b ⊎ IsLetter b)
gap_or_not b sign true s g = inl g
gap_or_not b true false s g = inr (inl s)
gap_or_not b false false s g = inr (inr (s, g))

byte_is : (b : ℕ) → (is_gap b ≡ true) ⊎ (IsSign b ⊎ IsLetter b)
byte_is b = gap_or_not b (eqb b 35) (is_gap b) refl refl

no_sign : (b : ℕ) (sign : Bool) → eqb b 35 ≡ sign → is_gap b ≡ true → eqb b 35 ≡ false
no_sign b true s g = absurd (no_truth (ap is_gap (sym (eqb-true b 35 s)) ∙ g))
no_sign b false s g = s

comment_more : (b : ℕ) (bytes : List ℕ) → eqb b 35 ≡ false → before_comment (b ∷ bytes) ≡ b ∷ before_comment bytes
comment_more b bytes e =
    let next : position_or_len (λ c. eqb c 35) (b ∷ bytes) ≡ suc (position_or_len (λ c. eqb c 35) bytes) = rw e (omega arith) in
    ap (λ (n : ℕ). take n (b ∷ bytes)) next

comment_now : (b : ℕ) (bytes : List ℕ) → IsSign b → before_comment (b ∷ bytes) ≡ []
comment_now b bytes e =
    let now : position_or_len (λ c. eqb c 35) (b ∷ bytes) ≡ 0 = rw e refl in
    ap (λ (n : ℕ). take n (b ∷ bytes)) now

no_words : words_in [] ≡ []
unfolding words_in
no_words = refl

words_gap : (b : ℕ) (bytes : List ℕ) → is_gap b ≡ true → words_in (b ∷ bytes) ≡ words_in bytes
unfolding words_in
words_gap b bytes e =
    ap (λ (bs : List ℕ). filter has_bytes (slice_split is_gap bs)) (comment_more b bytes (no_sign b (eqb b 35) refl e))
    ∙ ap (filter has_bytes) (slice_split-cons_yes is_gap b (before_comment bytes) e)

words_sign : (b : ℕ) (bytes : List ℕ) → IsSign b → words_in (b ∷ bytes) ≡ []
unfolding words_in
words_sign b bytes e = ap (λ (bs : List ℕ). filter has_bytes (slice_split is_gap bs)) (comment_now b bytes e)

abbrev BeginWith : ℕ → Line → Type 0
BeginWith b words = (word : Word) × (more : Line) × (words ≡ (b ∷ word) ∷ more)

first_kept : (b : ℕ) (pieces : List (List ℕ)) → BeginWith b (filter has_bytes (onto_first b pieces))
first_kept b [] = ([], [], filter_keeps (b ∷ []) [] (omega arith))
first_kept b (piece ∷ pieces) = (piece, filter has_bytes pieces, filter_keeps (b ∷ piece) pieces (omega arith))

words_letter : (b : ℕ) (bytes : List ℕ) → IsLetter b → BeginWith b (words_in (b ∷ bytes))
unfolding words_in
words_letter b bytes is =
    let first = first_kept b (slice_split is_gap (before_comment bytes)) in (
      first.0,
      first.1,
      ap (λ (bs : List ℕ). filter has_bytes (slice_split is_gap bs)) (comment_more b bytes is.0)
          ∙ ap (filter has_bytes) (slice_split-cons_no is_gap b (before_comment bytes) is.1)
          ∙ first.2,
    )

begins_not : (b : ℕ) (words : Line) → BeginWith b words → words ≡ [] → ⊥
begins_not b words begin none = let e : (b ∷ begin.0) ∷ begin.1 ≡ [] = sym begin.2 ∙ none in cc

-- ---- pieces whose first word begins with the letter of `end`

abbrev begins_e : List ℕ → Bool
begins_e [] = false
begins_e (b ∷ bytes) = cond (is_gap b) (begins_e bytes) (eqb b 101)

either_true : (gap p q r : Bool) → (p ≡ true → q ≡ true) → cond gap p r ≡ true → cond gap q r ≡ true
either_true true p q r f h = f h
either_true false p q r f h = h

e_more : (bytes more : List ℕ) → begins_e bytes ≡ true → begins_e (bytes ++ more) ≡ true
e_more [] more h = absurd (no_truth h)
e_more (b ∷ bytes) more h = either_true (is_gap b) (begins_e bytes) (begins_e (bytes ++ more)) (eqb b 101) (e_more bytes more) h

e_front : (bytes : List ℕ) → get_or bytes (length bytes - 1) 0 ≡ 13 → begins_e bytes ≡ true → begins_e (take (length bytes - 1) bytes) ≡ true
e_front [] last h = absurd (no_truth h)
e_front (b ∷ []) last h = let same : b ≡ 13 = last in absurd (no_truth (sym (ap (λ (c : ℕ). begins_e (c ∷ [])) same) ∙ h))
e_front (b ∷ c ∷ bytes) last h =
    let less : length (b ∷ c ∷ bytes) - 1 ≡ suc (length (c ∷ bytes) - 1) = omega arith in
    let later : get_or (c ∷ bytes) (length (c ∷ bytes) - 1) 0 ≡ 13 = sym (ap (λ (n : ℕ). get_or (b ∷ c ∷ bytes) n 0) less) ∙ last in
    subst (λ (n : ℕ). begins_e (take n (b ∷ c ∷ bytes)) ≡ true) (sym less)
    (either_true (is_gap b) (begins_e (c ∷ bytes)) (begins_e (take (length (c ∷ bytes) - 1) (c ∷ bytes))) (eqb b 101) (e_front (c ∷ bytes) later) h)

e_returned : (bytes : List ℕ) (return : Bool) → eqb (get_or bytes (length bytes - 1) 0) 13 ≡ return → begins_e bytes ≡ true → begins_e (cond return (take (length bytes - 1) bytes) bytes) ≡ true
e_returned bytes true e h = e_front bytes (eqb-true (get_or bytes (length bytes - 1) 0) 13 e) h
e_returned bytes false e h = h

e_return : (bytes : List ℕ) → begins_e bytes ≡ true → begins_e (without_return bytes) ≡ true
unfolding without_return
e_return bytes h = e_returned bytes (eqb (get_or bytes (length bytes - 1) 0) 13) refl h

e_words_by : (b : ℕ) (bytes : List ℕ) → (begins_e bytes ≡ true → BeginWith 101 (words_in bytes)) → (gap : Bool) → is_gap b ≡ gap → cond gap (begins_e bytes) (eqb b 101) ≡ true
    → BeginWith 101 (words_in (b ∷ bytes))
e_words_by b bytes later true e h = let p = later h in (p.0, p.1, words_gap b bytes e ∙ p.2)
e_words_by b bytes later false e h =
    let p = words_letter 101 bytes (refl, refl) in
    (p.0, p.1, ap (λ (c : ℕ). words_in (c ∷ bytes)) (eqb-true b 101 h) ∙ p.2)

e_words : (bytes : List ℕ) → begins_e bytes ≡ true → BeginWith 101 (words_in bytes)
e_words [] h = absurd (no_truth h)
e_words (b ∷ bytes) h = e_words_by b bytes (e_words bytes) (is_gap b) refl h

pub e_some : (bytes : List ℕ) → begins_e bytes ≡ true → words_in bytes ≡ [] → ⊥
e_some bytes h none = begins_not 101 (words_in bytes) (e_words bytes h) none

end_letter : (b : ℕ) (word : Word) (words : Line) → is_end ((b ∷ word) ∷ words) ≡ true → b ≡ 101
end_letter b word [] h = ap (λ (w : List ℕ). slice_index w 0) (bytes_is (b ∷ word) (codes "end") h)
end_letter b word (next ∷ words) h = absurd (no_truth h)

pub end_e : (bytes : List ℕ) → is_end (words_in bytes) ≡ true → begins_e bytes ≡ true
end_e [] h = absurd (no_truth (sym (ap is_end no_words) ∙ h))
end_e (b ∷ bytes) h = elim (byte_is b) [
  | inl gap ↦ ap (λ (g : Bool). cond g (begins_e bytes) (eqb b 101)) gap ∙ end_e bytes (ap is_end (sym (words_gap b bytes gap)) ∙ h)
  | inr other ↦ elim other [
    | inl sign ↦ absurd (no_truth (sym (ap is_end (words_sign b bytes sign)) ∙ h))
    | inr letter ↦
        let p = words_letter b bytes letter in
        ap (λ (c : ℕ). begins_e (c ∷ bytes)) (end_letter b p.0 p.1 (sym (ap is_end p.2) ∙ h))
  ]
]

-- ---- less than the word `end` behind bytes without words

short_end : (n : ℕ) (tail : List ℕ) → n < 3 → is_end (words_in (take n (codes "end" ++ tail))) ≡ false
unfolding words_in
short_end zero tail lt = refl
short_end (suc zero) tail lt = refl
short_end (suc (suc zero)) tail lt = refl
short_end (suc (suc (suc n))) tail lt = absurd (omega (arith, lt))

pub short_lacks : (n : ℕ) (tail : List ℕ) → n < 3 → Lacks is_feed (take n (codes "end" ++ tail))
short_lacks zero tail lt = tt
short_lacks (suc zero) tail lt = (refl, tt)
short_lacks (suc (suc zero)) tail lt = (refl, (refl, tt))
short_lacks (suc (suc (suc n))) tail lt = absurd (omega (arith, lt))

pub no_end : (bytes : List ℕ) (n : ℕ) (tail : List ℕ) → n < 3 → words_in bytes ≡ [] → is_end (words_in (bytes ++ take n (codes "end" ++ tail))) ≡ false
no_end [] n tail lt none = short_end n tail lt
no_end (b ∷ bytes) n tail lt none = elim (byte_is b) [
  | inl gap ↦ ap is_end (words_gap b (bytes ++ take n (codes "end" ++ tail)) gap) ∙ no_end bytes n tail lt (sym (words_gap b bytes gap) ∙ none)
  | inr other ↦ elim other [
    | inl sign ↦ ap is_end (words_sign b (bytes ++ take n (codes "end" ++ tail)) sign)
    | inr letter ↦ absurd (begins_not b (words_in (b ∷ bytes)) (words_letter b bytes letter) none)
  ]
]

-- ---- the lines of a front are a front of the lines

-- the first of these lines begins with a word that begins with the letter of `end`
abbrev pub FirstBegins : List Line → Type 0
FirstBegins lines = (word : Word) × (words : Line) × (more : List Line) × (lines ≡ ((101 ∷ word) ∷ words) ∷ more)

pub record Front (before : ℕ) (bytes rest : List ℕ) : Type 0 where
  pub more : List Line
  pub lines : map words_at (worded_in before (bytes ++ rest)) ≡ map words_at (worded_in before bytes) ++ more
  pub begins : begins_e (last_piece bytes) ≡ true → (begins_e (last_piece (bytes ++ rest)) ≡ true) ⊎ FirstBegins more
  pub same : Lacks is_feed rest → (more ≡ []) × (last_piece (bytes ++ rest) ≡ last_piece bytes ++ rest)

has_feed : (piece bytes : List ℕ) → Lacks is_feed (piece ++ 10 ∷ bytes) → ⊥
has_feed [] bytes h = no_truth (sym h.0)
has_feed (b ∷ piece) bytes h = has_feed piece bytes h.1

plain_first : (name : Word) (words : Line) → (more : Line) × (plain_line (name ∷ words) ≡ name ∷ more)
unfolding plain_line
plain_first name words = (_, refl)

line_first : (before : ℕ) (text line rest : List ℕ) → pieces_of text ≡ line ∷ pieces_of rest → BeginWith 101 (words_of line) → FirstBegins (map words_at (worded_in before text))
line_first before text line rest e begin =
    let p = plain_first (101 ∷ begin.0) begin.1 in
    let some : 0 < length (words_of line) = omega (arith, ap length begin.2) in (
      begin.0,
      p.0,
      map words_at (worded_in (before + 1) rest),
      ap (map words_at) (worded_in-some before text line rest e some)
          ∙ ap (λ (ws : Line). plain_line ws ∷ map words_at (worded_in (before + 1) rest)) begin.2
          ∙ ap (λ (l : Line). l ∷ map words_at (worded_in (before + 1) rest)) p.1,
    )

-- no line feed in the front, and none behind it
front_open : (before : ℕ) (bytes rest : List ℕ) → Lacks is_feed bytes → Lacks is_feed rest → Front before bytes rest
front_open before bytes rest lacks none =
    let one = split_none is_feed bytes lacks in
    let both = split_none is_feed (bytes ++ rest) (all_append (λ b. is_feed b ≡ false) bytes rest lacks none) in
    let last : last_piece bytes ≡ bytes = ap last_of one in
    let later : last_piece (bytes ++ rest) ≡ bytes ++ rest = ap last_of both in
    record {
      more = [];
      lines = ap (map words_at) (worded_in-none before (bytes ++ rest) both) ∙ ap (λ (ls : List Worded). map words_at ls ++ []) (sym (worded_in-none before bytes one));
      begins = λ h. inl (subst (λ (p : List ℕ). begins_e p ≡ true) (sym later) (e_more bytes rest (subst (λ (p : List ℕ). begins_e p ≡ true) last h)));
      same = λ lack. (refl, later ∙ ap (λ (p : List ℕ). p ++ rest) (sym last));
    }

-- no line feed in the front, and one behind it
front_line : (before : ℕ) (bytes piece rest : List ℕ) → Lacks is_feed bytes → Lacks is_feed piece → Front before bytes (piece ++ 10 ∷ rest)
front_line before bytes piece rest lacks none =
    let one = split_none is_feed bytes lacks in
    let text = bytes ++ (piece ++ 10 ∷ rest) in
    let both : pieces_of text ≡ (bytes ++ piece) ∷ pieces_of rest =
    ap pieces_of (sym (append_assoc bytes piece (10 ∷ rest))) ∙ split_at is_feed (bytes ++ piece) 10 rest (all_append (λ b. is_feed b ≡ false) bytes piece lacks none) refl in
    let last : last_piece bytes ≡ bytes = ap last_of one in
    record {
      more = map words_at (worded_in before text);
      lines = ap (λ (ls : List Worded). map words_at ls ++ map words_at (worded_in before text)) (sym (worded_in-none before bytes one));
      begins = λ h.
          let e = e_return (bytes ++ piece) (e_more bytes piece (subst (λ (p : List ℕ). begins_e p ≡ true) last h)) in
          inr (line_first before text (bytes ++ piece) rest both (e_words (without_return (bytes ++ piece)) e));
      same = λ lack. absurd (has_feed piece rest lack);
    }

onto_more : (number : ℕ) (words : Line) (a b : List ℕ) (ls ks : List Worded) (more : List Line) → map words_at ls ≡ map words_at ks ++ more
    → map words_at (onto number words a ls) ≡ map words_at (onto number words b ks) ++ more
onto_more number [] a b ls ks more e = e
onto_more number (word ∷ words) a b ls ks more e = ap (λ (l : List Line). plain_line (word ∷ words) ∷ l) e

-- a line before the front
front_more : (before : ℕ) (piece bytes rest : List ℕ) → Lacks is_feed piece → Front (before + 1) bytes rest → Front before (piece ++ 10 ∷ bytes) rest
front_more before piece bytes rest lacks f =
    let one : pieces_of (piece ++ 10 ∷ bytes) ≡ piece ∷ pieces_of bytes = split_at is_feed piece 10 bytes lacks refl in
    let both = pieces_at piece bytes rest lacks in
    let last = last_piece-line (piece ++ 10 ∷ bytes) piece bytes one in
    let later = last_piece-line ((piece ++ 10 ∷ bytes) ++ rest) piece (bytes ++ rest) both in
    record {
      more = f.more;
      lines =
          ap (map words_at) (worded_in-line before ((piece ++ 10 ∷ bytes) ++ rest) piece (bytes ++ rest) both)
          ∙ onto_more (before + 1) (words_of piece) (bytes ++ rest) bytes (worded_in (before + 1) (bytes ++ rest)) (worded_in (before + 1) bytes) f.more f.lines
          ∙ ap (λ (ls : List Worded). map words_at ls ++ f.more) (sym (worded_in-line before (piece ++ 10 ∷ bytes) piece bytes one));
      begins = λ h. elim (f.begins (subst (λ (p : List ℕ). begins_e p ≡ true) last h)) [
        | inl e ↦ inl (subst (λ (p : List ℕ). begins_e p ≡ true) (sym later) e)
        | inr first ↦ inr first
      ];
      same = λ lack. let s = f.same lack in (s.0, later ∙ s.1 ∙ ap (λ (p : List ℕ). p ++ rest) (sym last));
    }

front_piece : (before : ℕ) (bytes : List ℕ) (pieces : List (List ℕ)) → Lacks is_feed bytes → AllByRecursion (Lacks is_feed) pieces → 0 < length pieces → Front before bytes (join_with_byte 10 pieces)
front_piece before bytes [] lacks each some = absurd (omega (arith, some))
front_piece before bytes (piece ∷ []) lacks each some = front_open before bytes piece lacks each.0
front_piece before bytes (piece ∷ next ∷ pieces) lacks each some = front_line before bytes piece (join_with_byte 10 (next ∷ pieces)) lacks each.0

front_none : (before : ℕ) (bytes rest : List ℕ) → Lacks is_feed bytes → Front before bytes rest
front_none before bytes rest lacks =
    subst (Front before bytes) (join_with_byte-slice_split 10 rest)
    (front_piece before bytes (pieces_of rest) lacks (pieces_lack rest) (omega (arith, length-slice_split is_feed rest)))

fronts : (before : ℕ) (pieces : List (List ℕ)) (rest : List ℕ) → AllByRecursion (Lacks is_feed) pieces → 0 < length pieces → Front before (join_with_byte 10 pieces) rest
fronts before [] rest each some = absurd (omega (arith, some))
fronts before (piece ∷ []) rest each some = front_none before piece rest each.0
fronts before (piece ∷ next ∷ pieces) rest each some =
    front_more before piece (join_with_byte 10 (next ∷ pieces)) rest each.0 (fronts (before + 1) (next ∷ pieces) rest each.1 (omega arith))

pub front_in : (bytes rest : List ℕ) → Front 0 bytes rest
front_in bytes rest =
    subst (λ (bs : List ℕ). Front 0 bs rest) (join_with_byte-slice_split 10 bytes)
    (fronts 0 (pieces_of bytes) rest (pieces_lack bytes) (omega (arith, length-slice_split is_feed bytes)))
