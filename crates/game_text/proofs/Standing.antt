-- Where the reader stands in a text, and how it goes on from there.
use Rattle.std.proofs.Common.{◌≡◌, ℕ, zero, suc, ◌+◌, ◌-◌, List, [], ◌∷◌, length, get_or, map, drop, Result, Ok, Err, refl, sym, ap, subst, ◌∙◌, arith}
use Rattle.std.proofs.lemmas.List.{drop-map}
use Rattle.std.specs.Result.{MatchResult}
use Rattle.text_words.specs.Lines.{Line}
use Rattle.text_words.specs.Fault.{Fails, Gives}
use Rattle.text_words.specs.declared.fault.LineFault.{LineFault}
use Rattle.text_words.specs.declared.fault.LineFault.TheVariants.{Refused, OutOfMemory}
use Rattle.game_text.specs.declared.fault.Kind.{Kind}
use Rattle.game_text.specs.declared.fault.Kind.TheVariants as kinds
use Rattle.game_text.specs.declared.fault.TextFault.{TextFault}
use Rattle.game_text.specs.declared.fault.TextFault.TheVariants as texts
use Rattle.game_text.specs.Fault.{at_line}
use Rattle.game_text.specs.Plain.{after_lines, first_number, lines_of, number_in, pieces_of, worded_in, words_at, Worded}
use Rattle.game_text.specs.Entries.{Entry, Version, Size, Total, Discount, entry_of, version_said, size_said, total_said, discount_said, first_said, shape_in}
use Rattle.game_text.specs.Forms.{version_line}
use Rattle.game_text.specs.Reading.{IsUnfinished}
use Rattle.game_text.specs.Steps.{IsStopped, Reads, line_at}
use Rattle.game_text.specs.Places.{IsAt, IsNoLine}
use Rattle.game_text.proofs.Reading.{gives_err, gives_ok, passed, reads_more, reads_none, stopped}

-- ---- places in a list

get_or_drop : {X : Type 0} (xs : List X) (n : ℕ) (d : X) → get_or xs n d ≡ get_or (drop n xs) 0 d
get_or_drop xs zero d = refl
get_or_drop [] (suc n) d = refl
get_or_drop (x ∷ xs) (suc n) d = get_or_drop xs n d

drop_next : {X : Type 0} (xs : List X) (n : ℕ) (y : X) (ys : List X) → drop n xs ≡ y ∷ ys → drop (suc n) xs ≡ ys
drop_next [] zero y ys e = absurd cc
drop_next (x ∷ xs) zero y ys e = cc
drop_next [] (suc n) y ys e = absurd cc
drop_next (x ∷ xs) (suc n) y ys e = drop_next xs n y ys e

mapped_at : {X Y : Type 0} (f : X → Y) (xs ys : List X) (n : ℕ) (d : Y) → drop n xs ≡ ys → get_or (map f xs) n d ≡ get_or (map f ys) 0 d
mapped_at {X} {Y} f xs ys n d e = get_or_drop (map f xs) n d ∙ ap (λ (l : List Y). get_or l 0 d) (drop-map f n xs ∙ ap (map f) e)

-- ---- the number of the next line

pub number_at : (whole : List ℕ) (count : ℕ) (entries : List Entry) (before : ℕ) (text : List ℕ) → IsAt whole count entries before text → number_in (count + 1) whole ≡ first_number before text
unfolding number_in
number_at whole count entries before text at =
    let e : count + 1 - 1 ≡ count = omega arith in
    ap (λ (k : ℕ). get_or (map (λ (line : Worded). line.number) (worded_in 0 whole)) k (length (pieces_of whole))) e
    ∙ mapped_at (λ (line : Worded). line.number) (worded_in 0 whole) (worded_in before text) count (length (pieces_of whole)) at.place
    ∙ ap (λ (d : ℕ). get_or (map (λ (line : Worded). line.number) (worded_in before text)) 0 d) (sym at.pieces)

pub first-none : (before : ℕ) (text : List ℕ) → worded_in before text ≡ [] → first_number before text ≡ before + length (pieces_of text)
first-none before text e = ap (λ (ls : List Worded). get_or (map (λ (line : Worded). line.number) ls) 0 (before + length (pieces_of text))) e

pub first-some : (before : ℕ) (text : List ℕ) (line : Worded) (lines : List Worded) → worded_in before text ≡ line ∷ lines → first_number before text ≡ line.number
first-some before text line lines e = ap (λ (ls : List Worded). get_or (map (λ (line : Worded). line.number) ls) 0 (before + length (pieces_of text))) e

-- ---- the first place, and the next one

pub start : (text : List ℕ) → IsAt text 0 [] 0 text
unfolding after_lines
start text = record { reads = reads_none (lines_of text); place = refl; pieces = omega arith; after = refl }

line_says : (entries : List Entry) (line : Line) (rest : List Line) (entry : Entry) → entry_of entries line ≡ Ok entry → line_at entries (line ∷ rest) ≡ Ok (entry, rest)
unfolding line_at
line_says entries line rest entry e = rw e refl

line_fails : (entries : List Entry) (line : Line) (rest : List Line) (kind : Kind) → entry_of entries line ≡ Err kind → line_at entries (line ∷ rest) ≡ Err kind
unfolding line_at
line_fails entries line rest kind e = rw e refl

no_line : (entries : List Entry) → line_at entries [] ≡ Err kinds.Missing
unfolding line_at
no_line entries = refl

after_more : (whole : List ℕ) (count : ℕ) (line : Worded) (lines : List Worded) → drop count (worded_in 0 whole) ≡ line ∷ lines → line.after ≡ after_lines (count + 1) whole
unfolding after_lines
after_more whole count line lines e =
    let more : count + 1 ≡ suc count = omega arith in
    sym (ap (λ (k : ℕ). after_lines k whole) more ∙ mapped_at (λ (l : Worded). l.after) (worded_in 0 whole) (line ∷ lines) count [] e)

pub moved : (whole : List ℕ) (count : ℕ) (entries : List Entry) (before : ℕ) (text : List ℕ) (line : Worded) (entry : Entry) → IsAt whole count entries before text
    → worded_in before text ≡ line ∷ worded_in line.number line.after → line.number + length (pieces_of line.after) ≡ before + length (pieces_of text)
    → entry_of entries line.words ≡ Ok entry → IsAt whole (count + 1) (entry ∷ entries) line.number line.after
moved whole count entries before text line entry at next counted says =
    let rest = map words_at (worded_in line.number line.after) in
    let reads = subst (λ (ls : List Worded). Reads (lines_of whole) count entries (map words_at ls)) next at.reads in
    let more : count + 1 ≡ suc count = omega arith in
    let place = at.place ∙ next in
    record {
      reads = reads_more (lines_of whole) count entries (line.words ∷ rest) rest entry reads (line_says entries line.words rest entry says);
      place = ap (λ (k : ℕ). drop k (worded_in 0 whole)) more ∙ drop_next (worded_in 0 whole) count line (worded_in line.number line.after) place;
      pieces = counted ∙ at.pieces;
      after = after_more whole count line (worded_in line.number line.after) place;
    }

-- ---- where it stops

pub missing_stops : (whole : List ℕ) (count : ℕ) (entries : List Entry) (before : ℕ) (text : List ℕ) (fault : TextFault) → IsAt whole count entries before text → IsUnfinished entries → IsNoLine before text fault → IsStopped whole fault
missing_stops whole count entries before text (texts.Line number kind) at due none =
    let reads = subst (λ (ls : List Worded). Reads (lines_of whole) count entries (map words_at ls)) none.0 at.reads in
    let stop : line_at entries [] ≡ Err kind = no_line entries ∙ ap (λ (k : Kind). Err k) (sym none.2) in
    (count + 1, (count, entries, [], refl, reads, due, stop), none.1 ∙ sym (first-none before text none.0) ∙ sym (number_at whole count entries before text at))
missing_stops whole count entries before text texts.OutOfMemory at due none = tt

pub refused_stops : (whole : List ℕ) (count : ℕ) (entries : List Entry) (before : ℕ) (text : List ℕ) (line : Worded) (fault : LineFault Kind) → IsAt whole count entries before text → IsUnfinished entries
    → worded_in before text ≡ line ∷ worded_in line.number line.after → Fails fault (entry_of entries line.words) → IsStopped whole (at_line fault line.number)
refused_stops whole count entries before text line OutOfMemory at due next says = tt
refused_stops whole count entries before text line (Refused kind) at due next says =
    let rest = map words_at (worded_in line.number line.after) in
    let reads = subst (λ (ls : List Worded). Reads (lines_of whole) count entries (map words_at ls)) next at.reads in
    (count + 1, (count, entries, line.words ∷ rest, refl, reads, due, line_fails entries line.words rest kind says), sym (first-some before text line (worded_in line.number line.after) next) ∙ sym (number_at whole count entries before text at))

-- ---- a line that was read by its own rule

pub line_moves : {X : Type 0} (view : X → Entry) (whole : List ℕ) (count : ℕ) (entries : List Entry) (before : ℕ) (text : List ℕ) (line : Worded) (said : Result Entry Kind)
    → (read : Result X (LineFault Kind)) (result : Result X TextFault) (value : X) → IsAt whole count entries before text
    → worded_in before text ≡ line ∷ worded_in line.number line.after → line.number + length (pieces_of line.after) ≡ before + length (pieces_of text)
    → entry_of entries line.words ≡ said → Gives view read said → MatchResult read (λ v. result ≡ Ok v) (λ fault. result ≡ Err (at_line fault line.number)) → result ≡ Ok value
    → IsAt whole (count + 1) (view value ∷ entries) line.number line.after
line_moves view whole count entries before text line said read result value at next counted by gives numbered was =
    moved whole count entries before text line (view value) at next counted (by ∙ gives_ok view read said value gives (passed read result line.number value numbered was))

pub line_stops : {X : Type 0} (view : X → Entry) (whole : List ℕ) (count : ℕ) (entries : List Entry) (before : ℕ) (text : List ℕ) (line : Worded) (said : Result Entry Kind)
    → (read : Result X (LineFault Kind)) (result : Result X TextFault) (error : TextFault) → IsAt whole count entries before text → IsUnfinished entries
    → worded_in before text ≡ line ∷ worded_in line.number line.after
    → entry_of entries line.words ≡ said → Gives view read said → MatchResult read (λ v. result ≡ Ok v) (λ fault. result ≡ Err (at_line fault line.number)) → result ≡ Err error
    → IsStopped whole error
line_stops view whole count entries before text line said read result error at due next by gives numbered was =
    let s = stopped read result line.number error numbered was in
    subst (IsStopped whole) (sym s.2)
    (refused_stops whole count entries before text line s.0 at due next (subst (Fails s.0) (sym by) (gives_err view read said s.0 gives s.1)))

-- ---- the lines of the header

pub version_says : (line : Line) (u : Unit {0}) → version_line line ≡ Ok u → entry_of [] line ≡ Ok Version
unfolding entry_of version_said
version_says line u h = rw h refl

pub version_fails : (line : Line) (kind : Kind) → version_line line ≡ Err kind → entry_of [] line ≡ Err kind
unfolding entry_of version_said
version_fails line kind h = rw h refl

pub by_size : (line : Line) → entry_of (Version ∷ []) line ≡ size_said line
unfolding entry_of
by_size line = refl

pub by_total : (s a c o : ℕ) (b : List Entry) (line : Line) → entry_of (Size s a c o ∷ b) line ≡ total_said line
unfolding entry_of
by_total s a c o b line = refl

pub by_discount : (t : _) (b : List Entry) (line : Line) → entry_of (Total t ∷ b) line ≡ discount_said line
unfolding entry_of
by_discount t b line = refl

pub by_first : (p q : _) (b : List Entry) (states : ℕ) (line : Line) → (shape_in b).states ≡ states → entry_of (Discount p q ∷ b) line ≡ first_said states line
unfolding entry_of
by_first p q b states line e = ap (λ (n : ℕ). first_said n line) e
