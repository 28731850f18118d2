-- A text that is cut short: its whole lines are passed, and the line in which it ends is missing.
use Rattle.std.proofs.Common.{◌≡◌, ℕ, ◌+◌, ◌<◌, Bool, true, false, eqb, List, [], ◌∷◌, ◌++◌, length, take, drop, map, refl, sym, ap, ◌∙◌, subst, arith, inl, append_assoc, append-nil}
use Rattle.std.specs.Prelude.{codes, count_by}
use Rattle.std.specs.List.{filter, join_with_byte, onto_first, slice_split}
use Rattle.std.proofs.lemmas.List.{length-append, length-drop, length-map, map-append, take-append-drop}
use Rattle.std.proofs.lemmas.List.Elements.{filter-append}
use Rattle.std.proofs.lemmas.List.Sums.{length-filter}
use Rattle.std.proofs.lemmas.List.Splits.{slice_split-cons_yes, slice_split-cons_no, length-slice_split}
use Rattle.text_words.specs.Lines.{Line, ended, lines_of, words_of}
use Rattle.game_model.specs.Game.{GameData, IsGame}
use Rattle.controller.specs.Certificates.{CertificateData}
use Rattle.cert_text.specs.declared.fault.CertKind.TheVariants as kinds
use Rattle.cert_text.specs.Answers.{IsTextFor}
use Rattle.cert_text.specs.Cuts.{IsCutShort, IsSomeText}
use Rattle.cert_text.specs.Entries.{Entry}
use Rattle.cert_text.specs.Reading.{AreEnded, ArePassed, onto}
use Rattle.cert_text.specs.Text.{certificate_text, head_text, nodes_text, points_text}
use Rattle.cert_text.proofs.LawOnce.{ended_none}
use Rattle.cert_text.proofs.LawRead.{texts_are_read}

abbrev is_feed : ℕ → Bool
is_feed b = eqb b 10

-- ---- the whole lines of a front are the first ones

abbrev Goes : List (List ℕ) → List (List ℕ) → Type 0
Goes some all = (more : List (List ℕ)) × (ended all ≡ ended some ++ more)

longer : (b : ℕ) (some all : List (List ℕ)) → Goes some all → Goes (onto_first b some) (onto_first b all)
longer b [] all g = (ended (onto_first b all), refl)
longer b (s ∷ []) all g = (ended (onto_first b all), refl)
longer b (s ∷ t ∷ some) [] g = absurd cc
longer b (s ∷ t ∷ some) (a ∷ []) g = absurd cc
longer b (s ∷ t ∷ some) (a ∷ c ∷ all) g =
    let head : a ≡ s = cc in
    let tail : ended (c ∷ all) ≡ ended (t ∷ some) ++ g.0 = cc in
    (g.0, ap (λ (x : List ℕ). (b ∷ x) ∷ ended (c ∷ all)) head ∙ ap (λ (xs : List (List ℕ)). (b ∷ s) ∷ xs) tail)

ended_more : (piece : List ℕ) (pieces : List (List ℕ)) → 0 < length pieces → ended (piece ∷ pieces) ≡ piece ∷ ended pieces
ended_more piece [] lt = absurd (omega arith)
ended_more piece (next ∷ pieces) lt = refl

some_pieces : (text : List ℕ) → 0 < length (slice_split is_feed text)
some_pieces text = omega (arith, length-slice_split is_feed text)

more_pieces : (b : ℕ) (x y : List ℕ) (is : Bool) → is_feed b ≡ is → Goes (slice_split is_feed x) (slice_split is_feed (x ++ y)) → Goes (slice_split is_feed (b ∷ x)) (slice_split is_feed (b ∷ (x ++ y)))
more_pieces b x y true e g = (
  g.0,
  ap ended (slice_split-cons_yes is_feed b (x ++ y) e)
      ∙ ended_more [] (slice_split is_feed (x ++ y)) (some_pieces (x ++ y))
      ∙ ap (λ (xs : List (List ℕ)). [] ∷ xs) g.1
      ∙ ap (λ (xs : List (List ℕ)). xs ++ g.0) (sym (ended_more [] (slice_split is_feed x) (some_pieces x)) ∙ ap ended (sym (slice_split-cons_yes is_feed b x e))),
)
more_pieces b x y false e g =
    let l = longer b (slice_split is_feed x) (slice_split is_feed (x ++ y)) g in
    (l.0, ap ended (slice_split-cons_no is_feed b (x ++ y) e) ∙ l.1 ∙ ap (λ (xs : List (List ℕ)). ended xs ++ l.0) (sym (slice_split-cons_no is_feed b x e)))

front_pieces : (x y : List ℕ) → Goes (slice_split is_feed x) (slice_split is_feed (x ++ y))
front_pieces [] y = (ended (slice_split is_feed y), refl)
front_pieces (b ∷ x) y = more_pieces b x y (is_feed b) refl (front_pieces x y)

length-ended : (pieces : List (List ℕ)) → 0 < length pieces → length (ended pieces) + 1 ≡ length pieces
length-ended [] lt = absurd (omega arith)
length-ended (piece ∷ []) lt = refl
length-ended (piece ∷ next ∷ pieces) lt = omega (arith, length-ended (next ∷ pieces) (omega arith))

-- as many whole lines as line feeds
line_count : (text : List ℕ) → length (lines_of text) ≡ count_by is_feed text
unfolding lines_of
line_count text =
    omega (arith, length-map (ended (slice_split is_feed text)) words_of, length-ended (slice_split is_feed text) (some_pieces text), length-slice_split is_feed text)

front_lines : (x y : List ℕ) → (more : List Line) × (lines_of (x ++ y) ≡ lines_of x ++ more)
unfolding lines_of
front_lines x y =
    let g = front_pieces x y in
    (map words_of g.0, ap (map words_of) g.1 ∙ map-append words_of (ended (slice_split is_feed x)) g.0)

-- ---- what is cut off has the last line feed

counts : (xs ys : List ℕ) → count_by is_feed (xs ++ ys) ≡ count_by is_feed xs + count_by is_feed ys
counts xs ys = omega (
  arith,
  length-filter is_feed (xs ++ ys),
  length-filter is_feed xs,
  length-filter is_feed ys,
  ap length (filter-append is_feed xs ys),
  length-append (filter is_feed xs) (filter is_feed ys),
)

feed_counts : count_by is_feed (10 ∷ []) ≡ 1
feed_counts = refl

ends_in_feed : (xs ys zs : List ℕ) → xs ++ ys ≡ zs ++ 10 ∷ [] → 0 < length ys → 0 < count_by is_feed ys
ends_in_feed [] ys zs e some = omega (arith, ap (count_by is_feed) e, counts zs (10 ∷ []), feed_counts)
ends_in_feed (x ∷ xs) ys [] e some = absurd (omega (arith, ap length e, length-append (x ∷ xs) ys, some))
ends_in_feed (x ∷ xs) ys (z ∷ zs) e some = ends_in_feed xs ys zs (let p : xs ++ ys ≡ zs ++ 10 ∷ [] = cc in p) some

-- the text without its last line feed
but_last : (k : CertificateData) → (zs : List ℕ) × (certificate_text k ≡ zs ++ 10 ∷ [])
but_last k =
    let word = join_with_byte 32 (codes "end" ∷ []) in
    let front = points_text k.points ++ word in (
      head_text k ++ (nodes_text k.nodes ++ front),
      ap (λ (t : List ℕ). head_text k ++ (nodes_text k.nodes ++ t)) (sym (append_assoc (points_text k.points) word (10 ∷ [])))
          ∙ ap (λ (t : List ℕ). head_text k ++ t) (sym (append_assoc (nodes_text k.nodes) front (10 ∷ [])))
          ∙ sym (append_assoc (head_text k) (nodes_text k.nodes ++ front) (10 ∷ [])),
    )

-- ---- what is passed by parts

abbrev Parted : GameData → List Entry → List Line → List Line → List Entry → Type 0
Parted g before xs ys es = (front : List Entry) × (back : List Entry) × (es ≡ front ++ back) × ArePassed g before xs front × ArePassed g (onto before front) ys back × (length front ≡ length xs)

parted : (g : GameData) (before : List Entry) (xs ys : List Line) (es : List Entry) → ArePassed g before (xs ++ ys) es → Parted g before xs ys es
parted g before [] ys es p = ([], es, refl, tt, p, refl)
parted g before (x ∷ xs) ys [] p = absurd p
parted g before (x ∷ xs) ys (e ∷ es) p =
    let q = parted g (e ∷ before) xs ys es p.1 in
    (e ∷ q.0, q.1, ap (λ (zs : List Entry). e ∷ zs) q.2, (p.0, q.3), q.4, omega (arith, q.5))

-- where a line is passed the text is not ended
going : (g : GameData) (before : List Entry) (ys : List Line) (bs : List Entry) → 0 < length ys → ArePassed g before ys bs → AreEnded before → ⊥
going g before [] bs some p ended = absurd (omega arith)
going g before (y ∷ ys) [] some p ended = p
going g before (y ∷ ys) (b ∷ bs) some p ended = ended_none g before p.0.0.0 ended p.0.0.3.0

-- ---- the law

cut_at : (g : GameData) (x y : List ℕ) → IsGame g → (k : CertificateData) → IsTextFor g k (x ++ y) → 0 < length y → IsCutShort g x
cut_at g x y game k text some =
    let read = texts_are_read g (x ++ y) k game text in
    let passed = read.1.0 in
    let lines = front_lines x y in
    let front : passed.0 ≡ lines_of x ++ lines.0 = sym (append-nil passed.0) ∙ sym passed.1 ∙ lines.1 in
    let parts = parted g [] (lines_of x) lines.0 read.0 (subst (λ (ls : List Line). ArePassed g [] ls read.0) front passed.2) in
    let zs = but_last k in
    let feeds = ends_in_feed x y zs.0 (text.1 ∙ zs.1) some in
    let more : 0 < length lines.0 =
    omega (arith, ap length lines.1, length-append (lines_of x) lines.0, line_count (x ++ y), line_count x, counts x y, feeds) in
    inl (
      parts.0,
      [],
      omega (arith, parts.5, line_count x),
      (lines_of x, sym (append-nil (lines_of x)), parts.3),
      going g (onto [] parts.0) lines.0 parts.1 more parts.4,
      refl,
    )

pub cut_short : (g : GameData) (bytes : List ℕ) (at : ℕ) → IsGame g → IsSomeText g bytes → at < length bytes → IsCutShort g (take at bytes)
cut_short g bytes at game text lt =
    cut_at g (take at bytes) (drop at bytes) game text.0
    (subst (λ (t : List ℕ). IsTextFor g text.0 t) (sym (take-append-drop at bytes)) text.1) (omega (arith, length-drop at bytes, lt))
