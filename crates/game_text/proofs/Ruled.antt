-- The lines that the reader takes are those that are passed, and it stops where a line is refused.
use Rattle.std.proofs.Common.{◌≡◌, ℕ, List, [], ◌∷◌, Result, Ok, Err, refl, sym, ap, subst, ◌∙◌, arith, inl, inr, ◌⊎◌}
use Rattle.std.specs.Prelude.{◌==◌, if◌then◌else◌}
use Rattle.std.proofs.lemmas.Bool.{cases_lt}
use Rattle.text_words.specs.Lines.{Line}
use Rattle.game_text.specs.Plain.{completed, lines_of}
use Rattle.text_words.specs.Forms.{◌>>=◌}
use Rattle.game_model.specs.Game.{GameData}
use Rattle.game_text.specs.declared.fault.Kind.{Kind}
use Rattle.game_text.specs.declared.fault.Kind.TheVariants as kinds
use Rattle.game_text.specs.Fault.{number_of_kind}
use Rattle.game_text.specs.Text.{IsTextOf, IsWholeTextOf}
use Rattle.game_text.specs.Entries.{Entry, End, entry_of}
use Rattle.game_text.specs.Due.{Form, due, IsOneOf}
use Rattle.game_text.specs.Rules.{IsPassed, IsLeast}
use Rattle.game_text.specs.Reading.{ArePassed, Passes, IsUnfinished, IsLineRefused, Accepts, Refuses, RefusesAlone, RefusesText, RefusesWhole, told}
use Rattle.game_text.specs.Steps.{Say, line_at, Reads, ReadsAll, Halts, Stops, StopsWhole}
use Rattle.game_text.proofs.OneForm.{same_entry}
use Rattle.game_text.proofs.Judged.{Judged, judge}
use Rattle.game_text.proofs.Accept.{text_refused_once, whole_not_refused}
use Rattle.game_text.proofs.Decided.{decided, decided_whole}

entry_read : Entry → Result Entry Kind
entry_read e = Ok e

nothing_said : (entry : Entry) (r : Result Entry Kind) → r ≡ Err kinds.Trailing → r ≡ entry_read entry → ⊥
unfolding entry_read
nothing_said entry r p q = cc

ended_says : (before : List Entry) (line : Line) → entry_of (End ∷ before) line ≡ Err kinds.Trailing
unfolding entry_of
ended_says before line = refl

-- behind an entry that is said a line was due
said_due : (before : List Entry) (line : Line) (entry : Entry) → entry_of before line ≡ entry_read entry → IsUnfinished before
said_due [] line entry h = tt
said_due (End ∷ before) line entry h = nothing_said entry (entry_of (End ∷ before) line) (ended_says before line) h
said_due (_ ∷ before) line entry h = tt

pub form_due : (before : List Entry) (form : Form) → IsOneOf (due before) form → IsUnfinished before
form_due [] form d = tt
form_due (End ∷ before) form d = d
form_due (_ ∷ before) form d = tt

pub say_passed : (lines : List Line) (es : List Entry) → Say lines es → ArePassed lines es
unfolding entry_read
say_passed [] [] say = tt
say_passed [] (e ∷ es) say = say
say_passed (line ∷ lines) [] say = say
say_passed (line ∷ lines) (e ∷ es) say = (subst (Judged es line) say.0 (judge es line (said_due es line e say.0)), say_passed lines es say.1)

one_said : (before : List Entry) (line : Line) (entry : Entry) (r : Result Entry Kind) → Judged before line r → IsPassed before line entry → r ≡ entry_read entry
unfolding entry_read
one_said before line entry (Ok e) j p = ap entry_read (same_entry before line e entry j.0 p.0)
one_said before line entry (Err kind) j p = absurd (p.1 kind j.0)

passed_say : (lines : List Line) (es : List Entry) → ArePassed lines es → Say lines es
unfolding entry_read
passed_say [] [] p = tt
passed_say [] (e ∷ es) p = p
passed_say (line ∷ lines) [] p = p
passed_say (line ∷ lines) (e ∷ es) p =
    (one_said es line e (entry_of es line) (judge es line (form_due es p.0.0.0 p.0.0.3.0)) p.0, passed_say lines es p.1)

reads_pass : (lines : List Line) (count : ℕ) (es : List Entry) (rest : List Line) → Reads lines count es rest → Passes lines count es rest
reads_pass lines count es rest r = (r.0, r.1, r.2, say_passed r.0 es r.3)

passes_read : (lines : List Line) (count : ℕ) (es : List Entry) (rest : List Line) → Passes lines count es rest → Reads lines count es rest
passes_read lines count es rest p = (p.0, p.1, p.2, passed_say p.0 es p.3)

pub accepts_from : (lines : List Line) (count : ℕ) (es : List Entry) (rest : List Line) → ReadsAll lines count es rest → Accepts lines count es rest
accepts_from lines count es rest r = reads_pass lines count (End ∷ es) rest r

pub accepts_to : (lines : List Line) (count : ℕ) (es : List Entry) (rest : List Line) → Accepts lines count es rest → ReadsAll lines count es rest
accepts_to lines count es rest p = passes_read lines count (End ∷ es) rest p

-- ---- where the reader stops, a line is refused, and the other way round

line_with : List Line → Entry → Result (Entry × List Line) Kind
line_with rest entry = Ok (entry, rest)

kind_of : (r : Result Entry Kind) (rest : List Line) (kind : Kind) → (r >>= line_with rest) ≡ Err kind → r ≡ Err kind
unfolding line_with
kind_of (Ok e) rest kind h = absurd cc
kind_of (Err k) rest kind h = cc

missing_kind : (before : List Entry) (kind : Kind) → line_at before [] ≡ Err kind → kind ≡ kinds.Missing
unfolding line_at
missing_kind before kind h = cc

missing_line : (before : List Entry) → line_at before [] ≡ Err kinds.Missing
unfolding line_at
missing_line before = refl

line_kind : (before : List Entry) (line : Line) (rest : List Line) (kind : Kind) → line_at before (line ∷ rest) ≡ Err kind → entry_of before line ≡ Err kind
unfolding line_at line_with
line_kind before line rest kind h = kind_of (entry_of before line) rest kind h

kind_line : (before : List Entry) (line : Line) (rest : List Line) (kind : Kind) → entry_of before line ≡ Err kind → line_at before (line ∷ rest) ≡ Err kind
unfolding line_at
kind_line before line rest kind h = rw h refl

stop_refused : (before : List Entry) (rest : List Line) (kind : Kind) → IsUnfinished before → line_at before rest ≡ Err kind → IsLineRefused before rest kind
stop_refused before [] kind going h = missing_kind before kind h
stop_refused before (line ∷ rest) kind going h = subst (Judged before line) (line_kind before line rest kind h) (judge before line going)

kind_at : ℕ → Kind
kind_at n =
    if n == 1 then kinds.Version else if n == 2 then kinds.Shape else if n == 3 then kinds.Number else if n == 4 then kinds.Range
    else if n == 5 then kinds.Order else if n == 6 then kinds.Total else if n == 7 then kinds.Belief else if n == 8 then kinds.Wide
    else if n == 9 then kinds.Missing else kinds.Trailing

kind_again : (kind : Kind) → kind_at (number_of_kind kind) ≡ kind
unfolding kind_at
kind_again kinds.Version = refl
kind_again kinds.Shape = refl
kind_again kinds.Number = refl
kind_again kinds.Range = refl
kind_again kinds.Order = refl
kind_again kinds.Total = refl
kind_again kinds.Belief = refl
kind_again kinds.Wide = refl
kind_again kinds.Missing = refl
kind_again kinds.Trailing = refl

same_number : (j k : Kind) → number_of_kind j ≡ number_of_kind k → j ≡ k
same_number j k e = sym (kind_again j) ∙ ap kind_at e ∙ kind_again k

least_once : (before : List Entry) (line : Line) (j k : Kind) → IsLeast before line j → IsLeast before line k → j ≡ k
least_once before line j k a b = elim (cases_lt (number_of_kind j) (number_of_kind k)) [
  | inl lt ↦ absurd (b.1 j lt a.0)
  | inr ge ↦ elim (cases_lt (number_of_kind k) (number_of_kind j)) [
    | inl lt ↦ absurd (a.1 k lt b.0)
    | inr le ↦ same_number j k (omega (arith, ge, le))
  ]
]

abbrev refused_with : Kind → Result Entry Kind
refused_with kind = Err kind

least_found : (before : List Entry) (line : Line) (kind : Kind) (r : Result Entry Kind) → Judged before line r → IsLeast before line kind → r ≡ Err kind
least_found before line kind (Ok e) j least = absurd (j.1 kind least.0)
least_found before line kind (Err k) j least = ap refused_with (least_once before line k kind j least)

refused_stop : (before : List Entry) (rest : List Line) (kind : Kind) → IsUnfinished before → IsLineRefused before rest kind → line_at before rest ≡ Err kind
refused_stop before [] kind going h = subst (λ (k : Kind). line_at before [] ≡ Err k) (sym h) (missing_line before)
refused_stop before (line ∷ rest) kind going h = kind_line before line rest kind (least_found before line kind (entry_of before line) (judge before line going) h)

pub refuses_from : (lines : List Line) (number : ℕ) (kind : Kind) → Halts lines number kind → Refuses lines number kind
refuses_from lines number kind r = (r.0, r.1, r.2, r.3, reads_pass lines r.0 r.1 r.2 r.4, r.5, stop_refused r.1 r.2 kind r.5 r.6)

pub refuses_to : (lines : List Line) (number : ℕ) (kind : Kind) → Refuses lines number kind → Halts lines number kind
refuses_to lines number kind r = (r.0, r.1, r.2, r.3, passes_read lines r.0 r.1 r.2 r.4, r.5, refused_stop r.1 r.2 kind r.5 r.6)

pub text_from : (text : List ℕ) (number : ℕ) (kind : Kind) → Stops text number kind → RefusesText text number kind
text_from text number kind r = (r.0, refuses_from (lines_of text) r.0 kind r.1, r.2)

pub text_to : (text : List ℕ) (number : ℕ) (kind : Kind) → RefusesText text number kind → Stops text number kind
text_to text number kind r = (r.0, refuses_to (lines_of text) r.0 kind r.1, r.2)

pub whole_from : (text : List ℕ) (number : ℕ) (kind : Kind) → StopsWhole text number kind → RefusesWhole text number kind
whole_from text number kind (inl r) = inl (text_from text number kind r)
whole_from text number kind (inr r) = inr (r.0, r.1, r.2, accepts_from (lines_of text) r.0 r.1 r.2 r.3, r.4, r.5, r.6)

pub whole_to : (text : List ℕ) (number : ℕ) (kind : Kind) → RefusesWhole text number kind → StopsWhole text number kind
whole_to text number kind (inl r) = inl (text_to text number kind r)
whole_to text number kind (inr r) = inr (r.0, r.1, r.2, accepts_to (lines_of text) r.0 r.1 r.2 r.3, r.4, r.5, r.6)

-- ---- each text is one of a game, or is refused

pub answered : (text : List ℕ) → ((g : GameData) × (rest : List ℕ) × IsTextOf g text rest) ⊎ ((number : ℕ) × (kind : Kind) × RefusesText text number kind)
answered text = elim (decided text) [
  | inl t ↦ inl t
  | inr r ↦ inr (r.0, r.1, text_from text r.0 r.1 r.2)
]

-- ---- bytes that are read alone

pub answered_alone : (text : List ℕ) → ((g : GameData) × IsWholeTextOf g text) ⊎ ((number : ℕ) × (kind : Kind) × RefusesAlone text number kind)
answered_alone text = elim (decided_whole (completed text)) [
  | inl t ↦ inl (t.0, (t.1, t.2, t.3))
  | inr r ↦ inr (r.0, told text r.0 r.1, (r.1, whole_from (completed text) r.0 r.1 r.2, refl))
]

pub alone_not_refused : (text : List ℕ) (g : GameData) (number : ℕ) (kind : Kind) → IsWholeTextOf g text → RefusesAlone text number kind → ⊥
alone_not_refused text g number kind t r = whole_not_refused (completed text) t.0 g number r.0 t.1 t.2 (whole_to (completed text) number r.0 r.1)

pub alone_refused_once : (text : List ℕ) (m n : ℕ) (j k : Kind) → RefusesAlone text m j → RefusesAlone text n k → (m ≡ n) × (j ≡ k)
alone_refused_once text m n j k a b =
    let same = text_refused_once (completed text) m n a.0 b.0 (whole_to (completed text) m a.0 a.1) (whole_to (completed text) n b.0 b.1) in
    (same.0, a.2 ∙ ap (λ (number : ℕ). told text number a.0) same.0 ∙ ap (told text n) same.1 ∙ sym b.2)
