-- The lines that the reader takes are those that are passed, and it stops where a line is refused: each text is
-- accepted or refused.
use Rattle.std.proofs.Common.{◌≡◌, ◌≢◌, ℕ, ◌+◌, ◌<◌, List, [], ◌∷◌, ◌++◌, length, Result, Ok, Err, refl, sym, ap, subst, ◌∙◌, arith, inl, inr, ◌⊎◌}
use Rattle.text_words.specs.Lines.{Line, lines_of, after_lines}
use Rattle.text_words.specs.Forms.{◌>>=◌}
use Rattle.text_words.proofs.Whole.{lines_of-front}
use Rattle.game_model.specs.Game.{GameData, IsGame}
use Rattle.controller.specs.Certificates.{CertificateData}
use Rattle.cert_text.specs.declared.fault.CertKind.{CertKind}
use Rattle.cert_text.specs.declared.fault.CertKind.TheVariants as kinds
use Rattle.cert_text.specs.declared.progress.Latest.{Latest}
use Rattle.cert_text.specs.declared.progress.Latest.TheVariants as latest
use Rattle.cert_text.specs.declared.progress.Progress.{Progress}
use Rattle.cert_text.specs.Answers.{IsTextFor}
use Rattle.cert_text.specs.Made.{certificate_of}
use Rattle.cert_text.specs.Entries.{Entry, End, entry_of, entry_after, behind, start_of}
use Rattle.cert_text.specs.Rules.{IsPassed}
use Rattle.cert_text.specs.Reading.{ArePassed, onto, AreEnded, Passes, IsLineRefused, AcceptsCert, RefusesCert}
use Rattle.cert_text.specs.Steps.{Say, line_at, Reads, IsUnfinished, Refuses, Accepts, AcceptsAll, RefusesAll}
use Rattle.cert_text.proofs.Reading.{reads_none, reads_more, line_at-said}
use Rattle.cert_text.proofs.LawAccept.{say_long, lines_are_texts}
use Rattle.cert_text.proofs.LawOnce.{ended_none}
use Rattle.cert_text.proofs.OneForm.{same_entry}
use Rattle.cert_text.proofs.Seen.{latest_in, progress_in, progress_next, progress_behind, Kept, kept_first, kept_next}
use Rattle.cert_text.proofs.Judged.{Judged}
use Rattle.cert_text.proofs.Found.{judge}

-- ---- the end

ended_from : (before : List Entry) → latest_in before ≡ latest.End → AreEnded before
ended_from [] e = absurd cc
ended_from (End ∷ before) e = tt
ended_from (_ ∷ before) e = absurd cc

ended_to : (before : List Entry) → AreEnded before → latest_in before ≡ latest.End
ended_to [] h = absurd h
ended_to (End ∷ before) h = refl
ended_to (_ ∷ before) h = absurd h

entry_read : Entry → Result Entry CertKind
entry_read e = Ok e

nothing_said : (entry : Entry) (r : Result Entry CertKind) → r ≡ Err kinds.Trailing → r ≡ entry_read entry → ⊥
unfolding entry_read
nothing_said entry r p q = cc

said_open : (g : GameData) (before : List Entry) (line : Line) (entry : Entry) → entry_of (progress_in g before) line ≡ entry_read entry → AreEnded before → ⊥
unfolding entry_after
said_open g before line entry h ended = nothing_said entry (entry_after (progress_in g before) latest.End line) refl (ap (λ (l : Latest). entry_after (progress_in g before) l line) (sym (ended_to before ended)) ∙ h)

-- ---- lines that are said are passed, and the other way round

say_passed : (g : GameData) (before : List Entry) (lines : List Line) (es : List Entry) → IsGame g → Kept g before → Say (progress_in g before) lines es → ArePassed g before lines es
unfolding entry_read
say_passed g before [] [] game k say = tt
say_passed g before [] (e ∷ es) game k say = say
say_passed g before (line ∷ lines) [] game k say = say
say_passed g before (line ∷ lines) (e ∷ es) game k say = (
  subst (Judged g before line) (say.0) (judge g before line game k (said_open g before line e say.0)),
  say_passed g (e ∷ before) lines es game (kept_next g before line e game k say.0) (subst (λ (p : Progress). Say p lines es) (progress_next g before e) say.1),
)

one_said : (g : GameData) (before : List Entry) (line : Line) (entry : Entry) (r : Result Entry CertKind) → Judged g before line r → IsPassed g before line entry → r ≡ entry_read entry
unfolding entry_read
one_said g before line entry (Ok e) j p = ap entry_read (same_entry g before line e entry j.0 p.0)
one_said g before line entry (Err kind) j p = absurd (p.1 kind j.0)

passed_say : (g : GameData) (before : List Entry) (lines : List Line) (es : List Entry) → IsGame g → Kept g before → ArePassed g before lines es → Say (progress_in g before) lines es
unfolding entry_read
passed_say g before [] [] game k p = tt
passed_say g before [] (e ∷ es) game k p = p
passed_say g before (line ∷ lines) [] game k p = p
passed_say g before (line ∷ lines) (e ∷ es) game k p =
    let going : AreEnded before → ⊥ = λ ended. ended_none g before p.0.0.0 ended p.0.0.3.0 in
    let h = one_said g before line e (entry_of (progress_in g before) line) (judge g before line game k going) p.0 in
    (h, subst (λ (q : Progress). Say q lines es) (sym (progress_next g before e)) (passed_say g (e ∷ before) lines es game (kept_next g before line e game k h) p.1))

kept_behind : (g : GameData) (before : List Entry) (lines : List Line) (es : List Entry) → IsGame g → Kept g before → Say (progress_in g before) lines es → Kept g (onto before es)
kept_behind g before [] [] game k say = k
kept_behind g before [] (e ∷ es) game k say = absurd say
kept_behind g before (line ∷ lines) [] game k say = absurd say
kept_behind g before (line ∷ lines) (e ∷ es) game k say =
    kept_behind g (e ∷ before) lines es game (kept_next g before line e game k say.0) (subst (λ (p : Progress). Say p lines es) (progress_next g before e) say.1)

reads_pass : (g : GameData) (lines : List Line) (es : List Entry) (rest : List Line) → IsGame g → Reads (start_of g) lines es rest → Passes g lines es rest
reads_pass g lines es rest game r = (r.0, r.1, say_passed g [] r.0 es game (kept_first g) r.2)

passes_read : (g : GameData) (lines : List Line) (es : List Entry) (rest : List Line) → IsGame g → Passes g lines es rest → Reads (start_of g) lines es rest
passes_read g lines es rest game p = (p.0, p.1, passed_say g [] p.0 es game (kept_first g) p.2)

latest_behind : (g : GameData) (es : List Entry) → (behind (start_of g) es).latest ≡ latest_in (onto [] es)
latest_behind g es = ap (λ (p : Progress). p.latest) (progress_behind g [] es)

pub accepts_from : (g : GameData) (bytes : List ℕ) (es : List Entry) → IsGame g → AcceptsAll g bytes es → AcceptsCert g bytes es
accepts_from g bytes es game a =
    (reads_pass g (lines_of bytes) es [] game a.0.0, ended_from (onto [] es) (sym (latest_behind g es) ∙ a.0.1), a.1)

pub accepts_to : (g : GameData) (bytes : List ℕ) (es : List Entry) → IsGame g → AcceptsCert g bytes es → AcceptsAll g bytes es
accepts_to g bytes es game a =
    ((passes_read g (lines_of bytes) es [] game a.0, latest_behind g es ∙ ended_to (onto [] es) a.1), a.2)

-- ---- where the reader stops, a line is refused

line_with : List Line → Entry → Result (Entry × List Line) CertKind
line_with rest entry = Ok (entry, rest)

kind_of : (r : Result Entry CertKind) (rest : List Line) (kind : CertKind) → (r >>= line_with rest) ≡ Err kind → r ≡ Err kind
unfolding line_with
kind_of (Ok e) rest kind h = absurd cc
kind_of (Err k) rest kind h = cc

missing_kind : (g : GameData) (before : List Entry) (kind : CertKind) → line_at (progress_in g before) [] ≡ Err kind → kind ≡ kinds.Missing
unfolding line_at
missing_kind g before kind h = cc

line_kind : (g : GameData) (before : List Entry) (line : Line) (rest : List Line) (kind : CertKind) → line_at (progress_in g before) (line ∷ rest) ≡ Err kind → entry_of (progress_in g before) line ≡ Err kind
unfolding line_at line_with
line_kind g before line rest kind h = kind_of (entry_of (progress_in g before) line) rest kind h

stop_refused : (g : GameData) (before : List Entry) (rest : List Line) (kind : CertKind) → IsGame g → Kept g before → (AreEnded before → ⊥) → line_at (progress_in g before) rest ≡ Err kind → IsLineRefused g before rest kind
stop_refused g before [] kind game k going h = missing_kind g before kind h
stop_refused g before (line ∷ rest) kind game k going h = subst (Judged g before line) (line_kind g before line rest kind h) (judge g before line game k going)

pub refuses_from : (g : GameData) (bytes : List ℕ) (number : ℕ) (kind : CertKind) → IsGame g → RefusesAll g bytes number kind → RefusesCert g bytes number kind
refuses_from g bytes number kind game (inl r) =
    let going : AreEnded (onto [] r.0) → ⊥ = λ ended. r.4 (latest_behind g r.0 ∙ ended_to (onto [] r.0) ended) in
    let kept = kept_behind g [] r.3.0 r.0 game (kept_first g) r.3.2 in
    inl (r.0, r.1, r.2, reads_pass g (lines_of bytes) r.0 r.1 game r.3, going, stop_refused g (onto [] r.0) r.1 kind game kept going (subst (λ (p : Progress). line_at p r.1 ≡ Err kind) (progress_behind g [] r.0) r.5))
refuses_from g bytes number kind game (inr r) =
    inr (r.0, r.1, reads_pass g (lines_of bytes) r.0 r.1 game r.2.0, ended_from (onto [] r.0) (sym (latest_behind g r.0) ∙ r.2.1), r.3, r.4, r.5)

-- ---- each text is accepted or refused

abbrev Accepted : Progress → List Line → Type 0
Accepted progress lines = (entries : List Entry) × (rest : List Line) × Accepts progress lines entries rest

abbrev Refused : Progress → List Line → Type 0
Refused progress lines = (number : ℕ) × (kind : CertKind) × Refuses progress lines number kind

abbrev IsGoing : Latest → Type 0
IsGoing latest.End = ⊥
IsGoing _ = Unit {0}

not_ended : (l : Latest) → IsGoing l → l ≢ latest.End
not_ended l going e = subst IsGoing e going

ended_or_not : (l : Latest) → (l ≡ latest.End) ⊎ (l ≢ latest.End)
ended_or_not latest.End = inl refl
ended_or_not l = inr (not_ended l tt)

no_line : (progress : Progress) → line_at progress [] ≡ Err kinds.Missing
unfolding line_at
no_line progress = refl

line_fails : (progress : Progress) (line : Line) (rest : List Line) (kind : CertKind) → entry_of progress line ≡ Err kind → line_at progress (line ∷ rest) ≡ Err kind
unfolding line_at
line_fails progress line rest kind e = rw e refl

refused_at : (progress : Progress) (lines : List Line) (entries : List Entry) (rest : List Line) (kind : CertKind) → Reads progress lines entries rest → IsUnfinished (behind progress entries) → line_at (behind progress entries) rest ≡ Err kind → Refused progress lines
refused_at progress lines entries rest kind reads due e = (length entries + 1, kind, (entries, rest, refl, reads, due, e))

-- the next line is refused, or the reading goes on
goes : (progress : Progress) (lines : List Line) (line : Line) (rest : List Line) (entries : List Entry) → Reads progress lines entries (line ∷ rest) → IsUnfinished (behind progress entries)
    → ((entry : Entry) → Reads progress lines (entries ++ entry ∷ []) rest → Accepted progress lines ⊎ Refused progress lines) → (r : Result Entry CertKind) → entry_of (behind progress entries) line ≡ r
    → Accepted progress lines ⊎ Refused progress lines
goes progress lines line rest entries reads due next (Ok entry) e = next entry (reads_more progress lines entries (line ∷ rest) rest entry reads (line_at-said (behind progress entries) line rest entry e))
goes progress lines line rest entries reads due next (Err kind) e = inr (refused_at progress lines entries (line ∷ rest) kind reads due (line_fails (behind progress entries) line rest kind e))

decided_from : (progress : Progress) (lines rest : List Line) (entries : List Entry) → Reads progress lines entries rest → Accepted progress lines ⊎ Refused progress lines
decided_from progress lines [] entries reads = elim (ended_or_not (behind progress entries).latest) [
  | inl e ↦ inl (entries, [], (reads, e))
  | inr due ↦ inr (refused_at progress lines entries [] kinds.Missing reads due (no_line (behind progress entries)))
]
decided_from progress lines (line ∷ rest) entries reads = elim (ended_or_not (behind progress entries).latest) [
  | inl e ↦ inl (entries, line ∷ rest, (reads, e))
  | inr due ↦ goes progress lines line rest entries reads due (λ entry more. decided_from progress lines rest (entries ++ entry ∷ []) more) (entry_of (behind progress entries) line) refl
]

no_lines : lines_of [] ≡ []
unfolding lines_of
no_lines = refl

-- the lines behind the `end` line are those of the bytes behind it
rest_is : (g : GameData) (bytes : List ℕ) (a : Accepted (start_of g) (lines_of bytes)) → lines_of (after_lines (length a.0) bytes) ≡ a.1
rest_is g bytes a =
    let p = lines_of-front bytes a.2.0.0 a.1 a.2.0.1 in
    ap (λ (n : ℕ). lines_of (after_lines n bytes)) (sym (say_long (start_of g) a.2.0.0 a.0 a.2.0.2)) ∙ p.1

abbrev Answer : GameData → List ℕ → Type 0
Answer g bytes = ((k : CertificateData) × IsTextFor g k bytes) ⊎ ((number : ℕ) × (kind : CertKind) × RefusesCert g bytes number kind)

whole : (g : GameData) (bytes : List ℕ) (a : Accepted (start_of g) (lines_of bytes)) (left : List ℕ) → IsGame g → left ≡ after_lines (length a.0) bytes → Answer g bytes
whole g bytes a [] game e =
    let none : a.1 ≡ [] = sym (rest_is g bytes a) ∙ ap lines_of (sym e) ∙ no_lines in
    let all : AcceptsAll g bytes a.0 = (subst (λ (ls : List Line). Accepts (start_of g) (lines_of bytes) a.0 ls) none a.2, sym e) in
    inl (certificate_of g a.0, lines_are_texts g bytes a.0 game all)
whole g bytes a (byte ∷ left) game e =
    let some : 0 < length (after_lines (length a.0) bytes) = omega (arith, ap length e) in
    inr (length a.0 + 1, kinds.Trailing, refuses_from g bytes (length a.0 + 1) kinds.Trailing game (inr (a.0, a.1, a.2, some, refl, refl)))

pub decided : (g : GameData) (bytes : List ℕ) → IsGame g → Answer g bytes
decided g bytes game = elim (decided_from (start_of g) (lines_of bytes) (lines_of bytes) [] (reads_none (start_of g) (lines_of bytes))) [
  | inl a ↦ whole g bytes a (after_lines (length a.0) bytes) game refl
  | inr r ↦ inr (r.0, r.1, refuses_from g bytes r.0 r.1 game (inl r.2))
]
