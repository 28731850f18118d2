-- What is due, from what was read and answered.
use Rattle.std.proofs.Common.{◌≡◌, ℕ, ◌<◌, ◌≤◌, List, [], length, Option, Some, None, Result, Ok, Err, refl, sym, ap, ◌∙◌, subst, inl, inr}
use Rattle.std.proofs.lemmas.Option.{none-some}
use Rattle.std.proofs.lemmas.List.{append-nil}
use Rattle.std.specs.Option.{option_map}
use Rattle.std.specs.Result.{MatchResult, IfOk, IsErrAnd}
use Rattle.std.specs.Prelude.{false, IfSome, ⊤}
use Rattle.hsvi_io.specs.Bytes.{GaveAll, Wrote}
use Rattle.osposg_cli.specs.declared.status.Status.{Status}
use Rattle.osposg_cli.specs.declared.status.Status.TheVariants.{Done, No, Open, GameRefused, CertRefused, WordsRefused, ReadFault, WriteFault, OutOfMemory, TooLong}
use Rattle.osposg_cli.specs.declared.words.Command.{Command}
use Rattle.osposg_cli.specs.declared.words.Command.TheVariants.{Check, Close, Floor, Gen, Show, Simulate, Solve, Summary}
use Rattle.osposg_cli.specs.declared.words.Gap.{Gap}
use Rattle.osposg_cli.specs.Close.{AnswersClose, ClosePromises, KeepsClose}
use Rattle.osposg_cli.specs.Solve.{AnswersSolve, KeepsSolve, MakesCertificate, SolvePromises}
use Rattle.osposg_cli.specs.Generate.{GenPromises, KeepsGen}
use Rattle.osposg_cli.specs.Summary.{AnswersSummary, KeepsSummary, SummaryPromises}
use Rattle.osposg_cli.specs.Words.{IsWithinLimits, gap_data, reads_input}
use Rattle.osposg_cli.specs.Answer.{Answers, AsksNoSearch, Ends, InputsAreAnswered, IsDue, IsEarly, IsGiven, IsInput, IsWork, ReadsInput, WorkIsDefined, WroteOne}
use Rattle.osposg_cli.specs.Defined.{HasText, IsAnswered}
use Rattle.osposg_cli.specs.Inputs.{most_input}
use Rattle.osposg_cli.specs.Refusals.{words_refused}
use Rattle.osposg_cli.proofs.Answered.{too_long_not}

-- `map_err` keeps what is true of an `Ok`
pub kept : {A E F : Type 0} (r : Result A E) (s : Result A F) (P : A → Type 0) (Q : E → F → Type 0) → MatchResult r (λ x. s ≡ Ok x) (λ e. IsErrAnd s (Q e)) → IfOk r P → IfOk s P
kept {A} {E} {F} (Ok x) s P Q h p = subst (λ (t : Result A F). IfOk t P) (sym h) p
kept (Err e) (Ok y) P Q h p = absurd h
kept (Err e) (Err f) P Q h p = tt

-- ---- what is due
-- some input that agrees with what the source tells
some_input : (left : Option (List ℕ)) → (input : List ℕ) × IsInput left input
some_input None = ([], tt)
some_input (Some left) = (left, refl)

pub due_refused : (command : Option Command) (left : Option (List ℕ)) (status : Status) (text : List ℕ) → command ≡ None → status ≡ WordsRefused → text ≡ words_refused → IsDue command left status text
due_refused command left status text none e t =
    let found = some_input left in
    (found.0, found.1, subst (λ (c : Option Command). Answers c found.0 status text) (sym none) (e, t), subst HasText (sym e) tt)

given : (left new : Option (List ℕ)) (bytes : List ℕ) → GaveAll left new bytes → IsInput left bytes
given None new bytes gave = tt
given (Some left) new bytes gave = gave.0

pub due_work : WorkIsDefined → (named : Option Command) (left new : Option (List ℕ)) (command : Command) (bytes : List ℕ) (status : Status) (text : List ℕ) →
    named ≡ Some command → GaveAll left new bytes → length bytes ≤ most_input → IsWork command bytes status text → IsDue named left status text
due_work work named left new command bytes status text e gave few h =
    (bytes, given left new bytes gave, subst (λ (c : Option Command). Answers c bytes status text) (sym e) (inr (λ reads. few, h)), work.told command bytes status text h)

-- a command that reads no input answers the same to every input
work_any : (command : Command) → reads_input command ≡ false → (input other : List ℕ) (status : Status) (text : List ℕ) → IsWork command input status text → IsWork command other status text
work_any Floor e input other status text h = absurd cc
work_any (Solve trials gap) e input other status text h = absurd cc
work_any Check e input other status text h = absurd cc
work_any (Close rounds gap) e input other status text h = absurd cc
work_any (Simulate seed stages rival) e input other status text h = absurd cc
work_any Show e input other status text h = absurd cc
work_any (Gen number size) e input other status text h = h
work_any (Summary number size trials gap) e input other status text h = h

unread_not : (command : Command) → reads_input command ≡ false → ReadsInput (Some command) → ⊥
unread_not command e reads = let both = sym e ∙ reads in cc

pub due_unread : WorkIsDefined → (named : Option Command) (left : Option (List ℕ)) (command : Command) (bytes : List ℕ) (status : Status) (text : List ℕ) →
    named ≡ Some command → reads_input command ≡ false → IsWork command bytes status text → IsDue named left status text
due_unread work named left command bytes status text e not h =
    let found = some_input left in
    let same = work_any command not bytes found.0 status text h in
    (found.0, found.1, subst (λ (c : Option Command). Answers c found.0 status text) (sym e) (inr (λ reads. absurd (unread_not command not reads), same)), work.told command found.0 status text same)

-- a text that is due was written whole
pub ends_whole : (command : Option Command) (left new : Option (List ℕ)) (room : ℕ) (old written : Option (List ℕ)) (status : Status) (text : List ℕ) →
    IsDue command left status text → Wrote room old written text → Ends command left new room old written status
ends_whole command left new room old written Done text due wrote = (text, due, wrote)
ends_whole command left new room old written No text due wrote = (text, due, wrote)
ends_whole command left new room old written Open text due wrote = (text, due, wrote)
ends_whole command left new room old written GameRefused text due wrote = (text, due, wrote)
ends_whole command left new room old written CertRefused text due wrote = (text, due, wrote)
ends_whole command left new room old written WordsRefused text due wrote = (text, due, wrote)
ends_whole command left new room old written ReadFault text due wrote = absurd due.3
ends_whole command left new room old written WriteFault text due wrote = absurd due.3
ends_whole command left new room old written OutOfMemory text due wrote = absurd due.3
ends_whole command left new room old written TooLong text due wrote = absurd due.3

abbrev inside : Option (List ℕ) → List ℕ
inside None = []
inside (Some bytes) = bytes

-- the answer that is due, as that to the input that the source tells
due_to : (command : Option Command) (left : Option (List ℕ)) (bytes : List ℕ) (status : Status) (text : List ℕ) → left ≡ Some bytes → IsDue command left status text → Answers command bytes status text
due_to command None bytes status text e due = absurd (none-some bytes e)
due_to command (Some left) bytes status text e due =
    let input : due.0 ≡ bytes = sym due.1 ∙ ap inside e in
    subst (λ (input : List ℕ). Answers command input status text) input due.2

-- ---- completeness
-- what is due was written whole
pub complete_whole : (command : Option Command) (left : Option (List ℕ)) (room : ℕ) (old written : Option (List ℕ)) (status : Status) (text : List ℕ) (calm still : Type 0) →
    IsDue command left status text → Wrote room old written text → IfSome left (λ bytes. calm → still → IsGiven command bytes room old written status)
complete_whole command None room old written status text calm still due wrote = tt
complete_whole command (Some left) room old written status text calm still due wrote =
    λ quiet well. inl (text, due_to command (Some left) left status text refl due, wrote)

wrote_nothing : (room : ℕ) (old : Option (List ℕ)) → Wrote room old old []
wrote_nothing room None = tt
wrote_nothing room (Some before) = sym (append-nil before)

-- `TooLong` answers an input that is too long
long_answer : (command : Option Command) (bytes : List ℕ) → ReadsInput command → most_input < length bytes → Answers command bytes TooLong []
long_answer None bytes reads long = absurd reads
long_answer (Some command) bytes reads long = inl (reads, long, refl, refl)

-- an early end, where the source did not fail
given_early : (command : Option Command) (left : List ℕ) (new : Option (List ℕ)) (room : ℕ) (old : Option (List ℕ)) (status : Status) →
    IsEarly command (Some left) new status → (status ≡ ReadFault → ⊥) → IsGiven command left room old old status
given_early command left new room old OutOfMemory early fault = inr (refl, refl)
given_early command left new room old ReadFault early fault = absurd (fault refl)
given_early command left new room old TooLong (reads, gave) fault = inl ([], long_answer command left reads gave.0, wrote_nothing room old)
given_early command left new room old Done early fault = absurd early
given_early command left new room old No early fault = absurd early
given_early command left new room old Open early fault = absurd early
given_early command left new room old GameRefused early fault = absurd early
given_early command left new room old CertRefused early fault = absurd early
given_early command left new room old WordsRefused early fault = absurd early
given_early command left new room old WriteFault early fault = absurd early

pub complete_early : (command : Option Command) (left new : Option (List ℕ)) (room : ℕ) (old : Option (List ℕ)) (status : Status) (calm still : Type 0) →
    IsEarly command left new status → (calm → status ≡ ReadFault → ⊥) → IfSome left (λ bytes. calm → still → IsGiven command bytes room old old status)
complete_early command None new room old status calm still early fault = tt
complete_early command (Some left) new room old status calm still early fault = λ quiet well. given_early command left new room old status early (fault quiet)

-- an early end makes no certificate
pub early_none : (command : Option Command) (left new : Option (List ℕ)) (status : Status) → IsEarly command left new status → MakesCertificate status → ⊥
early_none command left new status early (inl e) = subst (IsEarly command left new) e early
early_none command left new status early (inr e) = subst (IsEarly command left new) e early

-- without a search every input has an answer
pub answered_some : InputsAreAnswered → (command : Option Command) (left : Option (List ℕ)) → AsksNoSearch command → IfSome left (λ bytes. IsAnswered (Answers command bytes))
answered_some some command None none = tt
answered_some some command (Some left) none = some command none left

-- ---- what Done promises
abbrev is_done : Status → Type 0
is_done Done = ⊤
is_done status = ⊥

work_done : (command : Command) (input text : List ℕ) → Answers (Some command) input Done text → IsWork command input Done text
work_done command input text (inl (reads, l, s, t)) = absurd (subst is_done s tt)
work_done command input text (inr (few, h)) = h

-- what a command's text promises holds of what was written
pub promised : (P : List ℕ → List ℕ → Type 0) (command : Command) → ((input text : List ℕ) → IsWork command input Done text → P input text) →
    (named : Option Command) (left : Option (List ℕ)) (room : ℕ) (old written : Option (List ℕ)) (status : Status) (text : List ℕ) →
    IsDue named left status text → Wrote room old written text → status ≡ Done → named ≡ Some command → IfSome left (λ input. WroteOne (P input) room old written)
promised P command holds named None room old written status text due wrote done e = tt
promised P command holds named (Some left) room old written status text due wrote done e =
    let is = due_to named (Some left) left status text refl due in
    let answer = subst (λ (c : Option Command). Answers c left Done text) e (subst (λ (s : Status). Answers named left s text) done is) in
    (text, holds left text (work_done command left text answer), wrote)

-- what the certificate of `solve` promises holds of what was written
solve_work : (trials : ℕ) (gap : Gap) (input text : List ℕ) (status : Status) → Answers (Some (Solve trials gap)) input status text → MakesCertificate status → AnswersSolve trials (gap_data gap) input status text
solve_work trials gap input text status (inl (reads, l, s, t)) made = absurd (too_long_not status s made)
solve_work trials gap input text status (inr (few, h)) made = h

pub promised_solve : KeepsSolve → (trials : ℕ) (gap : Gap) (named : Option Command) (left : Option (List ℕ)) (room : ℕ) (old written : Option (List ℕ)) (status : Status) (text : List ℕ) →
    IsDue named left status text → Wrote room old written text → named ≡ Some (Solve trials gap) → MakesCertificate status →
    IfSome left (λ input. WroteOne (SolvePromises (gap_data gap) status input) room old written)
promised_solve keeps trials gap named None room old written status text due wrote e made = tt
promised_solve keeps trials gap named (Some left) room old written status text due wrote e made =
    let answer = subst (λ (c : Option Command). Answers c left status text) e (due_to named (Some left) left status text refl due) in
    (text, keeps trials (gap_data gap) left text status (solve_work trials gap left text status answer made) made, wrote)

-- what the certificate of `close` promises holds of what was written
close_work : (rounds : ℕ) (gap : Option Gap) (input text : List ℕ) (status : Status) → Answers (Some (Close rounds gap)) input status text → MakesCertificate status → AnswersClose rounds (option_map gap_data gap) input status text
close_work rounds gap input text status (inl (reads, l, s, t)) made = absurd (too_long_not status s made)
close_work rounds gap input text status (inr (few, h)) made = h

pub promised_close : KeepsClose → (rounds : ℕ) (gap : Option Gap) (named : Option Command) (left : Option (List ℕ)) (room : ℕ) (old written : Option (List ℕ)) (status : Status) (text : List ℕ) →
    IsDue named left status text → Wrote room old written text → named ≡ Some (Close rounds gap) → MakesCertificate status →
    IfSome left (λ input. WroteOne (ClosePromises (option_map gap_data gap) status input) room old written)
promised_close keeps rounds gap named None room old written status text due wrote e made = tt
promised_close keeps rounds gap named (Some left) room old written status text due wrote e made =
    let answer = subst (λ (c : Option Command). Answers c left status text) e (due_to named (Some left) left status text refl due) in
    (text, keeps rounds (option_map gap_data gap) left text status (close_work rounds gap left text status answer made) made, wrote)

-- what the text of `gen` promises holds of what was written
pub promised_gen : KeepsGen → (number size : ℕ) (named : Option Command) (left : Option (List ℕ)) (room : ℕ) (old written : Option (List ℕ)) (status : Status) (text : List ℕ) →
    IsDue named left status text → Wrote room old written text → IfSome named IsWithinLimits → status ≡ Done → named ≡ Some (Gen number size) →
    WroteOne (GenPromises number size) room old written
promised_gen keeps number size named left room old written status text due wrote within done e =
    let limits = subst (λ (c : Option Command). IfSome c IsWithinLimits) e within in
    let answer = subst (λ (c : Option Command). Answers c due.0 Done text) e (subst (λ (s : Status). Answers named due.0 s text) done due.2) in
    (text, keeps number size text limits.0 limits.1 (work_done (Gen number size) due.0 text answer), wrote)

-- what the summary of `gen` promises holds of what was written
summary_work : (number size trials : ℕ) (gap : Gap) (input text : List ℕ) (status : Status) → Answers (Some (Summary number size trials gap)) input status text → MakesCertificate status →
    AnswersSummary number size trials (gap_data gap) status text
summary_work number size trials gap input text status (inl (reads, l, s, t)) made = absurd (too_long_not status s made)
summary_work number size trials gap input text status (inr (few, h)) made = h

pub promised_summary : KeepsSummary → (number size trials : ℕ) (gap : Gap) (named : Option Command) (left : Option (List ℕ)) (room : ℕ) (old written : Option (List ℕ)) (status : Status) (text : List ℕ) →
    IsDue named left status text → Wrote room old written text → named ≡ Some (Summary number size trials gap) → MakesCertificate status →
    WroteOne (SummaryPromises number size (gap_data gap) status) room old written
promised_summary keeps number size trials gap named left room old written status text due wrote e made =
    let answer = subst (λ (c : Option Command). Answers c due.0 status text) e due.2 in
    (text, keeps number size trials (gap_data gap) status text (summary_work number size trials gap due.0 text status answer made), wrote)
