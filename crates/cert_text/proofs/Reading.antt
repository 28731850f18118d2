-- One line more is read, or the reading stops at it.
use Rattle.std.proofs.Common.{◌≡◌, ℕ, ◌+◌, List, [], ◌∷◌, ◌++◌, length, Result, Ok, Err, refl, sym, ap, ◌∙◌, append_assoc, subst}
use Rattle.std.specs.Result.{MatchResult}
use Rattle.text_words.specs.Lines.{Line}
use Rattle.text_words.specs.Forms.{◌>>=◌}
use Rattle.cert_text.specs.declared.fault.CertKind.{CertKind}
use Rattle.text_words.specs.declared.fault.LineFault.{LineFault}
use Rattle.text_words.specs.declared.fault.LineFault.TheVariants.{Refused, OutOfMemory}
use Rattle.cert_text.specs.declared.fault.CertFault.{CertFault}
use Rattle.cert_text.specs.declared.progress.Progress.{Progress}
use Rattle.cert_text.specs.Fault.{at_line}
use Rattle.text_words.specs.Fault.{Fails, Gives}
use Rattle.cert_text.specs.Steps.{IsFaultOf}
use Rattle.cert_text.specs.Entries.{Entry, entry_of, progress_after, behind}
use Rattle.cert_text.specs.Steps.{line_at, Say, Reads, IsUnfinished}

pub reads_none : (progress : Progress) (lines : List Line) → Reads progress lines [] lines
reads_none progress lines = ([], refl, tt)

abbrev done : {A : Type 0} → A → Result A CertKind
done x = Ok x

entry_with : List Line → Entry → Result (Entry × List Line) CertKind
entry_with lines entry = Ok (entry, lines)

ok_is : {A : Type 0} (x y : A) → done x ≡ done y → x ≡ y
ok_is x y h = cc

entry_ok : (read : Result Entry CertKind) (lines rest : List Line) (entry : Entry) → (read >>= entry_with lines) ≡ entry_with rest entry → (read ≡ Ok entry) × (lines ≡ rest)
unfolding entry_with
entry_ok (Ok e) lines rest entry h = let p = ok_is {A = Entry × List Line} (e, lines) (entry, rest) h in (ap done (ap (λ (q : Entry × List Line). q.0) p), ap (λ (q : Entry × List Line). q.1) p)
entry_ok (Err k) lines rest entry h = absurd cc

-- a line that says something is the first of those that are left
pub line_at-ok : (progress : Progress) (lines rest : List Line) (entry : Entry) → line_at progress lines ≡ Ok (entry, rest) → (line : Line) × (lines ≡ line ∷ rest) × (entry_of progress line ≡ Ok entry)
unfolding line_at entry_with
line_at-ok progress [] rest entry h = absurd cc
line_at-ok progress (line ∷ lines) rest entry h = let p = entry_ok (entry_of progress line) lines rest entry h in (line, ap (λ (ls : List Line). line ∷ ls) p.1, p.0)

pub line_at-said : (progress : Progress) (line : Line) (rest : List Line) (entry : Entry) → entry_of progress line ≡ Ok entry → line_at progress (line ∷ rest) ≡ Ok (entry, rest)
unfolding line_at
line_at-said progress line rest entry h = rw h refl

pub behind-push : (progress : Progress) (entries : List Entry) (entry : Entry) → behind progress (entries ++ entry ∷ []) ≡ progress_after (behind progress entries) entry
behind-push progress [] entry = refl
behind-push progress (e ∷ entries) entry = behind-push (progress_after progress e) entries entry

say_more : (progress : Progress) (front : List Line) (entries : List Entry) (line : Line) (entry : Entry) → Say progress front entries → entry_of (behind progress entries) line ≡ Ok entry → Say progress (front ++ line ∷ []) (entries ++ entry ∷ [])
say_more progress [] [] line entry say h = (h, tt)
say_more progress [] (e ∷ entries) line entry say h = absurd say
say_more progress (l ∷ front) [] line entry say h = absurd say
say_more progress (l ∷ front) (e ∷ entries) line entry say h = (say.0, say_more (progress_after progress e) front entries line entry say.1 h)

pub reads_more : (progress : Progress) (lines : List Line) (entries : List Entry) (rest after : List Line) (entry : Entry) → Reads progress lines entries rest → line_at (behind progress entries) rest ≡ Ok (entry, after) → Reads progress lines (entries ++ entry ∷ []) after
reads_more progress lines entries rest after entry reads h =
    let p = line_at-ok (behind progress entries) rest after entry h in
    (reads.0 ++ p.0 ∷ [], reads.1 ∙ ap (λ (ls : List Line). reads.0 ++ ls) p.1 ∙ sym (append_assoc reads.0 (p.0 ∷ []) after), say_more progress reads.0 entries p.0 entry reads.2 p.2)

pub fault_at : (progress : Progress) (lines : List Line) (entries : List Entry) (rest : List Line) (fault : LineFault CertKind) (number : ℕ) → Reads progress lines entries rest → IsUnfinished (behind progress entries) → Fails fault (line_at (behind progress entries) rest) → number ≡ length entries + 1 → IsFaultOf progress lines (at_line fault number)
fault_at progress lines entries rest OutOfMemory number reads due h e = tt
fault_at progress lines entries rest (Refused kind) number reads due h e = (entries, rest, e, reads, due, h)

-- what stood behind a step that was passed, and behind one that was not
pub passed : {A : Type 0} (read : Result A (LineFault CertKind)) (result : Result A CertFault) (number : ℕ) (value : A)
    → MatchResult read (λ v. result ≡ Ok v) (λ fault. result ≡ Err (at_line fault number)) → result ≡ Ok value → read ≡ Ok value
passed (Ok v) result number value h e = cc
passed (Err fault) result number value h e = absurd cc

pub stopped : {A : Type 0} (read : Result A (LineFault CertKind)) (result : Result A CertFault) (number : ℕ) (error : CertFault)
    → MatchResult read (λ v. result ≡ Ok v) (λ fault. result ≡ Err (at_line fault number)) → result ≡ Err error → (fault : LineFault CertKind) × (read ≡ Err fault) × (error ≡ at_line fault number)
stopped (Ok v) result number error h e = absurd cc
stopped (Err fault) result number error h e = (fault, refl, cc)

pub gives_ok : {A B : Type 0} (view : A → B) (read : Result A (LineFault CertKind)) (said : Result B CertKind) (value : A) → Gives view read said → read ≡ Ok value → said ≡ Ok (view value)
gives_ok {A} view read said value h e = subst (λ (r : Result A (LineFault CertKind)). Gives view r said) e h

pub gives_err : {A B : Type 0} (view : A → B) (read : Result A (LineFault CertKind)) (said : Result B CertKind) (fault : LineFault CertKind) → Gives view read said → read ≡ Err fault → Fails fault said
gives_err {A} view read said fault h e = subst (λ (r : Result A (LineFault CertKind)). Gives view r said) e h
