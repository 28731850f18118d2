-- What is read up to a line.
use Rattle.std.proofs.Common.{◌≡◌, ℕ, ◌+◌, ◌++◌, ◌∷◌, [], List, length, Ok, refl, sym, ap, subst, ◌∙◌, arith, length-append}
use Rattle.std.specs.List.{after_first}
use Rattle.text_words.specs.Lines.{lines_of, after_lines}
use Rattle.text_words.proofs.Whole.{is_feed, after_lines-more}
use Rattle.controller.specs.Certificates.{CertificateData}
use Rattle.cert_text.specs.declared.progress.Limits.{Limits}
use Rattle.cert_text.specs.declared.progress.Progress.{Progress}
use Rattle.cert_text.specs.Entries.{Entry, behind, progress_after}
use Rattle.cert_text.specs.Made.{blank, with_entry, with_entries}
use Rattle.cert_text.specs.Steps.{Reads, line_at}
use Rattle.cert_text.proofs.Reading.{reads_none, reads_more, behind-push}

pub record SoFar (start : Progress) (text : List ℕ) (k : CertificateData) (line : ℕ) (progress : Progress) (rest : List ℕ) : Type 0 where
  pub entries : List Entry
  pub read : Reads start (lines_of text) entries (lines_of rest)
  pub at : progress ≡ behind start entries
  pub after : rest ≡ after_lines (length entries) text
  pub made : k ≡ with_entries start.limits blank entries
  pub counted : line ≡ length entries

pub so_far_none : (start : Progress) (text : List ℕ) (k : CertificateData) → k ≡ blank → SoFar start text k 0 start text
unfolding after_lines
so_far_none start text k e = record { entries = []; read = reads_none start (lines_of text); at = refl; after = refl; made = e; counted = refl }

with_push : (limits : Limits) (k : CertificateData) (es : List Entry) (e : Entry) → with_entries limits k (es ++ e ∷ []) ≡ with_entry limits (with_entries limits k es) e
with_push limits k [] e = refl
with_push limits k (x ∷ es) e = with_push limits (with_entry limits k x) es e

pub so_far_more : (start : Progress) (text : List ℕ) (k m : CertificateData) (line : ℕ) (progress next : Progress) (rest after : List ℕ) (e : Entry)
    → SoFar start text k line progress rest → line_at progress (lines_of rest) ≡ Ok (e, lines_of after) → next ≡ progress_after progress e → after ≡ after_first is_feed rest
    → m ≡ with_entry start.limits k e → SoFar start text m (line + 1) next after
so_far_more start text k m line progress next rest after e s h moved cut made =
    let longer : length s.entries + 1 ≡ length (s.entries ++ e ∷ []) = omega (arith, length-append {A = Entry} s.entries (e ∷ [])) in
    record {
      entries = s.entries ++ e ∷ [];
      read = reads_more start (lines_of text) s.entries (lines_of rest) (lines_of after) e s.read (subst (λ (p : Progress). line_at p (lines_of rest) ≡ Ok (e, lines_of after)) s.at h);
      at = moved ∙ ap (λ (p : Progress). progress_after p e) s.at ∙ sym (behind-push start s.entries e);
      after = cut ∙ ap (after_first is_feed) s.after ∙ sym (after_lines-more (length s.entries) text) ∙ ap (λ (n : ℕ). after_lines n text) longer;
      made = made ∙ ap (λ (x : CertificateData). with_entry start.limits x e) s.made ∙ sym (with_push start.limits blank s.entries e);
      counted = omega (arith, s.counted, longer);
    }
