use Rattle.std.proofs.Common.{◌≡◌, ◌++◌, [], ◌∷◌, ◌∙◌, codes, ap, length, pos, sym, refl, append_assoc, ℕ, List}
use Rattle.std.specs.String.{string_bytes}
use Rattle.std.proofs.lemmas.Result.{IfOk-weaker}
use Rattle.controller.specs.Certificates.{CertificateData}
use Rattle.controller.specs.Data.{ending_of, fraction_data}
use Rattle.text_words.specs.Lines.{line_text}
use Rattle.cert_text.specs.Text.{fraction_line, outcome_word, starts_in, version_word}
use Rattle.text_words.specs.Spelled.{line_of}
use Rattle.text_words.proofs.Grown.{behind}
use Rattle.cert_text.proofs.printing.head_lines.Goals as goal

pub returns : goal.returns
returns c =
    let k = c.certificate.inside in
    let word : c.version.result.now ≡ version_word k.start_nodes.items k.start_points.items =
    c.version.ensures ∙ ap (λ (x : CertificateData). version_word x.start_nodes x.start_points) (sym c.certificate.view_is) in
    let start = string_bytes c.args.text.now in
    let line : List ℕ = line_text (codes "certificate" ∷ version_word k.start_nodes.items k.start_points.items ∷ []) in
    let outcome : List ℕ = line_text (codes "outcome" ∷ outcome_word (ending_of k.outcome) ∷ []) in
    let two : string_bytes c.first_lines.new.text ≡ (start ++ line) ++ outcome =
    c.in_ok-first_lines.ensures ∙ ap (λ (w : List ℕ). start ++ (line_text (codes "certificate" ∷ w ∷ []) ++ outcome)) word ∙ sym (append_assoc start line outcome) in
    let before = string_bytes c.fraction_line-4.new.text in
    let sizes : string_bytes c.pair_line.new.text ≡ before ++ line_of (codes "sizes") (pos (length k.nodes.members) ∷ pos (length k.points.members) ∷ []) =
    c.in_ok-pair_line.ensures
    ∙ ap (λ (n : ℕ). before ++ line_of (codes "sizes") (pos n ∷ pos c.len-2.result ∷ [])) c.len.ensures.count
    ∙ ap (λ (n : ℕ). before ++ line_of (codes "sizes") (pos (length k.nodes.members) ∷ pos n ∷ [])) c.len-2.ensures.count in
    let starts = ap (λ (x : CertificateData). starts_in x) (sym c.certificate.view_is) in
    rw (← c.certificate.view_is) (IfOk-weaker c.certificate_starts.result _ _ (λ u h.
    behind start (start ++ line) _ line _ refl
    (behind (start ++ line) (string_bytes c.first_lines.new.text) _ outcome _ two
    (behind _ (string_bytes c.fraction_line.new.text) _ (fraction_line (codes "gap") (fraction_data k.gap)) _ c.in_ok-fraction_line.ensures
    (behind _ (string_bytes c.fraction_line-2.new.text) _ (fraction_line (codes "lower") (fraction_data k.lower)) _ c.in_ok-fraction_line-2.ensures
    (behind _ (string_bytes c.fraction_line-3.new.text) _ (fraction_line (codes "upper") (fraction_data k.upper)) _ c.in_ok-fraction_line-3.ensures
    (behind _ (string_bytes c.fraction_line-4.new.text) _ (fraction_line (codes "tail") (fraction_data k.tail)) _ c.in_ok-fraction_line-4.ensures
    (behind _ (string_bytes c.pair_line.new.text) _ (line_of (codes "sizes") (pos (length k.nodes.members) ∷ pos (length k.points.members) ∷ [])) _ sizes
    (h ∙ ap (λ (l : List ℕ). string_bytes c.pair_line.new.text ++ l) starts)))))))) c.certificate_starts.ensures)
