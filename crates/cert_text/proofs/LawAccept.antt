-- Lines that are accepted are the text of the certificate that they say, which fits the game.
use Rattle.std.proofs.Common.{◌≡◌, ℕ, zero, suc, List, [], ◌∷◌, ◌++◌, length, ℤ, refl, sym, ap, subst, ◌∙◌, arith, append_assoc, append-nil}
use Rattle.std.specs.Prelude.{codes}
use Rattle.text_words.specs.Lines.{Line, line_text, after_lines}
use Rattle.text_words.proofs.Whole.{lines_text, lines_of-front}
use Rattle.game_model.specs.Game.{GameData, IsGame}
use Rattle.alpha_set.specs.Nodes.{NodeData}
use Rattle.point_set.specs.Points.{PointData}
use Rattle.controller.specs.Certificates.{CertificateData, CertificateFits}
use Rattle.cert_text.specs.Entries.{limits_of}
use Rattle.cert_text.specs.declared.progress.Progress.{Progress}
use Rattle.cert_text.specs.declared.progress.Latest.TheVariants as latest
use Rattle.cert_text.specs.Answers.{IsTextFor}
use Rattle.cert_text.specs.Text.{certificate_text}
use Rattle.text_words.specs.Spelled.{line_of}
use Rattle.cert_text.specs.Entries.{Entry, progress_after, behind, start_of}
use Rattle.cert_text.specs.Made.{certificate_of, with_entries}
use Rattle.cert_text.specs.Steps.{Say, AcceptsAll}
use Rattle.cert_text.proofs.LawStages.{Head, Stage, AtNothing, AtVersion, AtOutcome, AtGap, AtLower, AtUpper, AtTail, AtSizes, AtFrom, AtOver, AtStart, AtNode, AtVector, AtSteps, AtPoint, AtBelief, AtMixes, AtSplits, AtEnd, progress_of, made_of, head_bytes, nodes_bytes, points_bytes, text_of, Known, IsDone}
use Rattle.cert_text.proofs.LawSteps.{Goes, step}

-- behind these entries there is a stage
pub record Reaches (g : GameData) (s : Stage) (lines : List Line) (es : List Entry) : Type 0 where
  pub stage : Stage
  pub progress : behind (progress_of g s) es ≡ progress_of g stage
  pub made : with_entries (limits_of g) (made_of g s) es ≡ made_of g stage
  pub text : (text_of g s ++ lines_text lines) ≡ text_of g stage
  pub known : Known g stage

goes_on : (g : GameData) (s : Stage) (line : Line) (lines : List Line) (e : Entry) (es : List Entry) (q : Goes g s line e) → Reaches g (q.1.0) lines es → Reaches g s (line ∷ lines) (e ∷ es)
goes_on g s line lines e es q r = record {
  stage = r.stage;
  progress = ap (λ (p : Progress). behind p es) q.1.1.progress ∙ r.progress;
  made = ap (λ (k : CertificateData). with_entries (limits_of g) k es) q.1.1.made ∙ r.made;
  text =
      sym (append_assoc (text_of g s) (line_text line) (lines_text lines))
      ∙ ap (λ (x : Line). (text_of g s ++ line_text x) ++ lines_text lines) q.0
      ∙ ap (λ (x : List ℕ). x ++ lines_text lines) q.1.1.text
      ∙ r.text;
  known = r.known;
}

pub reaches : (g : GameData) (s : Stage) (lines : List Line) (es : List Entry) → IsGame g → Known g s → Say (progress_of g s) lines es → Reaches g s lines es
reaches g s [] [] game k say = record { stage = s; progress = refl; made = refl; text = append-nil (text_of g s); known = k }
reaches g s [] (e ∷ es) game k say = absurd say
reaches g s (line ∷ lines) [] game k say = absurd say
reaches g s (line ∷ lines) (e ∷ es) game k say =
    let q = step g s line e game k say.0 in
    goes_on g s line lines e es q (reaches g q.1.0 lines es game q.1.1.known (subst (λ (p : Progress). Say p lines es) q.1.1.progress say.1))

-- what stands at the end
pub record Ends (g : GameData) (s : Stage) : Type 0 where
  pub fits : CertificateFits g (made_of g s)
  pub text : text_of g s ≡ certificate_text (made_of g s)

head_same : (h : Head) (ns : List NodeData) (ps : List PointData) (rest : List ℕ) (n m : ℕ) → n ≡ h.nodes → m ≡ h.points
    → head_bytes h ++ rest ≡ head_bytes (record h { nodes = n; points = m }) ++ rest
head_same h ns ps rest n m p q = ap (λ (x : ℕ). head_bytes (record h { nodes = x; points = h.points }) ++ rest) (sym p) ∙ ap (λ (x : ℕ). head_bytes (record h { nodes = n; points = x }) ++ rest) (sym q)

done_ends : (g : GameData) (h : Head) (ns : List NodeData) (ps : List PointData) (s : ℕ) (L : List ℤ) (sum : ℤ) → IsDone g h ns ps → Ends g (AtEnd h ns ps s L sum)
done_ends g h ns ps s L sum k = record {
  fits = k.fits;
  text = head_same h ns ps (nodes_bytes ns ++ (points_bytes ps ++ line_of (codes "end") [])) (length ns) (length ps) k.nodes k.points;
}

at_end : (g : GameData) (s : Stage) → Known g s → (progress_of g s).latest ≡ latest.End → Ends g s
at_end g AtNothing k e = absurd cc
at_end g (AtVersion v) k e = absurd cc
at_end g (AtOutcome v o) k e = absurd cc
at_end g (AtGap v o gap) k e = absurd cc
at_end g (AtLower v o gap lower) k e = absurd cc
at_end g (AtUpper v o gap lower upper) k e = absurd cc
at_end g (AtTail v o gap lower upper tail) k e = absurd cc
at_end g (AtSizes v o gap lower upper tail nodes points) k e = absurd cc
at_end g (AtFrom h []) k e = absurd cc
at_end g (AtFrom h (s ∷ back)) k e = absurd cc
at_end g (AtOver h front []) k e = absurd cc
at_end g (AtOver h front (s ∷ back)) k e = absurd cc
at_end g (AtStart h) k e = absurd cc
at_end g (AtNode h ns L) k e = absurd cc
at_end g (AtVector h ns v L) k e = absurd cc
at_end g (AtSteps h ns v m [] L) k e = absurd cc
at_end g (AtSteps h ns v m (b ∷ back) L) k e = absurd cc
at_end g (AtPoint h ns ps L sum) k e = absurd cc
at_end g (AtBelief h ns ps b L) k e = absurd cc
at_end g (AtMixes h ns ps b v zero w L) k e = absurd cc
at_end g (AtMixes h ns ps b v (suc s) w L) k e = absurd cc
at_end g (AtSplits h ns ps b v w [] s L) k e = absurd cc
at_end g (AtSplits h ns ps b v w (d ∷ back) s L) k e = absurd cc
at_end g (AtEnd h ns ps s L sum) k e = done_ends g h ns ps s L sum k

pub say_text : (g : GameData) (lines : List Line) (es : List Entry) → IsGame g → Say (start_of g) lines es → (behind (start_of g) es).latest ≡ latest.End → IsTextFor g (certificate_of g es) (lines_text lines)
say_text g lines es game say end =
    let r = reaches g AtNothing lines es game tt say in
    let k = at_end g r.stage r.known (sym (ap (λ (p : Progress). p.latest) r.progress) ∙ end) in
    (subst (CertificateFits g) (sym r.made) k.fits, r.text ∙ k.text ∙ ap certificate_text (sym r.made))

pub say_long : (progress : Progress) (lines : List Line) (es : List Entry) → Say progress lines es → length lines ≡ length es
say_long progress [] [] say = refl
say_long progress [] (e ∷ es) say = absurd say
say_long progress (line ∷ lines) [] say = absurd say
say_long progress (line ∷ lines) (e ∷ es) say = omega (arith, say_long (progress_after progress e) lines es say.1)

pub accepted_bytes : (g : GameData) (bytes : List ℕ) (es : List Entry) (a : AcceptsAll g bytes es) → bytes ≡ lines_text a.0.0.0
accepted_bytes g bytes es a =
    let front = a.0.0.0 in
    let p = lines_of-front bytes front [] a.0.0.1 in
    let none : after_lines (length front) bytes ≡ [] = ap (λ (n : ℕ). after_lines n bytes) (say_long (start_of g) front es a.0.0.2) ∙ a.1 in
    p.0 ∙ ap (λ (x : List ℕ). lines_text front ++ x) none ∙ append-nil (lines_text front)

pub lines_are_texts : (g : GameData) (bytes : List ℕ) (es : List Entry) → IsGame g → AcceptsAll g bytes es → IsTextFor g (certificate_of g es) bytes
lines_are_texts g bytes es game a =
    subst (IsTextFor g (certificate_of g es)) (sym (accepted_bytes g bytes es a)) (say_text g a.0.0.0 es game a.0.0.2 a.0.1)
