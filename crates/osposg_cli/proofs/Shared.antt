-- Answers to an input that is a game, or a game and a certificate: there is one, and it has a text.
use Rattle.std.proofs.Common.{◌≡◌, ◌⊎◌, ℕ, List, [], refl, sym, ap, ◌∙◌, subst, inl, inr}
use Rattle.cert_text.specs.declared.fault.CertKind.{CertKind}
use Rattle.cert_text.specs.Answers.{IsTextFor}
use Rattle.cert_text.specs.Laws.{RefusedOnce as CertRefusedOnce}
use Rattle.controller.specs.Certificates.{CertificateData}
use Rattle.cert_text.specs.Laws.{Decided as CertDecided}
use Rattle.game_model.specs.Game.{GameData, IsGame}
use Rattle.game_text.specs.declared.fault.Kind.{Kind}
use Rattle.game_text.specs.Laws.{Decided, DecidedAlone, FrontRefusedOnce, RefusedOnce}
use Rattle.game_text.specs.Reading.{RefusesAlone, RefusesText}
use Rattle.cert_text.specs.Reading.{RefusesCert}
use Rattle.game_text.specs.Text.{IsTextOf, IsWholeTextOf}
use Rattle.osposg_cli.specs.declared.status.Status.{Status}
use Rattle.osposg_cli.specs.declared.status.Status.TheVariants.{CertRefused, GameRefused}
use Rattle.osposg_cli.specs.Defined.{HasText, IsAnswered, IsOne, IsTold}
use Rattle.osposg_cli.specs.Inputs.{AnswersBoth, AnswersGame, IsTextOfBoth, RefusesBoth, RefusesFront, RefusesGame, RefusesRest, TextsAreExact}
use Rattle.osposg_cli.specs.Refusals.{cert_refused, game_refused}

-- ---- refusals
game_refusal-once : RefusedOnce → (input : List ℕ) → IsOne (RefusesGame input)
game_refusal-once once input status other text more (line, kind, is, s, t) (number, next, at, r, m) =
    let same = once input line number kind next is at in
    (s ∙ sym r, t ∙ ap (λ (i : ℕ). game_refused i kind) same.0 ∙ ap (λ (k : Kind). game_refused number k) same.1 ∙ sym m)

front_refusal-once : FrontRefusedOnce → (input : List ℕ) → IsOne (RefusesFront input)
front_refusal-once once input status other text more (line, kind, is, s, t) (number, next, at, r, m) =
    let same = once input line number kind next is at in
    (s ∙ sym r, t ∙ ap (λ (i : ℕ). game_refused i kind) same.0 ∙ ap (λ (k : Kind). game_refused number k) same.1 ∙ sym m)

rest_refusal-once : CertRefusedOnce → (g : GameData) (rest : List ℕ) → IsOne (RefusesRest g rest)
rest_refusal-once once g rest status other text more (line, kind, is, s, t) (number, next, at, r, m) =
    let same = once g rest line number kind next is at in
    (s ∙ sym r, t ∙ ap (λ (i : ℕ). cert_refused i kind) same.0 ∙ ap (λ (k : CertKind). cert_refused number k) same.1 ∙ sym m)

-- ---- a game alone
pub game-once : TextsAreExact → (A : GameData → Status → List ℕ → Type 0) → ((g : GameData) → IsGame g → IsOne (A g)) → (input : List ℕ) → IsOne (AnswersGame A input)
game-once laws A once input status other text more (inl h) (inl k) = game_refusal-once laws.refused input status other text more h k
game-once laws A once input status other text more (inl (line, kind, is, s, t)) (inr (g, at, k)) = absurd (laws.whole input g line kind at is)
game-once laws A once input status other text more (inr (g, is, h)) (inl (line, kind, at, s, t)) = absurd (laws.whole input g line kind is at)
game-once laws A once input status other text more (inr (g, is, h)) (inr (e, at, k)) =
    let same = laws.wholes input g e is at in
    once e at.1.game status other text more (subst (λ (d : GameData). A d status text) same h) k

pub game-told : (A : GameData → Status → List ℕ → Type 0) → ((g : GameData) → IsTold (A g)) → (input : List ℕ) → IsTold (AnswersGame A input)
game-told A told input status text (inl (line, kind, is, s, t)) = subst HasText (sym s) tt
game-told A told input status text (inr (g, is, h)) = told g status text h

-- ---- a game and a certificate
-- the game and what is left of two texts are the same
both-once : TextsAreExact → (g e : GameData) (k m : CertificateData) (input : List ℕ) → IsTextOfBoth g k input → IsTextOfBoth e m input → (g ≡ e) × (k ≡ m)
both-once laws g e k m input (rest, is, for) (other, at, next) =
    let same = laws.games input rest g e other is at in
    let moved : IsTextFor e k other = subst (λ (r : List ℕ). IsTextFor e k r) same.1 (subst (λ (d : GameData). IsTextFor d k rest) same.0 for) in
    (same.0, laws.certificates e other k m at.game moved next)

rest-falls : TextsAreExact → (g e : GameData) (k : CertificateData) (input rest : List ℕ) (line : ℕ) (status : Status) (text : List ℕ) →
    IsTextOfBoth g k input → IsTextOf e input rest → RefusesRest e rest status text → ⊥
rest-falls laws g e k input rest line status text (other, is, for) at (number, kind, refused, s, t) =
    let same = laws.games input other g e rest is at in
    let moved : IsTextFor e k rest = subst (λ (r : List ℕ). IsTextFor e k r) same.1 (subst (λ (d : GameData). IsTextFor d k other) same.0 for) in
    let found = laws.read e rest k at.game moved in
    laws.accepted e rest found.0 number kind found.1 refused

front-falls : TextsAreExact → (g : GameData) (input rest : List ℕ) (status : Status) (text : List ℕ) → IsTextOf g input rest → RefusesFront input status text → ⊥
front-falls laws g input rest status text is (line, kind, at, s, t) = laws.front input rest g line kind is at

refusals-once : TextsAreExact → (input : List ℕ) → IsOne (RefusesBoth input)
refusals-once laws input status other text more (inl h) (inl k) = front_refusal-once laws.front_refused input status other text more h k
refusals-once laws input status other text more (inl h) (inr (g, rest, at, k)) = absurd (front-falls laws g input rest status text at h)
refusals-once laws input status other text more (inr (g, rest, is, h)) (inl k) = absurd (front-falls laws g input rest other more is k)
refusals-once laws input status other text more (inr (g, rest, is, h)) (inr (e, end, at, k)) =
    let same = laws.games input rest g e end is at in
    rest_refusal-once laws.cert_refused e end status other text more
    (subst (λ (r : List ℕ). RefusesRest e r status text) same.1 (subst (λ (d : GameData). RefusesRest d rest status text) same.0 h)) k

refusal-falls : TextsAreExact → (g : GameData) (k : CertificateData) (input : List ℕ) (status : Status) (text : List ℕ) → IsTextOfBoth g k input → RefusesBoth input status text → ⊥
refusal-falls laws g k input status text (rest, is, for) (inl h) = front-falls laws g input rest status text is h
refusal-falls laws g k input status text is (inr (e, rest, at, h)) = rest-falls laws g e k input rest 0 status text is at h

pub both_answer-once : TextsAreExact → (A : GameData → CertificateData → Status → List ℕ → Type 0) → ((g : GameData) (k : CertificateData) (rest : List ℕ) → IsTextFor g k rest → IsOne (A g k)) →
    (input : List ℕ) → IsOne (AnswersBoth A input)
both_answer-once laws A once input status other text more (inl h) (inl k) = refusals-once laws input status other text more h k
both_answer-once laws A once input status other text more (inl h) (inr (g, m, at, k)) = absurd (refusal-falls laws g m input status text at h)
both_answer-once laws A once input status other text more (inr (g, k, is, h)) (inl m) = absurd (refusal-falls laws g k input other more is m)
both_answer-once laws A once input status other text more (inr (g, k, is, h)) (inr (e, m, at, n)) =
    let same = both-once laws g e k m input is at in
    once e m at.0 at.2 status other text more (subst (λ (c : CertificateData). A e c status text) same.1 (subst (λ (d : GameData). A d k status text) same.0 h)) n

pub both-told : (A : GameData → CertificateData → Status → List ℕ → Type 0) → ((g : GameData) (k : CertificateData) → IsTold (A g k)) → (input : List ℕ) → IsTold (AnswersBoth A input)
both-told A told input status text (inl (inl (line, kind, is, s, t))) = subst HasText (sym s) tt
both-told A told input status text (inl (inr (g, rest, is, (line, kind, at, s, t)))) = subst HasText (sym s) tt
both-told A told input status text (inr (g, k, is, h)) = told g k status text h

-- ---- there is an answer
pub game-some : DecidedAlone → (A : GameData → Status → List ℕ → Type 0) → ((g : GameData) → IsGame g → IsAnswered (A g)) → (input : List ℕ) → IsAnswered (AnswersGame A input)
game-some decided A some input = found (decided input)
  where
    found : ((g : GameData) × IsWholeTextOf g input) ⊎ ((number : ℕ) × (kind : Kind) × RefusesAlone input number kind) → IsAnswered (AnswersGame A input)
    found (inl (g, is)) = let answer = some g is.1.game in (answer.0, answer.1, inr (g, is, answer.2))
    found (inr (number, kind, refused)) = (GameRefused, game_refused number kind, inl (number, kind, refused, refl, refl))

pub both-some : Decided → CertDecided → (A : GameData → CertificateData → Status → List ℕ → Type 0) →
    ((g : GameData) (k : CertificateData) (rest : List ℕ) → IsGame g → IsTextFor g k rest → IsAnswered (A g k)) → (input : List ℕ) → IsAnswered (AnswersBoth A input)
both-some games certificates A some input = front (games input)
  where
    behind : (g : GameData) (rest : List ℕ) → IsTextOf g input rest →
        ((k : CertificateData) × IsTextFor g k rest) ⊎ ((number : ℕ) × (kind : CertKind) × RefusesCert g rest number kind) → IsAnswered (AnswersBoth A input)
    behind g rest is (inl (k, for)) = let answer = some g k rest is.game for in (answer.0, answer.1, inr (g, k, (rest, is, for), answer.2))
    behind g rest is (inr (number, kind, refused)) = (CertRefused, cert_refused number kind, inl (inr (g, rest, is, (number, kind, refused, refl, refl))))

    front : ((g : GameData) × (rest : List ℕ) × IsTextOf g input rest) ⊎ ((number : ℕ) × (kind : Kind) × RefusesText input number kind) → IsAnswered (AnswersBoth A input)
    front (inl (g, rest, is)) = behind g rest is (certificates g rest is.game)
    front (inr (number, kind, refused)) = (GameRefused, game_refused number kind, inl (inl (number, kind, refused, refl, refl)))
