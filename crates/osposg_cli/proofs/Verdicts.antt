-- The answer of `check` to an input: there is one, it has a text, and a yes proves its bounds.
use Rattle.std.proofs.Common.{◌≡◌, ◌⊎◌, ℕ, List, refl, sym, ap, ◌∙◌, subst, arith, inl, inr}
use Rattle.std.specs.Prelude.{ℤ, pos, ◌≤ℤ◌, ◌<ℤ◌, ◌↔◌, ⊤}
use Rattle.std.proofs.lemmas.Int.{ints}
use Rattle.cert_check.specs.Verdicts.{FailingFalls, FailsOnce, StandsOrFails}
use Rattle.controller.proofs.Places.{rules}
use Rattle.controller.specs.Certificates.{CertificateData, CertificateFits, CertificateStands, Closed, Ending, FailsFirst, FractionData, Full, IsShort, IsWithinGap, OutcomeHolds, Place, Trials}
use Rattle.game_model.proofs.Games.{keeps-span}
use Rattle.cert_text.specs.Laws.{Decided as CertDecided}
use Rattle.game_model.specs.Game.{GameData, IsGame}
use Rattle.history_model.specs.Halves.{LowerHolds, UpperHolds}
use Rattle.osposg_cli.specs.declared.status.Status.{Status}
use Rattle.osposg_cli.specs.declared.status.Status.TheVariants.{Done, No}
use Rattle.osposg_cli.specs.Defined.{HasText, IsAnswered, IsDefined, IsOne, IsTold}
use Rattle.osposg_cli.specs.Check.{AnswersCheck, AreBounds, IsVerdict, IsYesText, KeepsCheck, Proves, placed, yes_lines}
use Rattle.osposg_cli.specs.Refusals.{no_text}
use Rattle.osposg_cli.proofs.Places.{down-once, up-once}
use Rattle.osposg_cli.specs.Inputs.{TextsAreExact}
use Rattle.osposg_cli.proofs.Shared.{both-some, both-told, both_answer-once}
use Rattle.osposg_cli.proofs.Rounded.{down-some, up-some}
use Rattle.game_text.specs.Laws.{Decided}
use Rattle.scaled_num.specs.Printed.{fraction_text}

-- what is known of the places where a certificate fails
pub record FailingLaws : Type 0 where
  pub once : FailsOnce
  pub falls : FailingFalls
  pub decided : StandsOrFails

-- the texts of bounds are determined by the bounds
pub bounds-once : (k : CertificateData) (lower upper tail low high end : List ℕ) → (pos 0 <ℤ k.lower.den) → (pos 0 <ℤ k.upper.den) → (pos 0 <ℤ k.tail.den) →
    AreBounds k lower upper tail → AreBounds k low high end → (lower ≡ low) × (upper ≡ high) × (tail ≡ end)
bounds-once k lower upper tail low high end l u t a b = (
  a.lower_is ∙ ap (placed (fraction_text k.lower.num k.lower.den)) (down-once k.lower.num k.lower.den a.down b.down l a.lower_down b.lower_down) ∙ sym b.lower_is,
  a.upper_is ∙ ap (placed (fraction_text k.upper.num k.upper.den)) (up-once k.upper.num k.upper.den a.up b.up u a.upper_up b.upper_up) ∙ sym b.upper_is,
  a.tail_is ∙ ap (placed (fraction_text k.tail.num k.tail.den)) (up-once k.tail.num k.tail.den a.most b.most t a.tail_up b.tail_up) ∙ sym b.tail_is,
)

yes-once : (k : CertificateData) (text more : List ℕ) → (pos 0 <ℤ k.lower.den) → (pos 0 <ℤ k.upper.den) → (pos 0 <ℤ k.tail.den) → IsYesText k text → IsYesText k more → text ≡ more
yes-once k text more l u t a b =
    let same = bounds-once k a.lower a.upper a.tail b.lower b.upper b.tail l u t a.bounds b.bounds in
    a.same
    ∙ ap (λ (x : List ℕ). yes_lines x a.upper a.tail) same.0
    ∙ ap (λ (x : List ℕ). yes_lines b.lower x a.tail) same.1
    ∙ ap (λ (x : List ℕ). yes_lines b.lower b.upper x) same.2
    ∙ sym b.same

verdict-once : FailingLaws → (g : GameData) (k : CertificateData) → IsOne (IsVerdict g k)
verdict-once laws g k status other text more (inl (stands, s, t)) (inl (again, r, m)) =
    (s ∙ sym r, yes-once k text more (low k.lower stands.fits.short.0) (low k.upper stands.fits.short.1) (low k.tail stands.fits.short.2) t m)
  where
    positive : (x : ℤ) → pos 1 ≤ℤ x → pos 0 <ℤ x
    positive x h = omega (arith, ints)

    low : (f : FractionData) → IsShort f → pos 0 <ℤ f.den
    low f h = positive f.den h.1
verdict-once laws g k status other text more (inl (stands, s, t)) (inr (place, fails, r, m)) = absurd (laws.falls g k place fails stands)
verdict-once laws g k status other text more (inr (place, fails, s, t)) (inl (stands, r, m)) = absurd (laws.falls g k place fails stands)
verdict-once laws g k status other text more (inr (place, fails, s, t)) (inr (next, falls, r, m)) =
    (s ∙ sym r, t ∙ ap no_text (laws.once g k place next fails falls) ∙ sym m)

verdict-told : (g : GameData) (k : CertificateData) → IsTold (IsVerdict g k)
verdict-told g k status text (inl (stands, s, t)) = subst HasText (sym s) tt
verdict-told g k status text (inr (place, fails, s, t)) = subst HasText (sym s) tt

pub short-positive : (f : FractionData) → IsShort f → pos 0 <ℤ f.den
short-positive f h = positive f.den h.1
  where
    positive : (x : ℤ) → pos 1 ≤ℤ x → pos 0 <ℤ x
    positive x h = omega (arith, ints)

pub yes-some : (k : CertificateData) → IsShort k.lower → IsShort k.upper → IsShort k.tail → (text : List ℕ) × IsYesText k text
yes-some k l u t =
    let down = down-some k.lower.num k.lower.den (short-positive k.lower l) in
    let up = up-some k.upper.num k.upper.den (short-positive k.upper u) in
    let most = up-some k.tail.num k.tail.den (short-positive k.tail t) in (
      _,
      record {
        lower = _;
        upper = _;
        tail = _;
        bounds = record {
          down = down.0;
          up = up.0;
          most = most.0;
          lower_down = down.1;
          upper_up = up.1;
          tail_up = most.1;
          lower_is = refl;
          upper_is = refl;
          tail_is = refl;
        };
        same = refl;
      },
    )

verdict-some : StandsOrFails → (g : GameData) (k : CertificateData) → CertificateFits g k → IsAnswered (IsVerdict g k)
verdict-some decided g k fits = found (decided g k fits)
  where
    found : CertificateStands g k ⊎ ((place : Place) × FailsFirst g k place) → IsAnswered (IsVerdict g k)
    found (inl stands) = let yes = yes-some k fits.short.0 fits.short.1 fits.short.2 in (Done, yes.0, inl (stands, refl, yes.1))
    found (inr (place, fails)) = (No, no_text place, inr (place, fails, refl, refl))

pub check-some : FailingLaws → Decided → CertDecided → (input : List ℕ) → IsAnswered (AnswersCheck input)
check-some failing games certificates = both-some games certificates IsVerdict (λ g k rest game for. verdict-some failing.decided g k for.0)

pub check-defined : FailingLaws → TextsAreExact → IsDefined AnswersCheck
check-defined failing laws = record {
  one = both_answer-once laws IsVerdict (λ g k rest for. verdict-once failing g k);
  told = both-told IsVerdict verdict-told;
}

-- ---- what a yes promises
abbrev is_open : Ending → Type 0
is_open Closed = ⊥
is_open Trials = ⊤
is_open Full = ⊤

pub proved : LowerHolds → UpperHolds → (g : GameData) (k : CertificateData) → IsGame g → CertificateStands g k → Proves g k
proved low high g k game stands =
    let keeps = keeps-span g game in
    record {
      stands = stands;
      own = low.plan g k stands;
      lower = low.family g k keeps stands;
      lower_at = low.state g k keeps stands;
      hold = high.plan g k stands;
      upper = high.half g k keeps stands;
      closed = closed_is k k.outcome refl (rules g k stands.holds).outcome;
    }
  where
    closed_is : (k : CertificateData) (ending : Ending) → k.outcome ≡ ending → OutcomeHolds k k.outcome → (k.outcome ≡ Closed) ↔ IsWithinGap k
    closed_is k Closed e h = (λ c. subst (OutcomeHolds k) e h, λ w. e)
    closed_is k Trials e h = (λ c. absurd (subst is_open (sym e ∙ c) tt), λ w. absurd (subst (OutcomeHolds k) e h w))
    closed_is k Full e h = (λ c. absurd (subst is_open (sym e ∙ c) tt), λ w. absurd (subst (OutcomeHolds k) e h w))

abbrev is_yes : Status → Type 0
is_yes Done = ⊤
is_yes status = ⊥

pub check-promises : LowerHolds → UpperHolds → KeepsCheck
check-promises low high input text (inl (inl (line, kind, is, s, t))) = absurd (subst is_yes s tt)
check-promises low high input text (inl (inr (g, rest, is, (line, kind, at, s, t)))) = absurd (subst is_yes s tt)
check-promises low high input text (inr (g, k, is, (inl (stands, s, t)))) = (g, k, is, t, proved low high g k is.1.game stands)
check-promises low high input text (inr (g, k, is, (inr (place, fails, s, t)))) = absurd (subst is_yes s tt)
