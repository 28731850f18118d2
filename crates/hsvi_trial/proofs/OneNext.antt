-- Where a right visit goes on is one.
use Rattle.std.proofs.Common.{◌≡◌, ℕ, List, Option, Some, None, [], ◌∷◌, Bool, false, inl, inr, refl, ap, sym, subst, ◌∙◌, arith}
use Rattle.std.specs.Prelude.{ℤ, pos, IsTrue, int_lt, ◌≤ℤ◌}
use Rattle.std.specs.List.{AllByRecursion}
use Rattle.std.proofs.lemmas.Bool.{both_ways, cases_Bool}
use Rattle.std.proofs.lemmas.Int.{ints}
use Rattle.scaled_num.specs.Sums.{below}
use Rattle.scaled_num.proofs.Sums.{each-map}
use Rattle.game_model.specs.Game.{GameData, numbers}
use Rattle.belief.specs.After.{mass_after}
use Rattle.belief.specs.Beliefs.{mix_weight, weight_at}
use Rattle.belief.specs.Laws.{IsSome}
use Rattle.belief.specs.Mixes.{MixesData, mass_of}
use Rattle.belief.specs.Reduced.{IsReduced}
use Rattle.belief.proofs.Lowest.{sum-of_zeros}
use Rattle.belief.proofs.OneReduced.{reduced-one}
use Rattle.controller.specs.Certificates.{FractionData}
use Rattle.stage_game.specs.AdviceData.{LowerAdviceData}
use Rattle.stage_game.specs.Masses.{is_some_mass}
use Rattle.hsvi_trial.specs.Excess.{IsChoice, IsGreatest}
use Rattle.hsvi_trial.specs.RightVisit.{IsNextBelief, IsRightVisit, looks_on, view_of}
use Rattle.hsvi_trial.specs.Sets.{Sets}
use Rattle.hsvi_trial.specs.declared.visits.Visit.{Visit}
use Rattle.hsvi_trial.proofs.OneVisits.{VisitsAreOne}

not-below : (n : ℕ) → pos 0 ≤ℤ pos n
not-below n = omega (arith, ints)

-- no number of a mass is negative
mass-low : (g : GameData) (belief : List ℤ) (mixes : MixesData) (a o : ℕ) → AllByRecursion (λ x. pos 0 ≤ℤ x) (mass_after g belief mixes a o)
mass-low g belief mixes a o =
    each-map (λ (x : ℤ). pos 0 ≤ℤ x) (λ (t : ℕ). pos (mass_of (numbers g) (weight_at belief) (mix_weight mixes) a o t)) (below g.shape.states) (all (below g.shape.states))
  where
    all : (ts : List ℕ) → AllByRecursion (λ (t : ℕ). pos 0 ≤ℤ pos (mass_of (numbers g) (weight_at belief) (mix_weight mixes) a o t)) ts
    all [] = tt
    all (t ∷ ts) = (not-below (mass_of (numbers g) (weight_at belief) (mix_weight mixes) a o t), all ts)

-- a mass with a sum above 0 is not zero
mass-some : (mass : List ℤ) → IsTrue (is_some_mass mass) → IsSome mass
mass-some mass some zeros = both_ways false refl (subst (λ (s : ℤ). IsTrue (int_lt (pos 0) s)) (sum-of_zeros mass zeros) some)

abbrev together : ℕ → ℕ → ℕ × ℕ
together x y = (x, y)

some-same : (x y : ℕ × ℕ) → Some x ≡ Some y → x ≡ y
some-same x y e = cc

-- a right visit that chose looked on, and what it chose has a mass
chosen-mass : (g : GameData) (gap : FractionData) (before after : Sets) (cut : Bool) (visit : Visit) (a o : ℕ) (right : IsRightVisit g gap before after cut visit) →
    visit.chosen ≡ Some (a, o) → IsTrue (is_some_mass (mass_after g visit.belief right.made.lower.informed a o))
chosen-mass g gap before after cut visit a o right chosen = elim (cases_Bool (looks_on g visit cut)) [
  | inl looks ↦ greatest (subst (λ (c : Option (ℕ × ℕ)). IsChoice g (view_of g gap after visit right.made) c) chosen (right.looks looks))
  | inr stays ↦ absurd (apart (a, o) (sym chosen ∙ right.stays stays))
]
  where
    apart : (x : ℕ × ℕ) → Some x ≡ None → ⊥
    apart x e = cc

    greatest : IsGreatest g (view_of g gap after visit right.made) a o → IsTrue (is_some_mass (mass_after g visit.belief right.made.lower.informed a o))
    greatest h = h.has.some

pub next-one : (g : GameData) (gap : FractionData) (before after : Sets) (cut : Bool) (visit : Visit) (next other : List ℤ) →
    VisitsAreOne g → IsRightVisit g gap before after cut visit → IsNextBelief g before visit next → IsNextBelief g before visit other → next ≡ other
next-one g gap before after cut visit next other one right p q =
    reduced-one mass next other (mass-low g visit.belief right.made.lower.informed p.a p.o)
    (mass-some mass (chosen-mass g gap before after cut visit p.a p.o right p.chosen)) (moved next p.a p.o p.advice refl refl advice p.reduced) (moved other q.a q.o q.advice (ap (λ (c : ℕ × ℕ). c.0) pair) (ap (λ (c : ℕ × ℕ). c.1) pair) other_advice q.reduced)
  where
    mass : List ℤ
    mass = mass_after g visit.belief right.made.lower.informed p.a p.o

    pair : together p.a p.o ≡ together q.a q.o
    pair = some-same (together p.a p.o) (together q.a q.o) (sym p.chosen ∙ q.chosen)

    advice : right.made.lower ≡ p.advice
    advice = (one.lower visit.belief before.nodes right.made.lower p.advice right.made.node p.node right.is_made.lower_is p.is_lower).0

    other_advice : right.made.lower ≡ q.advice
    other_advice = (one.lower visit.belief before.nodes right.made.lower q.advice right.made.node q.node right.is_made.lower_is q.is_lower).0

    moved : (parts : List ℤ) (a o : ℕ) (made : LowerAdviceData) → p.a ≡ a → p.o ≡ o → right.made.lower ≡ made → IsReduced (mass_after g visit.belief made.informed a o) parts → IsReduced mass parts
    moved parts a o made x y e h =
        subst (λ (n : ℕ). IsReduced (mass_after g visit.belief right.made.lower.informed n p.o) parts) (sym x)
        (subst (λ (n : ℕ). IsReduced (mass_after g visit.belief right.made.lower.informed a n) parts) (sym y)
        (subst (λ (m : LowerAdviceData). IsReduced (mass_after g visit.belief m.informed a o) parts) (sym e) h))
