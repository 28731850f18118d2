-- Branches that a loop writes, one for each place.
use Rattle.std.proofs.Common.{◌≡◌, ℕ, ◌<◌, ◌+◌, ◌++◌, ◌∷◌, [], List, Bool, true, false, cond, map, refl, sym, ap, ◌∙◌, arith, append_assoc}
use Rattle.std.specs.Prelude.{ℤ, pos, negsuc, filter, flat_map, unsigned_abs, FitsSigned}
use Rattle.std.specs.Int.{w128}
use Rattle.std.proofs.lemmas.Bool.{lt-ltb}
use Rattle.std.proofs.lemmas.Int.{fits_signed_from_abs}
use Rattle.point_set.proofs.Named.{same-bits}
use Rattle.std.proofs.Common.{of_z, ltb, suc, zero}
use Rattle.std.proofs.lemmas.List.{append-nil}
use Rattle.std.proofs.lemmas.List.Elements.{filter-append}
use Rattle.std.proofs.lemmas.List.FromFn.{map-range_with_len_more}
use Rattle.scaled_num.specs.Sums.{below}
use Rattle.game_model.specs.Branches.{Branch}
use Rattle.game_model.specs.Game.{GameData}
use Rattle.simplex.specs.Dictionary.{Dictionary}
use Rattle.stage_game.specs.Advice.{AreStepsAfter, AreStepsRead, AreWantedAfter, AreWantedRead}
use Rattle.stage_game.specs.AdviceData.{has_weight}
use Rattle.stage_game.specs.Passed.{AddsSteps, AddsWanted}
use Rattle.stage_game.proofs.Families.{Adds}

pub place-more : (f : ℕ → Branch) (i : ℕ) (old middle new : List Branch) → middle ≡ old ++ map f (below i) → new ≡ middle ++ f i ∷ [] → new ≡ old ++ map f (below (i + 1))
place-more f i old middle new e g =
    g ∙ ap (λ (bs : List Branch). bs ++ f i ∷ []) e ∙ append_assoc old (map f (below i)) (f i ∷ [])
    ∙ ap (λ (bs : List Branch). old ++ bs) (sym (map-range_with_len_more f 0 i i (omega arith)))

passed : (b : Branch) → has_weight b ≡ true → filter has_weight (b ∷ []) ≡ b ∷ []
passed b e = ap (λ (t : Bool). cond t (b ∷ []) []) e

left : (b : Branch) → has_weight b ≡ false → filter has_weight (b ∷ []) ≡ []
left b e = ap (λ (t : Bool). cond t (b ∷ []) []) e

filter-more : (f : ℕ → Branch) (i : ℕ) → filter has_weight (map f (below (i + 1))) ≡ filter has_weight (map f (below i)) ++ filter has_weight (f i ∷ [])
filter-more f i = ap (filter has_weight) (map-range_with_len_more f 0 i i (omega arith)) ∙ filter-append has_weight (map f (below i)) (f i ∷ [])

pub step-kept : (f : ℕ → Branch) (i : ℕ) (old middle new : List Branch) → middle ≡ old ++ filter has_weight (map f (below i)) → has_weight (f i) ≡ true → new ≡ middle ++ f i ∷ []
    → new ≡ old ++ filter has_weight (map f (below (i + 1)))
step-kept f i old middle new e t g =
    g ∙ ap (λ (bs : List Branch). bs ++ f i ∷ []) e ∙ append_assoc old (filter has_weight (map f (below i))) (f i ∷ [])
    ∙ ap (λ (bs : List Branch). old ++ bs) (ap (λ (bs : List Branch). filter has_weight (map f (below i)) ++ bs) (sym (passed (f i) t)) ∙ sym (filter-more f i))

pub step-left : (f : ℕ → Branch) (i : ℕ) (old middle : List Branch) → middle ≡ old ++ filter has_weight (map f (below i)) → has_weight (f i) ≡ false
    → middle ≡ old ++ filter has_weight (map f (below (i + 1)))
step-left f i old middle e t =
    e ∙ ap (λ (bs : List Branch). old ++ bs)
    (sym (append-nil (filter has_weight (map f (below i)))) ∙ ap (λ (bs : List Branch). filter has_weight (map f (below i)) ++ bs) (sym (left (f i) t)) ∙ sym (filter-more f i))

-- ---- the steps of one own action, and of all
pub steps-of : (g : GameData) (candidates : List ℕ) (d : Dictionary) (own : List ℤ) (a : ℕ) (old new : List Branch)
    → Adds {X = List Branch} {Y = Branch} (λ o steps. AreStepsAfter g candidates d own a o steps) (λ steps. steps) g.shape.observations old new → AddsSteps g candidates d own a old new
steps-of g candidates d own a old new adds = record {
  after = adds.made.value;
  read = adds.made.right;
  same = adds.same ∙ ap (λ (bs : List Branch). old ++ bs) adds.made.same;
}

pub steps-all : (g : GameData) (candidates : List ℕ) (d : Dictionary) (own : List ℤ) (new : List Branch)
    → Adds {X = ℕ → List Branch} {Y = Branch} (λ a after. (o : ℕ) → o < g.shape.observations → AreStepsAfter g candidates d own a o (after o)) (λ after. flat_map after (below g.shape.observations)) g.shape.own_actions [] new
    → AreStepsRead g candidates d own new
steps-all g candidates d own new adds = record {
  after = adds.made.value;
  read = λ a o la lo. adds.made.right a la o lo;
  same = adds.same ∙ adds.made.same;
}

pub wanted-of : (g : GameData) (candidates : List ℕ) (d : Dictionary) (a : ℕ) (old new : List Branch)
    → Adds {X = List Branch} {Y = Branch} (λ o wanted. AreWantedAfter g candidates d a o wanted) (λ wanted. wanted) g.shape.observations old new → AddsWanted g candidates d a old new
wanted-of g candidates d a old new adds = record {
  after = adds.made.value;
  read = adds.made.right;
  same = adds.same ∙ ap (λ (bs : List Branch). old ++ bs) adds.made.same;
}

pub wanted-all : (g : GameData) (candidates : List ℕ) (d : Dictionary) (new : List Branch)
    → Adds {X = ℕ → List Branch} {Y = Branch} (λ a after. (o : ℕ) → o < g.shape.observations → AreWantedAfter g candidates d a o (after o)) (λ after. flat_map after (below g.shape.observations)) g.shape.own_actions [] new
    → AreWantedRead g candidates d new
wanted-all g candidates d new adds = record {
  after = adds.made.value;
  read = λ a o la lo. adds.made.right a la o lo;
  same = adds.same ∙ adds.made.same;
}

-- ---- the test as the code makes it, by the bits of a number
pub weighs : (x : ℤ) → (of_z w128 x ≡ 0 → ⊥) → ltb 0 (unsigned_abs x) ≡ true
weighs (pos zero) h = absurd (h refl)
weighs (pos (suc n)) h = lt-ltb 0 (suc n) (omega arith)
weighs (negsuc n) h = lt-ltb 0 (suc n) (omega arith)

pub weighs-not : (x : ℤ) → FitsSigned w128 x → of_z w128 x ≡ 0 → ltb 0 (unsigned_abs x) ≡ false
weighs-not x fits h = ap (λ (z : ℤ). ltb 0 (unsigned_abs z)) (same-bits x (pos 0) fits (fits_signed_from_abs w128 (pos 0) (omega arith)) h)
