-- An upper visit is one: its advice and its point are a function of the game, the belief and the points.
use Rattle.std.proofs.Common.{◌≡◌, ◌⊎◌, ℕ, zero, suc, ◌<◌, ◌++◌, List, [], ◌∷◌, length, map, get_or, refl, ap, ap₂, arith, sym, subst, ◌∙◌, inl, inr}
use Rattle.std.specs.Prelude.{ℤ, pos, Option, None, ◌≤ℤ◌, ◌<ℤ◌, ◌==◌, ◌&&◌, filter_map, flat_map, sum_by, take}
use Rattle.std.specs.List.{AllByRecursion}
use Rattle.std.proofs.lemmas.Bool.{cases_order}
use Rattle.std.proofs.lemmas.Int.{ints}
use Rattle.std.proofs.lemmas.List.{ext_get_or}
use Rattle.scaled_num.specs.Sums.{below, sum_of}
use Rattle.scaled_num.proofs.Floors.{All-from_recursion, All-to_recursion, NoneNegative}
use Rattle.scaled_num.proofs.Sums.{below-each, each-at, each-map, total-map, total-pos}
use Rattle.game_model.specs.Branches.{Branch, branches_at}
use Rattle.game_model.specs.Game.{GameData, numbers}
use Rattle.game_model.specs.Numbers.{Numbers}
use Rattle.belief.specs.Beliefs.{mix_weight, weight_at}
use Rattle.belief.specs.Mixes.{MixesData, mass_of}
use Rattle.belief.proofs.Landings.{each-filter}
use Rattle.point_set.proofs.One.{best-one, corner-one}
use Rattle.point_set.proofs.OneTakes.{split-one}
use Rattle.point_set.specs.Points.{Point, PointData, point_of, points_of}
use Rattle.simplex.specs.Dictionary.{Dictionary}
use Rattle.simplex.specs.declared.End.{End}
use Rattle.simplex.specs.declared.End.TheVariants.{Optimal, Spent, Unbounded, Wide}
use Rattle.stage_game.specs.Advice.{AreWantedRead}
use Rattle.stage_game.specs.AdviceData.{UpperAdviceData, first_point_row, listed_one}
use Rattle.stage_game.specs.Chosen.{different, risen}
use Rattle.stage_game.specs.Fits.{wanted_at}
use Rattle.belief.specs.After.{mass_after}
use Rattle.stage_game.specs.Masses.{masses}
use Rattle.stage_game.specs.UpperCandidates.{AreCornersAnd, ArePricedUpper, most_others, others_downwards}
use Rattle.stage_game.proofs.Families.{flat_map-below}
use Rattle.stage_game.proofs.OneAdvice.{upper-one}
use Rattle.stage_game.proofs.Placed.{map-each, over-pairs-each}
use Rattle.stage_game.proofs.ReadWeights.{prices-long, prices-low}
use Rattle.backup.specs.Evaluation.{IsNewPoint, split_branches}
use Rattle.backup.specs.UpperLaws.{UpperVisitsAreOne}
use Rattle.backup.specs.Seeds.{IsEvaluation}
use Rattle.backup.specs.Tries.{AfterEnd, AreTries, IsFirstLeast, first_bits, tried_bits}
use Rattle.backup.specs.UpperVisits.{IsUpperRun, UpperRun, value_at}
use Rattle.backup.proofs.OneSeeds.{evaluations-one}

-- ---- candidates are one
map-same : (f h : ℕ → ℕ) (xs : List ℕ) → AllByRecursion (λ i. f i ≡ h i) xs → map f xs ≡ map h xs
map-same f h [] e = refl
map-same f h (x ∷ xs) e = ap₂ (λ (y : ℕ) (ys : List ℕ). y ∷ ys) e.0 (map-same f h xs e.1)

corners-and-one : (g : GameData) (points : List PointData) (preferred xs ys : List ℕ) → AreCornersAnd g points preferred xs → AreCornersAnd g points preferred ys → xs ≡ ys
corners-and-one g points preferred xs ys p q =
    p.same
    ∙ ap (λ (corners : List ℕ). risen (length points) (corners ++ take most_others (different (preferred ++ others_downwards points))))
    (map-same p.corners q.corners (below g.shape.states) (below-each (λ s. p.corners s ≡ q.corners s) g.shape.states (λ s l. corner-one points s (p.corners s) (q.corners s) (p.current s l) (q.current s l))))
    ∙ sym q.same

priced-one : (g : GameData) (belief : List ℤ) (points : List PointData) (mixes : MixesData) (xs ys : List ℕ) → ArePricedUpper g belief points mixes xs → ArePricedUpper g belief points mixes ys → xs ≡ ys
priced-one g belief points mixes xs ys p q =
    let answers : p.answers ≡ q.answers =
    ext_get_or None p.answers q.answers (p.at_masses.count ∙ sym q.at_masses.count)
    (λ i l. let inside : i < length (masses g belief mixes) = omega (arith, p.at_masses.count) in
    best-one points (get_or (masses g belief mixes) i []) (get_or p.answers i None) (get_or q.answers i None) (p.at_masses.each i inside) (q.at_masses.each i inside)) in
    corners-and-one g points (filter_map (λ (answer : Option ℕ). answer) q.answers) xs ys
    (subst (λ (given : List (Option ℕ)). AreCornersAnd g points (filter_map (λ (answer : Option ℕ). answer) given) xs) answers p.are) q.are

-- ---- a new point is one
wanted-low : (g : GameData) (candidates : List ℕ) (d : Dictionary) (wanted : List Branch) → AreWantedRead g candidates d wanted → AllByRecursion (λ (b : Branch). pos 0 ≤ℤ b.weight) wanted
wanted-low g candidates d wanted h =
    subst (AllByRecursion (λ (b : Branch). pos 0 ≤ℤ b.weight)) (sym h.same)
    (over-pairs-each (λ (b : Branch). pos 0 ≤ℤ b.weight) g h.after (λ a o la lo.
    let read = h.read a o la lo in
    let long : length read.weights ≡ length candidates = prices-long d _ (length candidates) read.weights read.read in
    let low = All-to_recursion (λ x. pos 0 ≤ℤ x) read.weights (prices-low d (first_point_row g (length candidates) a o) (length candidates) read.weights read.read) in
    subst (AllByRecursion (λ (b : Branch). pos 0 ≤ℤ b.weight)) (sym read.same)
    (map-each (λ (b : Branch). pos 0 ≤ℤ b.weight) (listed_one a o candidates read.weights) 0 (length candidates)
    (λ i l. each-at (λ x. pos 0 ≤ℤ x) (pos 0) read.weights i low (let inside : i < length read.weights = omega arith in inside)))))

zero-or-some : (x : ℤ) (n : ℕ) → x ≡ pos n → (x ≡ pos 0) ⊎ (pos 0 <ℤ x)
zero-or-some x zero e = inl e
zero-or-some x (suc n) e = inr (subst (λ (z : ℤ). pos 0 <ℤ z) (sym e) (omega (arith, ints)))

low-pairs : (wanted : List Branch) (a o : ℕ) → AllByRecursion (λ (b : Branch). pos 0 ≤ℤ b.weight) wanted → NoneNegative (map (λ (want : ℕ × ℤ). want.1) (wanted_at wanted a o))
low-pairs wanted a o low =
    All-from_recursion (λ x. pos 0 ≤ℤ x) (map (λ (want : ℕ × ℤ). want.1) (wanted_at wanted a o))
    (each-map (λ x. pos 0 ≤ℤ x) (λ (want : ℕ × ℤ). want.1) (wanted_at wanted a o)
    (each-map (λ (want : ℕ × ℤ). pos 0 ≤ℤ want.1) (λ (b : Branch). (b.member, b.weight)) (branches_at wanted a o)
    (each-filter (λ (b : Branch). pos 0 ≤ℤ b.weight) (λ (b : Branch). (b.own == a) && (b.seen == o)) wanted low)))

items-same : (g : GameData) (belief : List ℤ) (points : List PointData) (advice : UpperAdviceData) (p q : PointData) → AllByRecursion (λ (b : Branch). pos 0 ≤ℤ b.weight) advice.wanted →
    (x : IsNewPoint g belief points advice p) (y : IsNewPoint g belief points advice q) → (a o : ℕ) → a < g.shape.own_actions → o < g.shape.observations → x.items a o ≡ y.items a o
items-same g belief points advice p q low x y a o la lo =
    let m : ℕ → ℕ = λ t. mass_of (numbers g) (weight_at belief) (mix_weight advice.informed) a o t in
    let sum_is : sum_of (mass_after g belief advice.informed a o) ≡ pos (sum_by m (below g.shape.states)) = total-map (λ (x : ℤ). x) (λ t. pos (m t)) (below g.shape.states) ∙ total-pos m (below g.shape.states) in
    elim (zero-or-some (sum_of (mass_after g belief advice.informed a o)) (sum_by m (below g.shape.states)) sum_is) [
      | inl e ↦ x.split.none a o la lo e ∙ sym (y.split.none a o la lo e)
      | inr l ↦ split-one points (wanted_at advice.wanted a o) (mass_after g belief advice.informed a o) (x.items a o) (y.items a o) (low-pairs advice.wanted a o low) (x.split.some a o la lo l) (y.split.some a o la lo l)
    ]

abbrev point-with : List ℤ → ℤ → MixesData → List Branch → PointData
point-with belief value mixes splits = record { belief = belief; value = value; mixes = mixes; splits = splits }

-- what a point must be worth does not depend on its own value
moved : (n : Numbers) (points : ℕ → Point) (belief : List ℤ) (v w x : ℤ) (mixes : MixesData) (splits others : List Branch) → splits ≡ others →
    IsEvaluation n points (point_of (point-with belief v mixes splits)) x → IsEvaluation n points (point_of (point-with belief w mixes others)) x
moved n points belief v w x mixes splits others e h =
    subst (λ (bs : List Branch). IsEvaluation n points (point_of (point-with belief w mixes bs)) x) e (record { each = h.each; some = h.some })

point-one : (g : GameData) (belief : List ℤ) (points : List PointData) (advice : UpperAdviceData) (p q : PointData) → AllByRecursion (λ (b : Branch). pos 0 ≤ℤ b.weight) advice.wanted →
    IsNewPoint g belief points advice p → IsNewPoint g belief points advice q → p ≡ q
point-one g belief points advice p q low x y =
    let beliefs : p.belief ≡ q.belief = x.belief_is ∙ sym y.belief_is in
    let mixes : p.mixes ≡ q.mixes = x.mixes_are ∙ sym y.mixes_are in
    let splits : p.splits ≡ q.splits =
    x.splits_are
    ∙ flat_map-below (λ a. flat_map (λ o. split_branches a o (x.items a o)) (below g.shape.observations)) (λ a. flat_map (λ o. split_branches a o (y.items a o)) (below g.shape.observations)) g.shape.own_actions
    (λ a la. flat_map-below (λ o. split_branches a o (x.items a o)) (λ o. split_branches a o (y.items a o)) g.shape.observations
    (λ o lo. ap (split_branches a o) (items-same g belief points advice p q low x y a o la lo)))
    ∙ sym y.splits_are in
    let first : IsEvaluation (numbers g) (points_of points) (point_of (point-with q.belief q.value q.mixes q.splits)) p.value =
    moved (numbers g) (points_of points) q.belief p.value q.value p.value q.mixes p.splits q.splits splits
    (subst (λ (m : MixesData). IsEvaluation (numbers g) (points_of points) (point_of (point-with q.belief p.value m p.splits)) p.value) mixes
    (subst (λ (b : List ℤ). IsEvaluation (numbers g) (points_of points) (point_of (point-with b p.value p.mixes p.splits)) p.value) beliefs x.value)) in
    let values : p.value ≡ q.value = evaluations-one (numbers g) (points_of points) (point_of q) p.value q.value first y.value in
    ap (λ (b : List ℤ). point-with b p.value p.mixes p.splits) beliefs
    ∙ ap (λ (v : ℤ). point-with q.belief v p.mixes p.splits) values
    ∙ ap (λ (m : MixesData). point-with q.belief q.value m p.splits) mixes
    ∙ ap (λ (bs : List Branch). point-with q.belief q.value q.mixes bs) splits

-- ---- runs are one
abbrev run-with : UpperAdviceData → PointData → UpperRun
run-with advice point = record { advice = advice; point = point }

run-one : (g : GameData) (belief : List ℤ) (points : List PointData) (candidates : List ℕ) (bits : ℕ) (r s : UpperRun) → IsUpperRun g belief points candidates bits r → IsUpperRun g belief points candidates bits s → r ≡ s
run-one g belief points candidates bits r s p q =
    let advice : r.advice ≡ s.advice = upper-one g belief points candidates bits r.advice s.advice p.advice_is q.advice_is in
    let low = wanted-low g candidates q.advice_is.last s.advice.wanted q.advice_is.wanted in
    let point : r.point ≡ s.point = point-one g belief points s.advice r.point s.point low (subst (λ (a : UpperAdviceData). IsNewPoint g belief points a r.point) advice p.point_is) q.point_is in
    ap (λ (a : UpperAdviceData). run-with a r.point) advice ∙ ap (λ (x : PointData). run-with s.advice x) point

after-one : (end : End) (xs ys : List UpperRun) (P Q : Type 0) → (P → Q → xs ≡ ys) → AfterEnd end (xs ≡ []) P → AfterEnd end (ys ≡ []) Q → xs ≡ ys
after-one Optimal xs ys P Q h p q = p ∙ sym q
after-one Spent xs ys P Q h p q = h p q
after-one (Unbounded col) xs ys P Q h p q = h p q
after-one (Wide row col) xs ys P Q h p q = h p q

tries-one : (IsTry : ℕ → UpperRun → Type 0) → ((bits : ℕ) (r s : UpperRun) → IsTry bits r → IsTry bits s → r ≡ s) → (left : List ℕ) (xs ys : List UpperRun) →
    AreTries (λ (run : UpperRun). run.advice.end) IsTry left xs → AreTries (λ (run : UpperRun). run.advice.end) IsTry left ys → xs ≡ ys
tries-one IsTry one [] xs ys p q = p ∙ sym q
tries-one IsTry one (b ∷ bs) [] ys p q = absurd p
tries-one IsTry one (b ∷ bs) (x ∷ xs) [] p q = absurd q
tries-one IsTry one (b ∷ bs) (x ∷ xs) (y ∷ ys) p q =
    let same : x ≡ y = one b x y p.0 q.0 in
    ap₂ (λ (r : UpperRun) (rs : List UpperRun). r ∷ rs) same
    (after-one x.advice.end xs ys (AreTries (λ (run : UpperRun). run.advice.end) IsTry bs xs) (AreTries (λ (run : UpperRun). run.advice.end) IsTry bs ys) (tries-one IsTry one bs xs ys) p.1
    (subst (λ (r : UpperRun). AfterEnd r.advice.end (ys ≡ []) (AreTries (λ (run : UpperRun). run.advice.end) IsTry bs ys)) (sym same) q.1))

-- ---- the first least is one
least-one : (f : ℕ → ℤ) (n i j : ℕ) → IsFirstLeast f n i → IsFirstLeast f n j → i ≡ j
least-one f n i j p q = elim (cases_order i j) [
  | inl e ↦ e
  | inr l ↦ elim l [
    | inl l ↦ absurd (never (f i) (f j) (q.first i l) (p.least j q.inside))
    | inr l ↦ absurd (never (f j) (f i) (p.first j l) (q.least i p.inside))
  ]
]
  where
    never : (x y : ℤ) → y <ℤ x → x ≤ℤ y → ⊥
    never x y h k = omega (arith, ints)

-- the run of a place among runs
record IsChosen (first : UpperRun) (tries : List UpperRun) (run : UpperRun) : Type 0 where
  pub place : ℕ
  pub least : IsFirstLeast (value_at first (first ∷ tries)) (length (first ∷ tries)) place
  pub same : get_or (first ∷ tries) place first ≡ run

chosen-one : (first : UpperRun) (tries : List UpperRun) (r s : UpperRun) → IsChosen first tries r → IsChosen first tries s → r ≡ s
chosen-one first tries r s p q =
    sym p.same
    ∙ ap (λ (k : ℕ). get_or (first ∷ tries) k first) (least-one (value_at first (first ∷ tries)) (length (first ∷ tries)) p.place q.place p.least q.least)
    ∙ q.same

-- ---- the visit
pub visits-one : UpperVisitsAreOne
visits-one g belief points advice other point second p q =
    let candidates : p.runs.candidates ≡ q.runs.candidates = corners-and-one g points [] p.runs.candidates q.runs.candidates p.runs.are_first q.runs.are_first in
    let first : p.first ≡ q.first = run-one g belief points q.runs.candidates first_bits p.first q.first (subst (λ (cs : List ℕ). IsUpperRun g belief points cs first_bits p.first) candidates p.runs.is_first) q.runs.is_first in
    let priced : p.runs.priced ≡ q.runs.priced =
    priced-one g belief points q.first.advice.informed p.runs.priced q.runs.priced
    (subst (λ (r : UpperRun). ArePricedUpper g belief points r.advice.informed p.runs.priced) first p.runs.are_priced) q.runs.are_priced in
    let tries : p.tries ≡ q.tries =
    tries-one (IsUpperRun g belief points q.runs.priced) (λ bits r s. run-one g belief points q.runs.priced bits r s) tried_bits p.tries q.tries
    (subst (λ (cs : List ℕ). AreTries (λ (run : UpperRun). run.advice.end) (IsUpperRun g belief points cs) tried_bits p.tries) priced p.runs.are_tries) q.runs.are_tries in
    let one : IsChosen p.first p.tries (run-with advice point) = record { place = p.place; least = p.best; same = p.same } in
    let two : IsChosen q.first q.tries (run-with other second) = record { place = q.place; least = q.best; same = q.same } in
    let moved : IsChosen q.first q.tries (run-with advice point) =
    subst (λ (rs : List UpperRun). IsChosen q.first rs (run-with advice point)) tries (subst (λ (r : UpperRun). IsChosen r p.tries (run-with advice point)) first one) in
    let same : run-with advice point ≡ run-with other second = chosen-one q.first q.tries (run-with advice point) (run-with other second) moved two in
    (ap (λ (r : UpperRun). r.advice) same, ap (λ (r : UpperRun). r.point) same)
