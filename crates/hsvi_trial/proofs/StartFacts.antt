-- The start of sets: it exists, and a test of what its parts cost tells whether its bounds are near.
use Rattle.std.proofs.Common.{◌≡◌, ℕ, zero, suc, ◌*◌, ◌/◌, ◌<◌, List, [], ◌∷◌, drop, length, map, inl, inr, refl, ap, ap₂, sym, subst, ◌∙◌, arith}
use Rattle.std.proofs.Math.Nat.{dvd-mul_right, dvd_of_mul-dvd-mul_left, eq-zero_of_zero-dvd, mul-div_cancel'}
use Rattle.std.proofs.lemmas.Bool.{cases_order}
use Rattle.std.proofs.lemmas.Int.{ints, unsigned_abs-mul}
use Rattle.std.specs.Int.{◌∣◌}
use Rattle.std.specs.List.{AllByRecursion}
use Rattle.std.specs.Prelude.{ℤ, pos, slice_index_or, unsigned_abs, ◌+ℤ◌, ◌-ℤ◌, ◌*ℤ◌, ◌≤ℤ◌, ◌<ℤ◌, ◌↔◌}
use Rattle.scaled_num.specs.Share.{at}
use Rattle.scaled_num.specs.Sums.{total}
use Rattle.scaled_num.proofs.Divisors.{HasDivisor, divisor-of}
use Rattle.scaled_num.proofs.Each.{each-by-place, each-of-map}
use Rattle.scaled_num.proofs.Products.{mul-addℤ, mulℤ_assoc}
use Rattle.scaled_num.proofs.Sums.{each-map}
use Rattle.alpha_set.specs.Worth.{IsWorth}
use Rattle.alpha_set.proofs.One.{worth-one}
use Rattle.belief.proofs.Lowest.{multiple, quotients-coprime}
use Rattle.controller.specs.Certificates.{FractionData, first_total}
use Rattle.game_model.specs.Branches.{mix_total}
use Rattle.game_model.specs.Game.{AreCoprime, GameData, IsGame, unit}
use Rattle.game_model.proofs.Pay.{each-from}
use Rattle.point_set.specs.Corners.{point_at}
use Rattle.point_set.specs.Points.{PointData}
use Rattle.point_set.specs.Sawtooth.{IsSawtooth}
use Rattle.point_set.specs.Split.{MakesUp}
use Rattle.point_set.specs.Tooth.{IsToothSplit, items_cost}
use Rattle.point_set.proofs.One.{sawtooth-one}
use Rattle.point_set.proofs.OneSplit.{tooth-one}
use Rattle.hsvi_trial.specs.Founds.{IsRootPart, IsToothPart, IsUpperFound, IsUpperPart, lowest_items}
use Rattle.hsvi_trial.specs.Least.{IsLeastAt}
use Rattle.hsvi_trial.specs.Sets.{Sets}
use Rattle.hsvi_trial.specs.Starts.{AreNear, IsStart, IsToothStart, StartData, lower_of, upper_of, whole_first}
use Rattle.hsvi_trial.specs.declared.starts.Upper.{Upper}
use Rattle.hsvi_trial.specs.declared.starts.Upper.TheVariants.{Root, Tooth}
use Rattle.hsvi_trial.proofs.Near.{near-test}

-- ---- items whose weights are multiples of others
numbers-head : (x y : ℕ) (xs ys : List ℕ) → x ∷ xs ≡ y ∷ ys → x ≡ y
numbers-head x y xs ys e = ap (λ (l : List ℕ). slice_index_or l 0 x) e

weights-head : (x y : ℤ) (xs ys : List ℤ) → x ∷ xs ≡ y ∷ ys → x ≡ y
weights-head x y xs ys e = ap (λ (l : List ℤ). slice_index_or l 0 x) e

pub scaled : (f : ℕ → ℤ) (e : ℤ) (xs ys : List (ℕ × ℤ)) → map (λ item. item.0) xs ≡ map (λ item. item.0) ys → map (λ item. item.1) ys ≡ map (λ x. e *ℤ x) (map (λ item. item.1) xs) →
    e *ℤ total (λ item. item.1 *ℤ f item.0) xs ≡ total (λ item. item.1 *ℤ f item.0) ys
scaled f e [] [] n w = nothing e
  where
    nothing : (e : ℤ) → e *ℤ pos 0 ≡ pos 0
    nothing e = omega (arith, ints)
scaled f e [] (y ∷ ys) n w = absurd (omega (arith, ap length n))
scaled f e (x ∷ xs) [] n w = absurd (omega (arith, ap length n))
scaled f e (x ∷ xs) (y ∷ ys) n w =
    mul-addℤ e (x.1 *ℤ f x.0) (total (λ item. item.1 *ℤ f item.0) xs)
    ∙ ap₂ (λ (a b : ℤ). a +ℤ b)
    (sym (mulℤ_assoc e x.1 (f x.0)) ∙ ap₂ (λ (a b : ℤ). a *ℤ b) (sym (weights-head y.1 (e *ℤ x.1) _ _ w)) (ap f (numbers-head x.0 y.0 _ _ n)))
    (scaled f e xs ys (ap (drop 1) n) (ap (drop 1) w))

-- ---- what divides the first belief, times the mix total
abbrev Divides : ℕ → ℤ → Type 0
Divides d x = d ∣ unsigned_abs x

times-mix : (x : ℤ) → unsigned_abs (pos mix_total *ℤ x) ≡ mix_total * unsigned_abs x
times-mix x = unsigned_abs-mul (pos mix_total) x

whole-divides : (first : List ℤ) (d : ℕ) → AreCoprime first → AllByRecursion (Divides d) (map (λ x. pos mix_total *ℤ x) first) → d ∣ mix_total
whole-divides first d coprime all =
    let whole : List ℤ = map (λ x. pos mix_total *ℤ x) first in
    let most : HasDivisor whole = divisor-of whole in
    let mix : mix_total ∣ most.divisor = most.greatest mix_total (each-map (Divides mix_total) (λ x. pos mix_total *ℤ x) first (every first)) in
    subst (λ (n : ℕ). d ∣ n) (is most.divisor mix most.divides) (most.greatest d all)
  where
    every : (xs : List ℤ) → AllByRecursion (λ x. Divides mix_total (pos mix_total *ℤ x)) xs
    every [] = tt
    every (x ∷ xs) = (subst (λ (n : ℕ). mix_total ∣ n) (sym (times-mix x)) (dvd-mul_right mix_total (unsigned_abs x)), every xs)

    is : (m : ℕ) → mix_total ∣ m → AllByRecursion (Divides m) (map (λ x. pos mix_total *ℤ x) first) → m ≡ mix_total
    is m mix divides =
        let k : ℕ = m / mix_total in
        let e : mix_total * k ≡ m = mul-div_cancel' mix_total mix in
        let one : k ≡ 1 = coprime k (each-from (λ x. Divides m (pos mix_total *ℤ x)) (λ x. Divides k x) first
        (λ x h. dvd_of_mul-dvd-mul_left {k = mix_total} k (omega arith) (subst (λ (n : ℕ). n ∣ mix_total * unsigned_abs x) (sym e) (subst (λ (n : ℕ). m ∣ n) (times-mix x) h)))
        (each-of-map (Divides m) (λ x. pos mix_total *ℤ x) first divides)) in
        sym e ∙ ap (λ (n : ℕ). mix_total * n) one

-- ---- the start by the sawtooth
not-negative : (items : List (ℕ × ℤ)) → AllByRecursion (λ item. pos 1 ≤ℤ item.1) items → AllByRecursion (λ x. pos 0 ≤ℤ x) (map (λ item. item.1) items)
not-negative [] h = tt
not-negative (x ∷ xs) h = (weaker x.1 h.0, not-negative xs h.1)
  where
    weaker : (z : ℤ) → pos 1 ≤ℤ z → pos 0 ≤ℤ z
    weaker z l = omega (arith, ints)

listed-same : (d : ℕ) (items : List (ℕ × ℤ)) → map (λ item. item.0) (lowest_items d items) ≡ map (λ item. item.0) items
listed-same d [] = refl
listed-same d (x ∷ xs) = ap (λ (ns : List ℕ). x.0 ∷ ns) (listed-same d xs)

weights-same : (d : ℕ) (items : List (ℕ × ℤ)) → map (λ item. item.1) (lowest_items d items) ≡ map (λ x. pos (unsigned_abs x / d)) (map (λ item. item.1) items)
weights-same d [] = refl
weights-same d (x ∷ xs) = ap (λ (ws : List ℤ). pos (unsigned_abs x.1 / d) ∷ ws) (weights-same d xs)

-- a divisor of all weights divides the mix total
divides-mix : (g : GameData) → IsGame g → (points : List PointData) (items : List (ℕ × ℤ)) (d : ℕ) → AllByRecursion (λ item. pos 1 ≤ℤ item.1) items → MakesUp points items (whole_first g) →
    AllByRecursion (λ item. d ∣ unsigned_abs item.1) items → d ∣ mix_total
divides-mix g game points items d positive made divides =
    whole-divides g.first d game.coprime (each-by (whole_first g) (λ s l. subst (Divides d) (made s l) (sum s)))
  where
    each-by : (xs : List ℤ) → ((s : ℕ) → s < length xs → Divides d (at xs s)) → AllByRecursion (Divides d) xs
    each-by xs h = each-by-place (Divides d) (pos 0) xs h

    weights : AllByRecursion (Divides d) (map (λ item. item.1) items)
    weights = each-map (Divides d) (λ item. item.1) items divides

    times : map (λ item. item.1) items ≡ map (λ x. pos d *ℤ x) (map (λ item. item.1) (lowest_items d items))
    times = multiple d (map (λ item. item.1) items) (not-negative items positive) weights ∙ ap (map (λ x. pos d *ℤ x)) (sym (weights-same d items))

    sum : (s : ℕ) → Divides d (total (λ item. item.1 *ℤ at (point_at points item.0).belief s) items)
    sum s =
        let f : ℕ → ℤ = λ k. at (point_at points k).belief s in
        let t : ℤ = total (λ item. item.1 *ℤ f item.0) (lowest_items d items) in
        subst (Divides d) (scaled f (pos d) (lowest_items d items) items (listed-same d items) times)
        (subst (λ (n : ℕ). d ∣ n) (sym (unsigned_abs-mul (pos d) t)) (dvd-mul_right d (unsigned_abs t)))

pub some-divisor : (g : GameData) → IsGame g → (points : List PointData) (items : List (ℕ × ℤ)) (d : ℕ) → AllByRecursion (λ item. pos 1 ≤ℤ item.1) items → MakesUp points items (whole_first g) →
    AllByRecursion (λ item. d ∣ unsigned_abs item.1) items → 0 < d
some-divisor g game points items zero positive made divides = absurd (none (eq-zero_of_zero-dvd (divides-mix g game points items 0 positive made divides)))
  where
    none : mix_total ≡ 0 → ⊥
    none e = omega arith
some-divisor g game points items (suc d) positive made divides = omega arith

pub tooth-start : (g : GameData) → IsGame g → (points : List PointData) (items : List (ℕ × ℤ)) (d node : ℕ) → IsToothSplit points (whole_first g) items → MakesUp points items (whole_first g) →
    AllByRecursion (λ item. d ∣ unsigned_abs item.1) items → ((e : ℕ) → AllByRecursion (λ item. e ∣ unsigned_abs item.1) items → e ∣ d) →
    IsToothStart g points (record { node = node; points = lowest_items d items; multiple = pos (mix_total / d) })
tooth-start g game points items d node split made divides greatest = record {
  items = items;
  split = split;
  listed = listed-same d items;
  lowest = record {
    divisor = d;
    times = multiple d weights low all ∙ ap (map (λ x. pos d *ℤ x)) (sym (weights-same d items));
    coprime = subst AreCoprime (sym (weights-same d items))
        (quotients-coprime d weights (some-divisor g game points items d split.positive made divides) low all
        (λ e h. greatest e (each-of-map (λ x. e ∣ unsigned_abs x) (λ item. item.1) items h)));
  };
  multiple = ap pos (mul-div_cancel' d (divides-mix g game points items d split.positive made divides));
}
  where
    weights : List ℤ
    weights = map (λ item. item.1) items

    low : AllByRecursion (λ x. pos 0 ≤ℤ x) weights
    low = not-negative items split.positive

    all : AllByRecursion (λ x. d ∣ unsigned_abs x) weights
    all = each-map (λ x. d ∣ unsigned_abs x) (λ item. item.1) items divides

-- ---- the start exists
cross : (x y : ℤ) → x <ℤ y → y ≤ℤ x → ⊥
cross x y l m = omega (arith, ints)

pub root-start : (g : GameData) (sets : Sets) (low : ℤ) (node number : ℕ) (high sawtooth : ℤ) (root : ℕ) → IsWorth sets.nodes g.first low node → IsLeastAt sets.points g.first (length sets.points) root →
    IsSawtooth sets.points (whole_first g) sawtooth → IsRootPart sets.points root sawtooth number high → IsStart g sets (record { node = node; points = (number, pos 1) ∷ []; multiple = pos 1 })
root-start g sets low node number high sawtooth root is_worth is_root is_sawtooth part = record {
  worth = low;
  node = is_worth;
  root = root;
  is_root = is_root;
  high = sawtooth;
  sawtooth = is_sawtooth;
  by_tooth = λ l. absurd (cross sawtooth (pos mix_total *ℤ (point_at sets.points root).value) l part.least);
  by_root = λ _. (ap (λ (k : ℕ). (k, pos 1) ∷ []) part.same, refl);
}

pub tooth-started : (g : GameData) → IsGame g → (sets : Sets) (low : ℤ) (node d : ℕ) (items : List (ℕ × ℤ)) (high sawtooth : ℤ) (root : ℕ) → IsWorth sets.nodes g.first low node →
    IsLeastAt sets.points g.first (length sets.points) root → IsSawtooth sets.points (whole_first g) sawtooth → IsToothPart g sets.points root sawtooth items high →
    AllByRecursion (λ item. d ∣ unsigned_abs item.1) items → ((e : ℕ) → AllByRecursion (λ item. e ∣ unsigned_abs item.1) items → e ∣ d) →
    IsStart g sets (record { node = node; points = lowest_items d items; multiple = pos (mix_total / d) })
tooth-started g game sets low node d items high sawtooth root is_worth is_root is_sawtooth part divides greatest = record {
  worth = low;
  node = is_worth;
  root = root;
  is_root = is_root;
  high = sawtooth;
  sawtooth = is_sawtooth;
  by_tooth = λ _. tooth-start g game sets.points items d node part.split part.made divides greatest;
  by_root = λ l. absurd (cross sawtooth (pos mix_total *ℤ (point_at sets.points root).value) part.least l);
}

abbrev pub SomeStart : GameData → Sets → Type 0
SomeStart g sets = (start : StartData) × IsStart g sets start

exists : (g : GameData) → IsGame g → (sets : Sets) (low : ℤ) (node : ℕ) (upper : Upper) (high sawtooth : ℤ) (root : ℕ) → IsWorth sets.nodes g.first low node →
    IsLeastAt sets.points g.first (length sets.points) root → IsSawtooth sets.points (whole_first g) sawtooth → IsUpperPart g sets.points root sawtooth upper high → SomeStart g sets
exists g game sets low node (Root number) high sawtooth root is_worth is_root is_sawtooth part =
    (record { node = node; points = (number, pos 1) ∷ []; multiple = pos 1 }, root-start g sets low node number high sawtooth root is_worth is_root is_sawtooth part)
exists g game sets low node (Tooth items) high sawtooth root is_worth is_root is_sawtooth part =
    let most : HasDivisor (map (λ (item : ℕ × ℤ). item.1) items) = divisor-of (map (λ item. item.1) items) in (
      record { node = node; points = lowest_items most.divisor items; multiple = pos (mix_total / most.divisor) },
      tooth-started g game sets low node most.divisor items high sawtooth root is_worth is_root is_sawtooth part
          (each-of-map (Divides most.divisor) (λ item. item.1) items most.divides)
          (λ e h. most.greatest e (each-map (Divides e) (λ item. item.1) items h)),
    )

pub start-exists : (g : GameData) → IsGame g → (sets : Sets) (low : ℤ) (node : ℕ) (upper : Upper) (high : ℤ) → IsWorth sets.nodes g.first low node → IsUpperFound g sets.points upper high → SomeStart g sets
start-exists g game sets low node upper high is_worth found = exists g game sets low node upper high found.sawtooth found.root is_worth found.is_root found.is_sawtooth found.part

-- ---- the test
pub least-one : (points : List PointData) (belief : List ℤ) (count i j : ℕ) → IsLeastAt points belief count i → IsLeastAt points belief count j → i ≡ j
least-one points belief count i j p q = elim (cases_order i j) [
  | inl e ↦ e
  | inr (inl l) ↦ absurd (cross (point_at points j).value (point_at points i).value (q.first i l p.here) (p.least j q.inside q.here))
  | inr (inr l) ↦ absurd (cross (point_at points i).value (point_at points j).value (p.first j l q.here) (q.least i p.inside p.here))
]

abbrev Test : ℤ → ℤ → ℤ → FractionData → Type 0
Test high low units gap = ((high -ℤ low *ℤ pos mix_total) *ℤ gap.den) ≤ℤ (gap.num *ℤ (pos mix_total *ℤ units))

units-positive : (n : ℕ) → 0 < n → pos 0 <ℤ pos (n * unit)
units-positive n l = omega (arith, ints)

-- what the points of a start cost, times a factor, and how often they make up the first belief, times that factor
record IsScaled (points : List PointData) (start : StartData) (high : ℤ) : Type 0 where
  pub factor : ℤ
  pub positive : pos 0 <ℤ factor
  pub cost : factor *ℤ items_cost points start.points ≡ high
  pub often : factor *ℤ start.multiple ≡ pos mix_total

root-scaled : (g : GameData) (sets : Sets) (start : StartData) (number : ℕ) (high sawtooth : ℤ) (root : ℕ) → IsLeastAt sets.points g.first (length sets.points) root →
    IsSawtooth sets.points (whole_first g) sawtooth → IsRootPart sets.points root sawtooth number high → IsStart g sets start → IsScaled sets.points start high
root-scaled g sets start number high sawtooth root is_root is_sawtooth part is = record {
  factor = pos mix_total;
  positive = omega (arith, ints);
  cost = ap (λ (items : List (ℕ × ℤ)). pos mix_total *ℤ items_cost sets.points items) here.0 ∙ ap (λ (z : ℤ). pos mix_total *ℤ z) (once (point_at sets.points is.root).value)
      ∙ ap (λ (k : ℕ). pos mix_total *ℤ (point_at sets.points k).value) same ∙ sym part.is_high;
  often = ap (λ (z : ℤ). pos mix_total *ℤ z) here.1;
}
  where
    same : is.root ≡ root
    same = least-one sets.points g.first (length sets.points) is.root root is.is_root is_root

    here : (start.points ≡ (is.root, pos 1) ∷ []) × (start.multiple ≡ pos 1)
    here = is.by_root (subst (λ (k : ℕ). (pos mix_total *ℤ (point_at sets.points k).value) ≤ℤ is.high) (sym same)
        (subst (λ (z : ℤ). (pos mix_total *ℤ (point_at sets.points root).value) ≤ℤ z) (sawtooth-one sets.points (whole_first g) sawtooth is.high is_sawtooth is.sawtooth) part.least))

    once : (z : ℤ) → pos 1 *ℤ z +ℤ pos 0 ≡ z
    once z = omega (arith, ints)

tooth-scaled : (g : GameData) (sets : Sets) (start : StartData) (items : List (ℕ × ℤ)) (high sawtooth : ℤ) (root : ℕ) → IsLeastAt sets.points g.first (length sets.points) root →
    IsSawtooth sets.points (whole_first g) sawtooth → IsToothPart g sets.points root sawtooth items high → IsStart g sets start → IsScaled sets.points start high
tooth-scaled g sets start items high sawtooth root is_root is_sawtooth part is = record {
  factor = pos tooth.lowest.divisor;
  positive = some tooth.lowest.divisor start.multiple tooth.multiple;
  cost = scaled (λ k. (point_at sets.points k).value) (pos tooth.lowest.divisor) start.points tooth.items tooth.listed tooth.lowest.times
      ∙ ap (items_cost sets.points) (tooth-one sets.points (whole_first g) tooth.items items tooth.split part.split)
      ∙ sawtooth-one sets.points (whole_first g) (items_cost sets.points items) sawtooth part.cost is_sawtooth ∙ sym part.is_high;
  often = tooth.multiple;
}
  where
    same : is.root ≡ root
    same = least-one sets.points g.first (length sets.points) is.root root is.is_root is_root

    tooth : IsToothStart g sets.points start
    tooth = is.by_tooth (subst (λ (z : ℤ). z <ℤ (pos mix_total *ℤ (point_at sets.points is.root).value)) (sawtooth-one sets.points (whole_first g) sawtooth is.high is_sawtooth is.sawtooth)
        (subst (λ (k : ℕ). sawtooth <ℤ (pos mix_total *ℤ (point_at sets.points k).value)) (sym same) part.least))

    some : (d : ℕ) (w : ℤ) → pos d *ℤ w ≡ pos mix_total → pos 0 <ℤ pos d
    some zero w e = absurd (nothing w e)
      where
        nothing : (w : ℤ) → pos 0 *ℤ w ≡ pos mix_total → ⊥
        nothing w e = omega (arith, ints)
    some (suc d) w e = omega (arith, ints)

is-scaled : (g : GameData) (sets : Sets) (start : StartData) (upper : Upper) (high sawtooth : ℤ) (root : ℕ) → IsLeastAt sets.points g.first (length sets.points) root →
    IsSawtooth sets.points (whole_first g) sawtooth → IsUpperPart g sets.points root sawtooth upper high → IsStart g sets start → IsScaled sets.points start high
is-scaled g sets start (Root number) high sawtooth root is_root is_sawtooth part is = root-scaled g sets start number high sawtooth root is_root is_sawtooth part is
is-scaled g sets start (Tooth items) high sawtooth root is_root is_sawtooth part is = tooth-scaled g sets start items high sawtooth root is_root is_sawtooth part is

pub near-exact : (g : GameData) (gap : FractionData) (sets : Sets) (low : ℤ) (node : ℕ) (upper : Upper) (high : ℤ) (start : StartData) → 0 < first_total g → IsWorth sets.nodes g.first low node →
    IsUpperFound g sets.points upper high → IsStart g sets start → Test high low (pos (first_total g * unit)) gap ↔ AreNear (lower_of g sets start) (upper_of g sets start) gap
near-exact g gap sets low node upper high start some is_worth found is =
    let s = is-scaled g sets start upper high found.sawtooth found.root found.is_root found.is_sawtooth found.part is in
    let low_is : low ≡ (lower_of g sets start).num = (worth-one sets.nodes g.first low is.worth node start.node is_worth is.node).0 ∙ is.node.has in
    subst (λ (z : ℤ). Test high low (pos (first_total g * unit)) gap ↔ AreNear (record { num = z; den = pos (first_total g * unit) }) (upper_of g sets start) gap) low_is
    (near-test (items_cost sets.points start.points) start.multiple low (pos (first_total g * unit)) s.factor high (pos mix_total) gap s.positive (units-positive (first_total g) some) s.cost s.often)
