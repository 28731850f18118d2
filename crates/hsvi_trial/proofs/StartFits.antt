-- The points of a start fit a certificate, and make up its multiple of the first belief.
use Rattle.std.proofs.Common.{◌≡◌, ℕ, zero, suc, ◌^◌, ◌<◌, ◌≤◌, List, [], ◌∷◌, length, map, ap, sym, subst, ◌∙◌, arith}
use Rattle.std.specs.Int.{◌∣◌}
use Rattle.std.specs.List.{AllByRecursion}
use Rattle.std.specs.Prelude.{ℤ, pos, unsigned_abs, ◌+ℤ◌, ◌*ℤ◌, ◌≤ℤ◌, ◌<ℤ◌}
use Rattle.std.proofs.Math.Nat.{dvd-mul_right}
use Rattle.std.proofs.lemmas.Int.{by_lt_z, ints, unsigned_abs-mul}
use Rattle.std.proofs.lemmas.Nat.Gcd.{dvd_refl}
use Rattle.scaled_num.specs.Share.{at}
use Rattle.scaled_num.specs.Sums.{sum_of, total}
use Rattle.scaled_num.proofs.Each.{each-by-place, get-map}
use Rattle.scaled_num.proofs.Floors.{product_le}
use Rattle.scaled_num.proofs.Products.{lt-mulℤ_cancel, mulℤ_assoc}
use Rattle.scaled_num.proofs.Sums.{each-at}
use Rattle.simplex.proofs.Combine.{cancel}
use Rattle.controller.specs.Starts.{AreStarts, IsStart as IsOneOf, MakesUpMultiple, most_from, most_over, weighted}
use Rattle.controller.proofs.OneStart.{one-makes-up, one-start}
use Rattle.game_model.specs.Branches.{mix_total}
use Rattle.game_model.specs.Game.{AreCoprime, GameData, IsBelief, IsGame, IsWithin}
use Rattle.game_model.proofs.Pay.{each-from}
use Rattle.point_set.specs.Corners.{point_at}
use Rattle.point_set.specs.Points.{PointData, PointFits, no_point}
use Rattle.point_set.specs.Split.{AreRisingPairs}
use Rattle.point_set.specs.Takes.{AreBeliefs, AreItems}
use Rattle.point_set.proofs.Items.{items-most}
use Rattle.hsvi_trial.specs.Sets.{Sets}
use Rattle.hsvi_trial.specs.Starts.{IsStart, IsToothStart, StartData, whole_first}
use Rattle.hsvi_trial.proofs.OneLists.{head-same, some-none, tail-same}
use Rattle.hsvi_trial.proofs.StartFacts.{scaled}
use Rattle.hsvi_trial.proofs.ToothItems.{tooth-items}
use Rattle.hsvi_trial.proofs.WholeFirst.{times_mix, whole-mass, whole-sum}

abbrev Items : Type 0
Items = List (ℕ × ℤ)

abbrev numbers_of : Items → List ℕ
numbers_of items = map (λ item. item.0) items

abbrev weights_of : Items → List ℤ
weights_of items = map (λ item. item.1) items

-- the points of a start, among so many points: starts that make up the multiple of the first belief
pub record StartsThere (g : GameData) (points : List PointData) (starts : Items) (multiple : ℤ) : Type 0 where
  pub over : AreStarts (length points) (pos most_over) starts
  pub multiple_fits : IsWithin (pos 1) (pos most_from) multiple
  pub made : MakesUpMultiple points starts multiple g.first g.shape.states

-- ---- one start
root-there : (g : GameData) (points : List PointData) (root : ℕ) → root < length points →
    (point_at points root).belief ≡ g.first → StartsThere g points ((root, pos 1) ∷ []) (pos 1)
root-there g points root inside here = record {
  over = one-start (length points) root (pos most_over) inside (omega (arith, ints));
  multiple_fits = (omega (arith, ints), omega (arith, ints));
  made = one-makes-up g points root here;
}

-- ---- items in lowest terms
-- a number whose multiple is 1 to the most is too
lesser : (d : ℕ) (x most : ℤ) → IsWithin (pos 1) most (pos d *ℤ x) → IsWithin (pos 1) most x
lesser zero x most w = absurd (never x w.0)
  where
    never : (x : ℤ) → pos 1 ≤ℤ (pos 0 *ℤ x) → ⊥
    never x l = omega (arith, ints)
lesser (suc d) x most w =
    let low : pos 1 ≤ℤ x = from (lt-mulℤ_cancel (suc d) (pos 0) x (above (pos (suc d) *ℤ x) (suc d) w.0)) in
    (low, through x (pos (suc d) *ℤ x) most (turned low) w.1)
  where
    above : (y : ℤ) (n : ℕ) → pos 1 ≤ℤ y → (pos n *ℤ pos 0) <ℤ y
    above y n l = omega (arith, ints)

    from : pos 0 <ℤ x → pos 1 ≤ℤ x
    from l = omega (arith, ints)

    once : (z : ℤ) → pos 1 *ℤ z ≡ z
    once z = omega (arith, ints)

    turned : pos 1 ≤ℤ x → x ≤ℤ (pos (suc d) *ℤ x)
    turned l = subst (λ (z : ℤ). z ≤ℤ (pos (suc d) *ℤ x)) (once x)
        (product_le (pos 1) (pos (suc d)) x (omega (arith, ints)) (omega (arith, ints)))

    through : (a b c : ℤ) → a ≤ℤ b → b ≤ℤ c → a ≤ℤ c
    through a b c l m = omega (arith, ints)

rising-same : (xs ys : Items) → numbers_of xs ≡ numbers_of ys → AreRisingPairs ys → AreRisingPairs xs
rising-same [] ys e h = tt
rising-same (x ∷ []) ys e h = tt
rising-same (x ∷ y ∷ xs) [] e h = absurd (some-none x.0 (numbers_of (y ∷ xs)) e)
rising-same (x ∷ y ∷ xs) (a ∷ []) e h = absurd
    (some-none y.0 (numbers_of xs) (tail-same x.0 a.0 (numbers_of (y ∷ xs)) [] e))
rising-same (x ∷ y ∷ xs) (a ∷ b ∷ ys) e h =
    let rest : numbers_of (y ∷ xs) ≡ numbers_of (b ∷ ys) = tail-same x.0 a.0 (numbers_of (y ∷ xs))
    (numbers_of (b ∷ ys)) e in (
      omega (
        arith,
        head-same x.0 a.0 (numbers_of (y ∷ xs)) (numbers_of (b ∷ ys)) e,
        head-same y.0 b.0 (numbers_of xs) (numbers_of ys) rest,
        h.0,
      ),
      rising-same (y ∷ xs) (b ∷ ys) rest h.1,
    )

each-lesser : (d count : ℕ) (most : ℤ) (xs ys : Items) → numbers_of xs ≡ numbers_of ys →
    weights_of ys ≡ map (λ x. pos d *ℤ x) (weights_of xs) →
    AllByRecursion (λ item. item.0 < count) ys → AllByRecursion (λ item. pos 1 ≤ℤ item.1) ys →
    AllByRecursion (λ item. item.1 ≤ℤ most) ys → AllByRecursion (IsOneOf count most) xs
each-lesser d count most [] ys n w inside low high = tt
each-lesser d count most (x ∷ xs) [] n w inside low high = absurd (some-none x.0 (numbers_of xs) n)
each-lesser d count most (x ∷ xs) (y ∷ ys) n w inside low high =
    let times : List ℤ = map (λ x. pos d *ℤ x) (weights_of xs) in
    let weight : y.1 ≡ pos d *ℤ x.1 = head-same y.1 (pos d *ℤ x.1) (weights_of ys) times w in (
      (
        subst (λ (k : ℕ). k < count) (sym (head-same x.0 y.0 (numbers_of xs) (numbers_of ys) n)) inside.0,
        lesser d x.1 most (subst (IsWithin (pos 1) most) weight (low.0, high.0)),
      ),
      each-lesser d count most xs ys (tail-same x.0 y.0 (numbers_of xs) (numbers_of ys) n)
          (tail-same y.1 (pos d *ℤ x.1) (weights_of ys) times w) inside.1 low.1 high.1,
    )

some-coprime : (starts : Items) → AreCoprime (weights_of starts) → 1 ≤ length starts
some-coprime [] coprime = absurd (no-divisor 2 (omega arith) (coprime 2 tt))
  where
    no-divisor : (n : ℕ) → 1 < n → n ≡ 1 → ⊥
    no-divisor n l e = omega arith
some-coprime (x ∷ xs) coprime = omega arith

-- ---- the start by the sawtooth
tooth-there : (g : GameData) → IsGame g → (points : List PointData) (start : StartData) →
    AllByRecursion (PointFits g (length points)) points → IsToothStart g points start →
    StartsThere g points start.points start.multiple
tooth-there g game points start fit tooth = record {
  over = record {
    some = some-coprime start.points tooth.lowest.coprime;
    rising = rising-same start.points tooth.items tooth.listed items.rising;
    each = each-lesser d (length points) (pos most_over) start.points tooth.items tooth.listed tooth.lowest.times
        items.inside items.positive
        (each-from (λ (item : ℕ × ℤ). item.1 ≤ℤ sum_of whole) (λ (item : ℕ × ℤ). item.1 ≤ℤ pos most_over) tooth.items
        (λ item l. light item.1 l) most);
    coprime = tooth.lowest.coprime;
  };
  multiple_fits = lesser d start.multiple (pos most_from)
      (subst (IsWithin (pos 1) (pos most_from)) (sym tooth.multiple) (omega (arith, ints), omega (arith, ints)));
  made = λ s l. cancel (pos d) (weighted start.points (f s)) (start.multiple *ℤ at g.first s)
      (positive d start.multiple tooth.multiple)
      (scaled (f s) (pos d) start.points tooth.items tooth.listed tooth.lowest.times ∙ sum s l ∙ part s l
      ∙ ap (λ (z : ℤ). z *ℤ at g.first s) (sym tooth.multiple) ∙ mulℤ_assoc (pos d) start.multiple (at g.first s));
}
  where
    whole : List ℤ
    whole = whole_first g

    long : length whole ≡ g.shape.states
    long = (whole-mass g game).long

    beliefs : AreBeliefs (length whole) points
    beliefs = subst (λ (n : ℕ). AreBeliefs n points) (sym long)
        (each-from (PointFits g (length points)) (λ (point : PointData). IsBelief g.shape.states point.belief) points
        (λ point h. h.belief) fit)

    items : AreItems points whole (λ s. pos 0) tooth.items
    items = tooth-items points whole tooth.items beliefs (whole-mass g game).each tooth.split

    most : AllByRecursion (λ item. item.1 ≤ℤ sum_of whole) tooth.items
    most = items-most points whole (λ s. pos 0) tooth.items beliefs (whole-mass g game).each
        (λ s l. omega (arith, ints)) items

    light : (x : ℤ) → x ≤ℤ sum_of whole → x ≤ℤ pos most_over
    light x l = upto x (sum_of whole) (sum_of g.first) l (whole-sum g) game.first.sums.1
      where
        upto : (x y b : ℤ) → x ≤ℤ y → y ≡ pos 65536 *ℤ b → b ≤ℤ pos (2 ^ 20) → x ≤ℤ pos (2 ^ 36)
        upto x y b l e h = omega (arith, ints)

    d : ℕ
    d = tooth.lowest.divisor

    positive : (d : ℕ) (w : ℤ) → pos d *ℤ w ≡ pos mix_total → pos 0 <ℤ pos d
    positive zero w e = absurd (omega (arith, ints))
    positive (suc d) w e = omega (arith, ints)

    f : ℕ → ℕ → ℤ
    f s j = at (point_at points j).belief s

    sum : (s : ℕ) → s < g.shape.states → total (λ item. item.1 *ℤ f s item.0) tooth.items ≡ at whole s
    sum s l = alone (total (λ item. item.1 *ℤ f s item.0) tooth.items)
        ∙ items.made s (subst (λ (n : ℕ). s < n) (sym long) l)
      where
        alone : (z : ℤ) → z ≡ z +ℤ pos 0
        alone z = omega (arith, ints)

    part : (s : ℕ) → s < g.shape.states → at whole s ≡ pos mix_total *ℤ at g.first s
    part s l = get-map times_mix g.first s (pos 0) (pos 0) (subst (λ (n : ℕ). s < n) (sym game.first.long) l)

-- ---- every start
pub start-there : (g : GameData) → IsGame g → (sets : Sets) (start : StartData) →
    AllByRecursion (PointFits g (length sets.points)) sets.points → IsStart g sets start →
    StartsThere g sets.points start.points start.multiple
start-there g game sets start fit is =
    by_lt_z is.high (pos mix_total *ℤ (point_at sets.points is.root).value) by-tooth by-root
  where
    by-tooth : is.high <ℤ (pos mix_total *ℤ (point_at sets.points is.root).value) →
        StartsThere g sets.points start.points start.multiple
    by-tooth l = tooth-there g game sets.points start fit (is.by_tooth l)

    by-root : (pos mix_total *ℤ (point_at sets.points is.root).value) ≤ℤ is.high →
        StartsThere g sets.points start.points start.multiple
    by-root l =
        let is_root = is.by_root l in
        subst (λ (starts : Items). StartsThere g sets.points starts start.multiple) (sym is_root.0)
        (subst (λ (z : ℤ). StartsThere g sets.points ((is.root, pos 1) ∷ []) z) (sym is_root.1)
        (root-there g sets.points is.root is.is_root.inside is.is_root.here))

-- ---- a single start point is at the first belief
of-size-one : (x : ℤ) → pos 1 ≤ℤ x → unsigned_abs x ≡ 1 → x ≡ pos 1
of-size-one x l e = omega (arith, ints)

divides-itself : (x : ℤ) → AreCoprime (x ∷ []) → pos 1 ≤ℤ x → x ≡ pos 1
divides-itself x coprime low = of-size-one x low (coprime (unsigned_abs x) (dvd_refl (unsigned_abs x), tt))

-- a belief whose weights are multiples is at that belief
same-belief : (belief first : List ℤ) (multiple : ℤ) → AreCoprime belief → pos 1 ≤ℤ multiple →
    ((s : ℕ) → s < length belief → at belief s ≡ multiple *ℤ at first s) → multiple ≡ pos 1
same-belief belief first multiple coprime low each =
    of-size-one multiple low (coprime d (each-by-place (λ x. d ∣ unsigned_abs x) (pos 0) belief (λ s l.
    subst (λ (z : ℤ). d ∣ unsigned_abs z) (sym (each s l))
    (subst (λ (n : ℕ). d ∣ n) (sym (unsigned_abs-mul multiple (at first s)))
    (dvd-mul_right d (unsigned_abs (at first s)))))))
  where
    d : ℕ
    d = unsigned_abs multiple

pub single-multiple : (g : GameData) (points : List PointData) (starts : Items) (multiple : ℤ) →
    AllByRecursion (PointFits g (length points)) points → StartsThere g points starts multiple →
    length starts ≡ 1 → multiple ≡ pos 1
single-multiple g points [] multiple fit there one = absurd (omega arith)
single-multiple g points (x ∷ y ∷ xs) multiple fit there one = absurd (omega arith)
single-multiple g points (x ∷ []) multiple fit there one =
    same-belief belief g.first multiple fits.coprime there.multiple_fits.0 (λ s l.
    once x.1 (at belief s) weight ∙ there.made s (subst (λ (n : ℕ). s < n) fits.belief.long l))
  where
    belief : List ℤ
    belief = (point_at points x.0).belief

    fits : PointFits g (length points) (point_at points x.0)
    fits = each-at (PointFits g (length points)) no_point points x.0 fit there.over.each.0.0

    weight : x.1 ≡ pos 1
    weight = divides-itself x.1 there.over.coprime there.over.each.0.1.0

    once : (w z : ℤ) → w ≡ pos 1 → z ≡ w *ℤ z +ℤ pos 0
    once w z e = rw e (omega (arith, ints))
