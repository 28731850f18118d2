-- The start of sets is one; so their bounds are open or closed, and not both.
use Rattle.std.proofs.Common.{◌≡◌, ℕ, zero, suc, ◌*◌, ◌/◌, ◌<◌, List, [], ◌∷◌, inl, inr, refl, ap, ap₂, sym, subst, ◌∙◌, arith, length}
use Rattle.std.specs.Prelude.{ℤ, pos, ◌*ℤ◌, ◌≤ℤ◌, ◌<ℤ◌, map, unsigned_abs}
use Rattle.std.specs.List.{AllByRecursion}
use Rattle.std.proofs.lemmas.Bool.{cases_order}
use Rattle.std.proofs.lemmas.Int.{by_lt_z, ints, unsigned_abs-mul}
use Rattle.std.proofs.Math.Nat.{mul-div_cancel}
use Rattle.alpha_set.proofs.One.{worth-one}
use Rattle.belief.specs.Laws.{IsSome}
use Rattle.belief.specs.Reduced.{AreLowest}
use Rattle.belief.proofs.OneReduced.{lowest-one}
use Rattle.controller.specs.Certificates.{FractionData}
use Rattle.game_model.specs.Branches.{mix_total}
use Rattle.game_model.specs.Game.{GameData}
use Rattle.point_set.specs.Corners.{point_at}
use Rattle.point_set.specs.Points.{PointData}
use Rattle.point_set.proofs.One.{sawtooth-one}
use Rattle.point_set.proofs.OneSplit.{tooth-one}
use Rattle.simplex.proofs.Combine.{cancel}
use Rattle.hsvi_trial.specs.Least.{IsLeastAt}
use Rattle.hsvi_trial.specs.Sets.{Sets}
use Rattle.hsvi_trial.specs.Starts.{AreClosed, AreNear, AreOpen, IsStart, IsToothStart, StartData, lower_of, upper_of, whole_first}
use Rattle.hsvi_trial.proofs.OneLists.{head-same, none-some, some-none, tail-same}

-- ---- the first point of least value
apart : (x y : ℤ) → x <ℤ y → y ≤ℤ x → ⊥
apart x y l m = omega (arith, ints)

least-before : (points : List PointData) (belief : List ℤ) (count k j : ℕ) → IsLeastAt points belief count k → IsLeastAt points belief count j → k < j → ⊥
least-before points belief count k j p q l = apart (point_at points j).value (point_at points k).value (q.first k l p.here) (p.least j q.inside q.here)

pub least-one : (points : List PointData) (belief : List ℤ) (count k j : ℕ) → IsLeastAt points belief count k → IsLeastAt points belief count j → k ≡ j
least-one points belief count k j p q = elim (cases_order k j) [
  | inl e ↦ e
  | inr l ↦ elim l [
    | inl l ↦ absurd (least-before points belief count k j p q l)
    | inr l ↦ absurd (least-before points belief count j k q p l)
  ]
]

-- ---- numbers in lowest terms, and a multiple of the divisor

abbrev weights : List (ℕ × ℤ) → List ℤ
weights items = map (λ item. item.1) items

abbrev numbers_of : List (ℕ × ℤ) → List ℕ
numbers_of items = map (λ item. item.0) items

abbrev together : ℕ → ℤ → ℕ × ℤ
together n z = (n, z)

-- pairs are the same where both their parts are
pairs-same : (xs ys : List (ℕ × ℤ)) → numbers_of xs ≡ numbers_of ys → weights xs ≡ weights ys → xs ≡ ys
pairs-same [] [] e f = refl
pairs-same [] (y ∷ ys) e f = absurd (none-some y.0 (numbers_of ys) e)
pairs-same (x ∷ xs) [] e f = absurd (some-none x.0 (numbers_of xs) e)
pairs-same (x ∷ xs) (y ∷ ys) e f =
    ap₂ (λ (z : ℕ × ℤ) (zs : List (ℕ × ℤ)). z ∷ zs)
    (ap₂ together (head-same x.0 y.0 (numbers_of xs) (numbers_of ys) e) (head-same x.1 y.1 (weights xs) (weights ys) f))
    (pairs-same xs ys (tail-same x.0 y.0 (numbers_of xs) (numbers_of ys) e) (tail-same x.1 y.1 (weights xs) (weights ys) f))

abbrev so_often : ℕ → List ℤ → List ℤ
so_often d xs = map (λ x. pos d *ℤ x) xs

-- the first of some positive weights
record HasFirst (items : List (ℕ × ℤ)) : Type 0 where
  pub first : ℕ × ℤ
  pub rest : List (ℕ × ℤ)
  pub same : items ≡ first ∷ rest
  pub positive : pos 1 ≤ℤ first.1

above-one : (n : ℕ) → 1 < n → n ≡ 1 → ⊥
above-one n l e = omega arith

-- items whose weights have a form in lowest terms are some
has-first : (items : List (ℕ × ℤ)) (lowest : List ℤ) → AllByRecursion (λ item. pos 1 ≤ℤ item.1) items → AreLowest (weights items) lowest → HasFirst items
has-first [] [] positive low = absurd (above-one 2 (omega arith) (low.coprime 2 tt))
has-first [] (x ∷ xs) positive low = absurd (none-some (pos low.divisor *ℤ x) (so_often low.divisor xs) low.times)
has-first (item ∷ items) lowest positive low = record { first = item; rest = items; same = refl; positive = positive.0 }

some-weight : (items : List (ℕ × ℤ)) → HasFirst items → IsSome (weights items)
some-weight items has zeros = zero (subst (λ (is : List (ℕ × ℤ)). AllByRecursion (λ x. x ≡ pos 0) (weights is)) has.same zeros).0 has.positive
  where
    zero : has.first.1 ≡ pos 0 → pos 1 ≤ℤ has.first.1 → ⊥
    zero e l = omega (arith, ints)

-- a divisor is one where it takes the same numbers to a first one above 0
size-of : (x y : ℤ) (n : ℕ) → x ≡ pos n *ℤ y → n * unsigned_abs y ≡ unsigned_abs x
size-of x y n h = sym (ap unsigned_abs h ∙ unsigned_abs-mul (pos n) y)

cancel-size : (m n k : ℕ) → m * k ≡ n * k → 0 < k → m ≡ n
cancel-size m n k h l = sym (mul-div_cancel m l) ∙ ap (λ (z : ℕ). z / k) h ∙ mul-div_cancel n l

some-size : (m k n : ℕ) → m * k ≡ n → 0 < n → 0 < k
some-size m zero n e l = absurd (omega arith)
some-size m (suc k) n e l = omega arith

above : (x : ℤ) → pos 1 ≤ℤ x → 0 < unsigned_abs x
above x l = omega (arith, ints)

divisor-at : (d e : ℕ) (x : ℤ) (xs lowest : List ℤ) → pos 1 ≤ℤ x → x ∷ xs ≡ so_often d lowest → x ∷ xs ≡ so_often e lowest → d ≡ e
divisor-at d e x xs [] low p q = absurd (some-none x xs p)
divisor-at d e x xs (y ∷ ys) low p q =
    let first : d * unsigned_abs y ≡ unsigned_abs x = size-of x y d (head-same x (pos d *ℤ y) xs (so_often d ys) p) in
    let second : e * unsigned_abs y ≡ unsigned_abs x = size-of x y e (head-same x (pos e *ℤ y) xs (so_often e ys) q) in
    cancel-size d e (unsigned_abs y) (first ∙ sym second) (some-size d (unsigned_abs y) (unsigned_abs x) first (above x low))

-- the multiple is one where the divisor is
multiple-one : (d : ℕ) (x y : ℤ) → pos d *ℤ x ≡ pos mix_total → pos d *ℤ y ≡ pos mix_total → x ≡ y
multiple-one zero x y p q = absurd (omega (arith, ints))
multiple-one (suc d) x y p q = cancel (pos (suc d)) x y (omega (arith, ints)) (p ∙ sym q)

abbrev SameStart : StartData → StartData → Type 0
SameStart start other = (start.points ≡ other.points) × (start.multiple ≡ other.multiple)

tooth-start_one : (g : GameData) (points : List PointData) (start other : StartData) → IsToothStart g points start → IsToothStart g points other → SameStart start other
tooth-start_one g points start other p q = (
  pairs-same start.points other.points (p.listed ∙ ap numbers_of items ∙ sym q.listed) lowest,
  multiple-one p.lowest.divisor start.multiple other.multiple p.multiple (subst (λ (d : ℕ). pos d *ℤ other.multiple ≡ pos mix_total) (sym divisor) q.multiple),
)
  where
    items : p.items ≡ q.items
    items = tooth-one points (whole_first g) p.items q.items p.split q.split

    first : HasFirst p.items
    first = has-first p.items (weights start.points) p.split.positive p.lowest

    lowest : weights start.points ≡ weights other.points
    lowest = lowest-one (weights p.items) (weights start.points) (weights other.points) (some-weight p.items first) p.lowest
        (subst (λ (is : List (ℕ × ℤ)). AreLowest (weights is) (weights other.points)) (sym items) q.lowest)

    divisor : p.lowest.divisor ≡ q.lowest.divisor
    divisor = divisor-at p.lowest.divisor q.lowest.divisor first.first.1 (weights first.rest) (weights start.points) first.positive
        (ap weights (sym first.same) ∙ p.lowest.times)
        (ap weights (sym first.same ∙ items) ∙ q.lowest.times ∙ ap (so_often q.lowest.divisor) (sym lowest))

root-start_one : (root : ℕ) (start other : StartData) → (start.points ≡ (root, pos 1) ∷ []) × (start.multiple ≡ pos 1) →
    (other.points ≡ (root, pos 1) ∷ []) × (other.multiple ≡ pos 1) → SameStart start other
root-start_one root start other p q = (p.0 ∙ sym q.0, p.1 ∙ sym q.1)

pub start-one : (g : GameData) (sets : Sets) (start other : StartData) → IsStart g sets start → IsStart g sets other → start ≡ other
start-one g sets start other p q =
    ap (λ (n : ℕ). whole n start.points start.multiple) node ∙ ap₂ (λ (ps : List (ℕ × ℤ)) (m : ℤ). whole other.node ps m) rest.0 rest.1
  where
    whole : ℕ → List (ℕ × ℤ) → ℤ → StartData
    whole n ps m = record { node = n; points = ps; multiple = m }

    node : start.node ≡ other.node
    node = (worth-one sets.nodes g.first p.worth q.worth start.node other.node p.node q.node).1

    root : p.root ≡ q.root
    root = least-one sets.points g.first (length sets.points) p.root q.root p.is_root q.is_root

    high : p.high ≡ q.high
    high = sawtooth-one sets.points (whole_first g) p.high q.high p.sawtooth q.sawtooth

    rest : SameStart start other
    rest = by_lt_z p.high (pos mix_total *ℤ (point_at sets.points p.root).value)
        (λ below. tooth-start_one g sets.points start other (p.by_tooth below)
        (q.by_tooth (subst (λ (r : ℕ). q.high <ℤ (pos mix_total *ℤ (point_at sets.points r).value)) root
        (subst (λ (h : ℤ). h <ℤ (pos mix_total *ℤ (point_at sets.points p.root).value)) high below))))
        (λ upto. root-start_one p.root start other (p.by_root upto)
        (subst (λ (r : ℕ). (other.points ≡ (r, pos 1) ∷ []) × (other.multiple ≡ pos 1)) (sym root)
        (q.by_root (subst (λ (r : ℕ). (pos mix_total *ℤ (point_at sets.points r).value) ≤ℤ q.high) root
        (subst (λ (h : ℤ). (pos mix_total *ℤ (point_at sets.points p.root).value) ≤ℤ h) high upto)))))

-- bounds are not both open and closed
pub open-closed : (g : GameData) (gap : FractionData) (sets : Sets) → AreOpen g gap sets → AreClosed g gap sets → ⊥
open-closed g gap sets (start, is, far) (other, was, near) =
    far (subst (λ (s : StartData). AreNear (lower_of g sets s) (upper_of g sets s) gap) (start-one g sets other start was is) near)
