-- Numbers that are not all zero have one form in lowest terms, and such a mass one belief.
use Rattle.std.proofs.Common.{◌≡◌, ℕ, zero, suc, ◌*◌, ◌/◌, ◌<◌, List, [], ◌∷◌, map, refl, ap, ap₂, arith, sym, subst, ◌∙◌}
use Rattle.std.specs.Prelude.{ℤ, pos, ◌*ℤ◌, ◌≤ℤ◌, ◌<ℤ◌, unsigned_abs}
use Rattle.std.specs.Int.{◌∣◌}
use Rattle.std.specs.List.{AllByRecursion}
use Rattle.std.proofs.lemmas.Int.{ints, by_lt_z, unsigned_abs-mul}
use Rattle.std.proofs.Math.Nat.{dvd-mul_right, dvd_of_mul-dvd-mul_left, mul-div_cancel'}
use Rattle.scaled_num.specs.Sums.{sum_of}
use Rattle.game_model.specs.Game.{AreCoprime}
use Rattle.scaled_num.proofs.Divisors.{Divides, HasDivisor, divisor-of}
use Rattle.scaled_num.proofs.Floors.{All-from_recursion, NoneNegative, cancel}
use Rattle.scaled_num.proofs.OneShare.{shared-one, shared-sum}
use Rattle.scaled_num.proofs.Products.{mulℤ_comm}
use Rattle.belief.specs.Laws.{IsSome, LowestAreOne, ReducedAreOne}
use Rattle.belief.specs.Reduced.{AreLowest, IsSharedOut, most_total}
use Rattle.belief.proofs.Lowest.{IsNotNegative, IsZero, sum-of_zeros}

abbrev so_often : ℕ → List ℤ → List ℤ
so_often d xs = map (λ x. pos d *ℤ x) xs

-- ---- the divisor is the greatest common one
divided : (d : ℕ) (xs : List ℤ) → AllByRecursion (Divides d) (so_often d xs)
divided d [] = tt
divided d (x ∷ xs) = (subst (λ (n : ℕ). d ∣ n) (sym (unsigned_abs-mul (pos d) x)) (dvd-mul_right d (unsigned_abs x)), divided d xs)

-- what divides all multiples so many times over, divides the numbers
undone : (d k : ℕ) (xs : List ℤ) → 0 < d → AllByRecursion (Divides (d * k)) (so_often d xs) → AllByRecursion (Divides k) xs
undone d k [] l h = tt
undone d k (x ∷ xs) l h = (dvd_of_mul-dvd-mul_left k l (subst (λ (n : ℕ). d * k ∣ n) (unsigned_abs-mul (pos d) x) h.0), undone d k xs l h.1)

divisor-is : (d : ℕ) (xs : List ℤ) → 0 < d → AreCoprime xs → (h : HasDivisor (so_often d xs)) → h.divisor ≡ d
divisor-is d xs l coprime h =
    let k : ℕ = h.divisor / d in
    let size : d * k ≡ h.divisor = mul-div_cancel' d (h.greatest d (divided d xs)) in
    let one : k ≡ 1 = coprime k (undone d k xs l (subst (λ (n : ℕ). AllByRecursion (Divides n) (so_often d xs)) (sym size) h.divides)) in
    sym size ∙ ap (λ (n : ℕ). d * n) one ∙ once d
  where
    once : (d : ℕ) → d * 1 ≡ d
    once d = omega arith

divisor-from : (numbers : List ℤ) (d : ℕ) (xs : List ℤ) → numbers ≡ so_often d xs → 0 < d → AreCoprime xs → (h : HasDivisor numbers) → h.divisor ≡ d
divisor-from numbers d xs e l coprime = subst (λ (ns : List ℤ). (h : HasDivisor ns) → h.divisor ≡ d) (sym e) (divisor-is d xs l coprime)

-- ---- it is above 0 where not all numbers are 0
none-times : (xs : List ℤ) → AllByRecursion IsZero (so_often 0 xs)
none-times [] = tt
none-times (x ∷ xs) = (omega (arith, ints), none-times xs)

above-none : (numbers : List ℤ) (d : ℕ) (xs : List ℤ) → numbers ≡ so_often d xs → IsSome numbers → 0 < d
above-none numbers zero xs e some = absurd (some (subst (AllByRecursion IsZero) (sym e) (none-times xs)))
above-none numbers (suc d) xs e some = omega arith

-- ---- so the numbers in lowest terms are one list
cancel-one : (d : ℕ) (x y : ℤ) → 0 < d → pos d *ℤ x ≡ pos d *ℤ y → x ≡ y
cancel-one d x y l e = both x y (upto x y e) (upto y x (sym e))
  where
    le : (a b c f : ℤ) → a ≡ b → c ≡ a → f ≡ b → c ≤ℤ f
    le a b c f e g h = omega (arith, ints)

    upto : (x y : ℤ) → pos d *ℤ x ≡ pos d *ℤ y → x ≤ℤ y
    upto x y e = cancel x y (pos d) (omega (arith, ints)) (le (pos d *ℤ x) (pos d *ℤ y) (x *ℤ pos d) (y *ℤ pos d) e (mulℤ_comm x (pos d)) (mulℤ_comm y (pos d)))

    both : (x y : ℤ) → x ≤ℤ y → y ≤ℤ x → x ≡ y
    both x y l m = omega (arith, ints)

head-same : (x y : ℤ) (xs ys : List ℤ) → x ∷ xs ≡ y ∷ ys → x ≡ y
head-same x y xs ys e = cc

tail-same : (x y : ℤ) (xs ys : List ℤ) → x ∷ xs ≡ y ∷ ys → xs ≡ ys
tail-same x y xs ys e = cc

unlike : (x : ℤ) (xs : List ℤ) → [] ≡ x ∷ xs → ⊥
unlike x xs e = cc

cancel-all : (d : ℕ) (xs ys : List ℤ) → 0 < d → so_often d xs ≡ so_often d ys → xs ≡ ys
cancel-all d [] [] l e = refl
cancel-all d [] (y ∷ ys) l e = absurd (unlike (pos d *ℤ y) (so_often d ys) e)
cancel-all d (x ∷ xs) [] l e = absurd (unlike (pos d *ℤ x) (so_often d xs) (sym e))
cancel-all d (x ∷ xs) (y ∷ ys) l e =
    ap₂ (λ (z : ℤ) (zs : List ℤ). z ∷ zs)
    (cancel-one d x y l (head-same (pos d *ℤ x) (pos d *ℤ y) (so_often d xs) (so_often d ys) e))
    (cancel-all d xs ys l (tail-same (pos d *ℤ x) (pos d *ℤ y) (so_often d xs) (so_often d ys) e))

pub lowest-one : LowestAreOne
lowest-one numbers lowest others some p q =
    let low = above-none numbers p.divisor lowest p.times some in
    let h = divisor-of numbers in
    let same : q.divisor ≡ p.divisor =
    sym (divisor-from numbers q.divisor others q.times (above-none numbers q.divisor others q.times some) q.coprime h) ∙ divisor-from numbers p.divisor lowest p.times low p.coprime h in
    cancel-all p.divisor lowest others low (sym p.times ∙ q.times ∙ ap (λ (d : ℕ). so_often d others) same)

-- ---- and the belief of a mass is one
lowest-low : (d : ℕ) (xs : List ℤ) → 0 < d → AllByRecursion IsNotNegative (so_often d xs) → AllByRecursion IsNotNegative xs
lowest-low d [] l h = tt
lowest-low d (x ∷ xs) l h = (cancel (pos 0) x (pos d) (omega (arith, ints)) (turned x (pos d *ℤ x) (x *ℤ pos d) h.0 (mulℤ_comm x (pos d))), lowest-low d xs l h.1)
  where
    turned : (x a b : ℤ) → pos 0 ≤ℤ a → b ≡ a → (pos 0 *ℤ pos d) ≤ℤ b
    turned x a b p e = omega (arith, ints)

shared-out-one : (weights parts others : List ℤ) → AllByRecursion IsNotNegative weights → IsSharedOut weights parts → IsSharedOut weights others → parts ≡ others
shared-out-one weights parts others low p q =
    lowest-one p.shares parts others some p.lowest
    (subst (λ (shares : List ℤ). AreLowest shares others) (sym (shared-one weights most_total p.shares q.shares none p.shared q.shared)) q.lowest)
  where
    none : NoneNegative weights
    none = All-from_recursion (λ (x : ℤ). pos 0 ≤ℤ x) weights low

    some : IsSome p.shares
    some zeros = apart (sum_of p.shares) (shared-sum weights most_total p.shares none p.shared) (sum-of_zeros p.shares zeros)
      where
        apart : (s : ℤ) → s ≡ most_total → s ≡ pos 0 → ⊥
        apart s e f = omega (arith, ints)

pub reduced-one : ReducedAreOne
reduced-one mass parts others low some p q = by_lt_z most_total (sum_of p.lowest) heavy light
  where
    same : p.lowest ≡ q.lowest
    same = lowest-one mass p.lowest q.lowest some p.are_lowest q.are_lowest

    none : AllByRecursion IsNotNegative p.lowest
    none = lowest-low p.are_lowest.divisor p.lowest (above-none mass p.are_lowest.divisor p.lowest p.are_lowest.times some)
        (subst (AllByRecursion IsNotNegative) p.are_lowest.times low)

    heavy : most_total <ℤ sum_of p.lowest → parts ≡ others
    heavy l =
        shared-out-one p.lowest parts others none (p.heavy l)
        (subst (λ (weights : List ℤ). IsSharedOut weights others) (sym same) (q.heavy (subst (λ (weights : List ℤ). most_total <ℤ sum_of weights) same l)))

    light : sum_of p.lowest ≤ℤ most_total → parts ≡ others
    light l = p.light l ∙ same ∙ sym (q.light (subst (λ (weights : List ℤ). sum_of weights ≤ℤ most_total) same l))
