-- The last dictionary of a solver, and the values that are read from it.
use Rattle.std.proofs.Common.{◌≡◌, ℕ, zero, suc, ◌<◌, ◌≤◌, ◌*◌, ◌+◌, ◌^◌, [], ◌∷◌, length, refl, sym, ap, subst, ◌∙◌, inl, inr, arith, unsigned_abs}
use Rattle.std.specs.Prelude.{ℤ, pos, neg_ℤ, ◌*ℤ◌, ◌≤ℤ◌, ◌<ℤ◌, Option, Some, None, IfSome, IsSome, unwrap_or}
use Rattle.std.specs.Int.{◌∣◌}
use Rattle.std.proofs.lemmas.Bool.{cases_eq}
use Rattle.std.proofs.lemmas.Int.{ints, unsigned_abs-mul}
use Rattle.std.proofs.Math.Nat.{dvd-mul_right, le_of_dvd}
use Rattle.scaled_num.proofs.Floors.{floor-none_negative, product_le, product_none_negative}
use Rattle.scaled_num.proofs.Products.{mulℤ_comm}
use Rattle.scaled_num.specs.Share.{IsFloor}
use Rattle.simplex.proofs.Unique.{divisor}
use Rattle.simplex.proofs.AlongRuns.{stays_feasible, stays_narrow}
use Rattle.simplex.proofs.BothRuns.{run_dictionary}
use Rattle.simplex.proofs.Optimum.{not_negative_factor, not_negative_product}
use Rattle.simplex.specs.Program.{IsProgram, at, row_count, variable_count}
use Rattle.simplex.specs.Run.{RunEnds}
use Rattle.simplex.specs.Solver.{State}
use Rattle.simplex.specs.declared.End.{End}
use Rattle.simplex.specs.declared.Program.{Program}
use Rattle.simplex.specs.Dictionary.{AreCoprime, Dictionary, number}
use Rattle.simplex.specs.Reading.{IsLowest, IsPrice, IsPrimal}
use Rattle.stage_game.specs.Reading.{CanBeRead, IsReadable, last_of, no_dictionary, weight_end}

-- ---- a fact of the last dictionary, and the same as a fact of an option
pub at-last : (o : Option Dictionary) (P : Dictionary → Type 0) → IsSome o → IfSome o P → P (unwrap_or o no_dictionary)
at-last None P there h = cc
at-last (Some d) P there h = h

pub from-last : (o : Option Dictionary) (P : Dictionary → Type 0) → IsSome o → P (unwrap_or o no_dictionary) → IfSome o P
from-last None P there h = cc
from-last (Some d) P there h = h

-- ---- values are narrow and not negative
two-cases : (k : ℕ) (P : ℕ → Type 0) → k < 2 → P 0 → P 1 → P k
two-cases zero P h a b = a
two-cases (suc zero) P h a b = b
two-cases (suc (suc k)) P h a b = absurd (omega arith)

-- a number that divides a product, and is coprime with one factor, divides the other
divides-other : (a b c : ℕ) → ((d : ℕ) → d ∣ a → d ∣ b → d ≡ 1) → a ∣ b * c → a ∣ c
divides-other a b c coprime h =
    let r = divisor b a b (omega arith) in
    let one : r.0 ≡ 1 = coprime r.0 r.1 r.2 in
    subst (λ (k : ℕ). a ∣ k) (ap (λ (k : ℕ). k * c) one ∙ omega arith) (r.3 a c (dvd-mul_right a c) h)

coprime-parts : (num den : ℤ) → AreCoprime (num ∷ den ∷ []) → (d : ℕ) → d ∣ unsigned_abs num → d ∣ unsigned_abs den → d ≡ 1
coprime-parts num den h d p q = h d (λ k l. two-cases k (λ (i : ℕ). d ∣ unsigned_abs (at (num ∷ den ∷ []) i)) l p q)

product-some : (a l : ℕ) → (a ≡ 0 → ⊥) → 0 < l → 0 < a * l
product-some zero l ne positive = absurd (ne refl)
product-some (suc a) l ne positive = omega arith

-- a fraction in lowest terms that equals c over l has at most the magnitude of c above
lowest-above : (a b c l most : ℕ) → 0 < l → a * l ≡ c * b → ((d : ℕ) → d ∣ a → d ∣ b → d ≡ 1) → c < most → a < most
lowest-above a b zero l most positive e coprime small =
    let none : a * l ≡ 0 = e ∙ omega arith in
    elim (cases_eq a 0) [ inl z ↦ omega arith | inr ne ↦ absurd (let some : 0 < a * l = product-some a l ne positive in omega arith) ]
lowest-above a b (suc c) l most positive e coprime small =
    let divides : a ∣ b * suc c = subst (λ (k : ℕ). a ∣ k) (e ∙ omega arith) (dvd-mul_right a l) in
    let most_c : a ≤ suc c = le_of_dvd (omega arith) (divides-other a b (suc c) coprime divides) in
    omega arith

abs-times : (a b c d : ℤ) → a *ℤ b ≡ c *ℤ d → unsigned_abs a * unsigned_abs b ≡ unsigned_abs c * unsigned_abs d
abs-times a b c d e = sym (unsigned_abs-mul a b) ∙ ap unsigned_abs e ∙ unsigned_abs-mul c d

-- what is known of a value that is read
pub record IsRead (num den : ℤ) : Type 0 where
  pub positive : pos 0 <ℤ den
  pub not_negative : pos 0 ≤ℤ num
  pub small : unsigned_abs num < 2 ^ 62

none-read : (num den : ℤ) → pos 0 <ℤ den → num ≡ pos 0 → IsRead num den
none-read num den positive e = record {
  positive = positive;
  not_negative = subst (λ z. pos 0 ≤ℤ z) (sym e) (omega (arith, ints));
  small = subst (λ z. unsigned_abs z < 2 ^ 62) (sym e) (omega arith);
}

basic-read : (num den lead constant : ℤ) → IsLowest num den → pos 0 <ℤ lead → pos 0 ≤ℤ constant → unsigned_abs constant < 2 ^ 62 → num *ℤ lead ≡ constant *ℤ den → IsRead num den
basic-read num den lead constant lowest lead_positive low small e = record {
  positive = lowest.positive;
  not_negative = not_negative_factor lead num lead_positive
      (subst (λ z. pos 0 ≤ℤ z) (sym e ∙ turn num lead) (not_negative_product constant den low (let p = lowest.positive in omega (arith, ints))));
  small = lowest-above (unsigned_abs num) (unsigned_abs den) (unsigned_abs constant) (unsigned_abs lead) (2 ^ 62) (omega (arith, ints)) (abs-times num lead constant den e) (coprime-parts num den lowest.coprime) small;
}
  where
    turn : (x y : ℤ) → x *ℤ y ≡ y *ℤ x
    turn x y = mulℤ_comm x y

pub value-read : (d : Dictionary) (i : ℕ) (num den : ℤ) → IsReadable d → i < length d.out → IsPrimal d i num den → IsRead num den
value-read d i num den readable inside primal =
    let id = readable.dictionary in
    let basic_long : length d.basic ≡ row_count readable.program = id.parted.basic_long in
    let out_long : length d.out ≡ variable_count readable.program = id.parted.out_long in
    elim (id.parted.found i (omega arith)) [
      | inl (k, kl, e) ↦ basic-read num den (number d k 0) (number d k 1) primal.lowest (id.leads k kl)
          (readable.feasible k (omega arith))
          (readable.narrow.rows k (omega (arith, id.high)) 1 (omega (arith, id.long k kl)))
          (primal.basic k (omega arith) e)
      | inr (q, ql, e) ↦ none-read num den primal.lowest.positive (primal.out q (omega arith) e)
    ]

-- ---- the last dictionary of a run
pub run-readable : (p : Program) (d : Dictionary) (pivots : ℕ) (end : End) → IsProgram p → RunEnds p pivots d end → IsReadable d
run-readable p d pivots end serves run = record {
  program = p;
  dictionary = run_dictionary p d run.before run.run;
  narrow = stays_narrow p d run.before serves run.run;
  feasible = stays_feasible p d run.before serves run.run;
}

pub readable-out : (p : Program) (d : Dictionary) (pivots : ℕ) (end : End) → RunEnds p pivots d end → length d.out ≡ variable_count p
readable-out p d pivots end run = (run_dictionary p d run.before run.run).parted.out_long

pub readable-basic : (p : Program) (d : Dictionary) (pivots : ℕ) (end : End) → RunEnds p pivots d end → length d.basic ≡ row_count p
readable-basic p d pivots end run = (run_dictionary p d run.before run.run).parted.basic_long

pub can-be-read : (p : Program) (s : State) (pivots : ℕ) (end : End) → IsProgram p → IsSome s.last → IfSome s.last (λ d. RunEnds p pivots d end) → CanBeRead s
can-be-read p s pivots end serves some run = record { some = some; readable = run-readable p (last_of s) pivots end serves (at-last s.last (λ d. RunEnds p pivots d end) some run) }

-- a weight that is read is 0 to 2^92
pub weight-within : (weight num den : ℤ) → IsRead num den → IsFloor weight (num *ℤ pos weight_end) den → (pos 0 ≤ℤ weight) × (weight ≤ℤ pos (2 ^ 92))
weight-within weight num den read floor =
    let low : pos 0 ≤ℤ weight =
    floor-none_negative weight (num *ℤ pos weight_end) den (product_none_negative num (pos weight_end) read.not_negative (omega (arith, ints))) read.positive floor in
    let whole : (pos 1 *ℤ weight) ≤ℤ (den *ℤ weight) = product_le (pos 1) den weight low (let some = read.positive in omega (arith, ints)) in
    let small : unsigned_abs num < 2 ^ 62 = read.small in
    (low, omega (arith, ints, whole, floor.low, mulℤ_comm den weight, small))

-- a price is narrow
pub price-small : (d : Dictionary) (i : ℕ) (price : ℤ) → IsReadable d → i < length d.basic → IsPrice d i price → unsigned_abs price < 2 ^ 62
price-small d i price readable inside is =
    let id = readable.dictionary in
    let basic_long : length d.basic ≡ row_count readable.program = id.parted.basic_long in
    let out_long : length d.out ≡ variable_count readable.program = id.parted.out_long in
    elim (id.parted.found (length d.out + i) (omega arith)) [
      | inl (k, kl, e) ↦ subst (λ z. unsigned_abs z < 2 ^ 62) (sym (is.basic k (omega arith) e)) (omega arith)
      | inr (q, ql, e) ↦ subst (λ z. unsigned_abs z < 2 ^ 62) (sym (is.out q (omega arith) e))
          (turned (at d.goal (q + 2)) (readable.narrow.goal (q + 2) (omega (arith, id.goal_long))))
    ]
  where
    turned : (x : ℤ) → unsigned_abs x < 2 ^ 62 → unsigned_abs (neg_ℤ x) < 2 ^ 62
    turned x l = omega (arith, ints)
