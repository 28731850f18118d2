-- Weights are, in one way, a multiple of coprime weights.
use Rattle.std.proofs.Common.{◌≡◌, ℕ, zero, suc, ◌-◌, ◌*◌, ◌/◌, ◌%◌, ◌^◌, ◌<◌, ◌≤◌, List, [], ◌∷◌, length, map, ℤ, pos, negsuc, refl, sym, ap, subst, ◌∙◌, arith}
use Rattle.std.specs.Prelude.{unsigned_abs, ◌*ℤ◌, ◌+ℤ◌, ◌≤ℤ◌}
use Rattle.std.specs.Int.{◌∣◌}
use Rattle.std.specs.List.{AllByRecursion}
use Rattle.std.proofs.lemmas.Int.{ints, unsigned_abs-mul}
use Rattle.std.proofs.Math.Nat.{dvd_refl, dvd-zero, dvd_trans, dvd-mul_right, dvd-mul_right_of_dvd, dvd-add, dvd-sub, dvd_antisymm, mod-lt, div-add-mod, mul_assoc, mul-sub, mul-div_cancel_left, eq-one_of_dvd-one, zero-dvd, div-le_self, mul-le-mul_right, mul-div_cancel', dvd_of_mul-dvd-mul_left, mod-eq-sub-mul-div, mul-dvd-mul_left}
use Rattle.std.proofs.Math.IntN.{pos-*ℤ-pos, pos-*ℤ-negsuc}
use Rattle.std.specs.Prelude.{neg_ℤ}
use Rattle.scaled_num.specs.Sums.{sum_of}
use Rattle.scaled_num.proofs.Products.{mul-addℤ}
use Rattle.game_model.specs.Game.{AreCoprime, IsBelief, IsWithin}
use Rattle.game_text.specs.Text.{scaled}

-- A greatest common divisor also divides what divides each multiple.
pub record IsCommon (a b g : ℕ) : Type 0 where
  pub left : g ∣ a
  pub right : g ∣ b
  pub most : (n d : ℕ) → d ∣ n * a → d ∣ n * b → d ∣ n * g

common_zero : (a : ℕ) → IsCommon a 0 a
common_zero a = record { left = dvd_refl a; right = dvd-zero a; most = λ n d p q. p }

scale_mod : (n a b : ℕ) → n * (a % b) ≡ n * a - (n * b) * (a / b)
scale_mod n a b =
    ap (λ (x : ℕ). n * x) (mod-eq-sub-mul-div a b) ∙ mul-sub n a (b * (a / b)) ∙ ap (λ (x : ℕ). n * a - x) (sym (mul_assoc n b (a / b)))

common_mod : (a b g : ℕ) → IsCommon b (a % b) g → IsCommon a b g
common_mod a b g h = record {
  left = subst (λ (x : ℕ). g ∣ x) (div-add-mod a b) (dvd-add g (dvd-mul_right_of_dvd g h.left (a / b)) h.right);
  right = h.left;
  most = λ n d p q. h.most n d q (subst (λ (x : ℕ). d ∣ x) (sym (scale_mod n a b)) (dvd-sub d p (dvd-mul_right_of_dvd d q (a / b))));
}

-- by the greater of the two numbers that is left
common_within : (fuel a b : ℕ) → b ≤ fuel → (g : ℕ) × IsCommon a b g
common_within zero a b le = (a, subst (λ (x : ℕ). IsCommon a x a) (omega arith) (common_zero a))
common_within (suc fuel) a zero le = (a, common_zero a)
common_within (suc fuel) a (suc b) le =
    let small : a % suc b < suc b = mod-lt a (omega arith) in
    let p = common_within fuel (suc b) (a % suc b) (omega arith) in
    (p.0, common_mod a (suc b) p.0 p.1)

common : (a b : ℕ) → (g : ℕ) × IsCommon a b g
common a b = common_within b a b (omega arith)

abbrev Divides : ℕ → List ℤ → Type 0
Divides d numbers = AllByRecursion (λ x. d ∣ unsigned_abs x) numbers

abbrev DividesEach : ℕ → ℕ → List ℤ → Type 0
DividesEach d n numbers = AllByRecursion (λ x. d ∣ n * unsigned_abs x) numbers

pub record IsCommonOf (numbers : List ℤ) (g : ℕ) : Type 0 where
  pub divides : Divides g numbers
  pub most : (n d : ℕ) → DividesEach d n numbers → d ∣ n * g

divides_on : (d e : ℕ) (numbers : List ℤ) → d ∣ e → Divides e numbers → Divides d numbers
divides_on d e [] h all = tt
divides_on d e (x ∷ numbers) h all = (dvd_trans d h all.0, divides_on d e numbers h all.1)

pub common_of : (numbers : List ℤ) → (g : ℕ) × IsCommonOf numbers g
common_of [] = (0, record { divides = tt; most = λ n d all. subst (λ (x : ℕ). d ∣ x) (omega arith) (dvd-zero d) })
common_of (x ∷ numbers) =
    let p = common_of numbers in
    let q = common (unsigned_abs x) p.0 in (
      q.0,
      record {
        divides = (q.1.left, divides_on q.0 p.0 numbers q.1.right p.1.divides);
        most = λ n d all. q.1.most n d all.0 (p.1.most n d all.1);
      },
    )

-- what divides each multiple of coprime numbers divides the factor
coprime_most : (numbers : List ℤ) → AreCoprime numbers → (n d : ℕ) → DividesEach d n numbers → d ∣ n
coprime_most numbers coprime n d all =
    let p = common_of numbers in
    let one : p.0 ≡ 1 = coprime p.0 p.1.divides in
    let e : n * p.0 ≡ n = ap (λ (x : ℕ). n * x) one ∙ omega arith in
    subst (λ (x : ℕ). d ∣ x) e (p.1.most n d all)

cons_same : (x y : ℤ) (xs ys : List ℤ) → x ∷ xs ≡ y ∷ ys → (x ≡ y) × (xs ≡ ys)
cons_same x y xs ys e = (cc, cc)

scaled_divides : (k m : ℕ) (a b : List ℤ) → scaled k a ≡ scaled m b → DividesEach m k a
scaled_divides k m [] b e = tt
scaled_divides k m (x ∷ a) [] e = absurd cc
scaled_divides k m (x ∷ a) (y ∷ b) e =
    let p = cons_same (pos k *ℤ x) (pos m *ℤ y) (scaled k a) (scaled m b) e in
    let s : k * unsigned_abs x ≡ m * unsigned_abs y = sym (unsigned_abs-mul (pos k) x) ∙ ap unsigned_abs p.0 ∙ unsigned_abs-mul (pos m) y in
    (subst (λ (z : ℕ). m ∣ z) (sym s) (dvd-mul_right m (unsigned_abs y)), scaled_divides k m a b p.1)

cancel : (k m n : ℕ) → 1 ≤ k → k * m ≡ k * n → m ≡ n
cancel k m n some e = sym (mul-div_cancel_left m some) ∙ ap (λ (x : ℕ). x / k) e ∙ mul-div_cancel_left n some

apart : (k m n : ℕ) → 1 ≤ k → pos (k * m) ≡ neg_ℤ (pos (k * suc n)) → ⊥
apart k m n some e = omega (arith, ints, e)

abs_same : (k : ℕ) (x y : ℤ) → pos k *ℤ x ≡ pos k *ℤ y → k * unsigned_abs x ≡ k * unsigned_abs y
abs_same k x y e = sym (unsigned_abs-mul (pos k) x) ∙ ap unsigned_abs e ∙ unsigned_abs-mul (pos k) y

cancel_pos : (k : ℕ) (x y : ℤ) → 1 ≤ k → pos k *ℤ x ≡ pos k *ℤ y → x ≡ y
cancel_pos k (pos m) (pos n) some e = ap pos (cancel k m n some (abs_same k (pos m) (pos n) e))
cancel_pos k (pos m) (negsuc n) some e = absurd (apart k m n some (sym (pos-*ℤ-pos k m) ∙ e ∙ pos-*ℤ-negsuc k n))
cancel_pos k (negsuc m) (pos n) some e = absurd (apart k n m some (sym (pos-*ℤ-pos k n) ∙ sym e ∙ pos-*ℤ-negsuc k m))
cancel_pos k (negsuc m) (negsuc n) some e = let p : suc m ≡ suc n = cancel k (suc m) (suc n) some (abs_same k (negsuc m) (negsuc n) e) in ap negsuc (omega (arith, p))

scaled_cancel : (k : ℕ) (a b : List ℤ) → 1 ≤ k → scaled k a ≡ scaled k b → a ≡ b
scaled_cancel k [] [] some e = refl
scaled_cancel k [] (y ∷ b) some e = absurd cc
scaled_cancel k (x ∷ a) [] some e = absurd cc
scaled_cancel k (x ∷ a) (y ∷ b) some e =
    let p = cons_same (pos k *ℤ x) (pos k *ℤ y) (scaled k a) (scaled k b) e in
    ap (λ (z : ℤ). z ∷ a) (cancel_pos k x y some p.0) ∙ ap (λ (l : List ℤ). y ∷ l) (scaled_cancel k a b some p.1)

-- one multiple has one factor and one list of coprime numbers
pub scaled_once : (k m : ℕ) (a b : List ℤ) → 1 ≤ k → scaled k a ≡ scaled m b → AreCoprime a → AreCoprime b → a ≡ b
scaled_once k m a b some e ca cb =
    let up : m ∣ k = coprime_most a ca k m (scaled_divides k m a b e) in
    let down : k ∣ m = coprime_most b cb m k (scaled_divides m k b a (sym e)) in
    let same : m ≡ k = dvd_antisymm up down in
    scaled_cancel k a b some (e ∙ ap (λ (n : ℕ). scaled n b) same)

-- the coprime weights

pub record Parts (states : ℕ) (weights : List ℤ) : Type 0 where
  pub times : ℕ
  pub kept : List ℤ
  pub some : 1 ≤ times
  pub same : scaled times kept ≡ weights
  pub coprime : AreCoprime kept
  pub belief : IsBelief states kept

abbrev quotients : ℕ → List ℤ → List ℤ
quotients g weights = map (λ x. pos (unsigned_abs x / g)) weights

abbrev Low : List ℤ → Type 0
Low weights = AllByRecursion (IsWithin (pos 0) (pos (2 ^ 20))) weights

times_quotient : (g : ℕ) (x : ℤ) → pos 0 ≤ℤ x → g ∣ unsigned_abs x → pos g *ℤ pos (unsigned_abs x / g) ≡ x
times_quotient g (pos n) low divides = pos-*ℤ-pos g (n / g) ∙ ap pos (mul-div_cancel' g divides)
times_quotient g (negsuc n) low divides = absurd (omega (arith, ints, low))

scaled_quotients : (g : ℕ) (weights : List ℤ) → Low weights → Divides g weights → scaled g (quotients g weights) ≡ weights
scaled_quotients g [] low divides = refl
scaled_quotients g (x ∷ weights) low divides =
    ap (λ (z : ℤ). z ∷ scaled g (quotients g weights)) (times_quotient g x low.0.0 divides.0) ∙ ap (λ (l : List ℤ). x ∷ l) (scaled_quotients g weights low.1 divides.1)

all_zero : (weights : List ℤ) → Low weights → Divides 0 weights → sum_of weights ≡ pos 0
all_zero [] low divides = refl
all_zero (x ∷ weights) low divides = zero_first x (sum_of weights) (zero-dvd.0 divides.0) (all_zero weights low.1 divides.1)
  where
    zero_first : (x s : ℤ) → unsigned_abs x ≡ 0 → s ≡ pos 0 → x +ℤ s ≡ pos 0
    zero_first (pos n) s e f = omega (arith, ints, e, f)
    zero_first (negsuc n) s e f = absurd (omega (arith, e))

some_divisor : (g : ℕ) (weights : List ℤ) → Low weights → IsWithin (pos 1) (pos (2 ^ 20)) (sum_of weights) → Divides g weights → 1 ≤ g
some_divisor zero weights low sums divides = absurd (omega (arith, ints, sums.0, all_zero weights low divides))
some_divisor (suc g) weights low sums divides = omega arith

scale_each : (g d : ℕ) (weights : List ℤ) → Low weights → Divides g weights → Divides d (quotients g weights) → DividesEach (g * d) 1 weights
scale_each g d [] low divides all = tt
scale_each g d (x ∷ weights) low divides all =
    let here : g * d ∣ g * (unsigned_abs x / g) = mul-dvd-mul_left d g all.0 in
    let e : g * (unsigned_abs x / g) ≡ 1 * unsigned_abs x = mul-div_cancel' g divides.0 ∙ omega arith in
    (subst (λ (z : ℕ). g * d ∣ z) e here, scale_each g d weights low.1 divides.1 all.1)

quotients_coprime : (g : ℕ) (weights : List ℤ) → 1 ≤ g → Low weights → IsCommonOf weights g → AreCoprime (quotients g weights)
quotients_coprime g weights some low common d all =
    let most : g * d ∣ 1 * g = common.most 1 (g * d) (scale_each g d weights low common.divides all) in
    let e : 1 * g ≡ g * 1 = omega arith in
    eq-one_of_dvd-one (dvd_of_mul-dvd-mul_left d some (subst (λ (z : ℕ). g * d ∣ z) e most))

quotient_within : (g : ℕ) (x : ℤ) → 1 ≤ g → IsWithin (pos 0) (pos (2 ^ 20)) x → IsWithin (pos 0) (pos (2 ^ 20)) (pos (unsigned_abs x / g))
quotient_within g (pos n) some h = (omega (arith, ints), omega (arith, ints, h.1, div-le_self n g))
quotient_within g (negsuc n) some h = absurd (omega (arith, ints, h.0))

quotients_low : (g : ℕ) (weights : List ℤ) → 1 ≤ g → Low weights → Low (quotients g weights)
quotients_low g [] some low = tt
quotients_low g (x ∷ weights) some low = (quotient_within g x some low.0, quotients_low g weights some low.1)

quotients_length : (g : ℕ) (weights : List ℤ) → length (quotients g weights) ≡ length weights
quotients_length g [] = refl
quotients_length g (x ∷ weights) = ap suc (quotients_length g weights)

pub sum_scaled : (k : ℕ) (weights : List ℤ) → sum_of (scaled k weights) ≡ pos k *ℤ sum_of weights
sum_scaled k [] = omega (arith, ints)
sum_scaled k (x ∷ weights) = ap (λ (z : ℤ). pos k *ℤ x +ℤ z) (sum_scaled k weights) ∙ sym (mul-addℤ (pos k) x (sum_of weights))

sum_between : (k : ℕ) (s : ℤ) → 1 ≤ k → IsWithin (pos 1) (pos (2 ^ 20)) (pos k *ℤ s) → IsWithin (pos 1) (pos (2 ^ 20)) s
sum_between k (pos n) some h =
    let e = pos-*ℤ-pos k n in
    let up : 1 * n ≤ k * n = mul-le-mul_right n some in
    let one : 1 ≤ k * n = omega (arith, ints, e, h.0) in
    let most : k * n ≤ 2 ^ 20 = omega (arith, ints, e, h.1) in
    (some_factor k n one, omega (arith, ints, up, most))
  where
    some_factor : (k n : ℕ) → 1 ≤ k * n → pos 1 ≤ℤ pos n
    some_factor k zero h = absurd (omega (arith, h))
    some_factor k (suc n) h = omega (arith, ints)
sum_between k (negsuc n) some h = absurd (omega (arith, ints, pos-*ℤ-negsuc k n, h.0))

pub parts : (states : ℕ) (weights : List ℤ) → IsBelief states weights → Parts states weights
parts states weights belief =
    let p = common_of weights in
    let g = p.0 in
    let some = some_divisor g weights belief.each belief.sums p.1.divides in
    let same = scaled_quotients g weights belief.each p.1.divides in
    record {
      times = g;
      kept = quotients g weights;
      some = some;
      same = same;
      coprime = quotients_coprime g weights some belief.each p.1;
      belief = record {
        long = quotients_length g weights ∙ belief.long;
        each = quotients_low g weights some belief.each;
        sums = sum_between g (sum_of (quotients g weights)) some (subst (λ (z : ℤ). IsWithin (pos 1) (pos (2 ^ 20)) z) (ap sum_of (sym same) ∙ sum_scaled g (quotients g weights)) belief.sums);
      };
    }
