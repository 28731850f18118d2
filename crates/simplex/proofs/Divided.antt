-- Rows combined, and divided by the greatest common divisor of their numbers.
use Rattle.std.proofs.Common.{ℕ, suc, ◌+◌, ◌*◌, ◌^◌, ◌<◌, ◌≤◌, ◌≡◌, ◌≢◌, ℤ, pos, negsuc, ◌-ℤ◌, ◌*ℤ◌, ◌<ℤ◌, List, length, set, refl, sym, ap, ◌∙◌, subst, arith, unsigned_abs, inl, inr, mul-le-mul_left, mul_comm, lit≤, [], ◌∷◌, FitsSigned}
use Rattle.std.specs.Int.{◌∣◌, IsGcd, w128}
use Rattle.std.proofs.Math.Nat.{le_of_dvd, eq-zero_of_zero-dvd, dvd-mul_right}
use Rattle.std.proofs.Math.ListN.{length-set}
use Rattle.std.proofs.lemmas.Int.{ints, unsigned_abs-mul}
use Rattle.std.proofs.lemmas.Bool.{cases_lt, cases_eq}
use Rattle.std.proofs.lemmas.List.{get_or-set_same, get_or-set_other}
use Rattle.scaled_num.proofs.Ring.{ring, x, ◌⊗◌}
use Rattle.simplex.specs.Program.{at, IsNarrow, AllNarrow}
use Rattle.simplex.specs.Elimination.{eliminated, IsDivisor, IsCombined, DividedSoFar, AreDivided, IsMade, IsMadeWide}
use Rattle.simplex.proofs.Narrow.{product_small, difference_small}
use Rattle.simplex.proofs.Divisor.{lead_there, lead_positive}

-- ---- a list that is written place by place
pub set_more : (xs : List ℤ) (n : ℕ) (y : ℤ) (f : ℕ → ℤ) → n < length xs → ((k : ℕ) → k < n → at xs k ≡ f k) → y ≡ f n → (k : ℕ) → k < n + 1 → at (set xs n y) k ≡ f k
set_more xs n y f nl h e k kl = elim (cases_eq k n) [
  | inl same ↦ ap (at (set xs n y)) same ∙ get_or-set_same xs n y (pos 0) nl ∙ e ∙ ap f (sym same)
  | inr ne ↦ get_or-set_other xs n k y (pos 0) ne ∙ h k (omega arith)
]

pub set_left : (xs first : List ℤ) (n : ℕ) (y : ℤ) → ((k : ℕ) → n ≤ k → at xs k ≡ at first k) → (k : ℕ) → n + 1 ≤ k → at (set xs n y) k ≡ at first k
set_left xs first n y h k kl = get_or-set_other xs n k y (pos 0) (λ e. absurd (omega arith)) ∙ h k (omega arith)

-- ---- the row less the pivot row
abbrev pub less : List ℤ → List ℤ → ℕ → ℕ → ℤ
less row pivot q k = at pivot (q + 2) *ℤ at row k -ℤ at row (q + 2) *ℤ at pivot k

plain_there : (row pivot : List ℤ) (q k : ℕ) → k ≢ 0 → k ≢ q + 2 → eliminated row pivot q k ≡ less row pivot q k
plain_there row pivot q k z p = grind arith

place_there : (row pivot : List ℤ) (q : ℕ) → eliminated row pivot q (q + 2) ≡ pos 0 -ℤ at row (q + 2) *ℤ at pivot 0
place_there row pivot q = (let e : eliminated row pivot q (q + 2) ≡ at pivot (q + 2) *ℤ pos 0 -ℤ at row (q + 2) *ℤ at pivot 0 = grind arith in e) ∙ ap (λ (y : ℤ). y -ℤ at row (q + 2) *ℤ at pivot 0) (ring (at pivot (q + 2) ∷ pos 0 ∷ []) (x 0 ⊗ x 1) (x 1) (omega arith))

less_small : (row pivot : List ℤ) (q k : ℕ) → length pivot ≡ length row → q + 2 < length row → AllNarrow row → AllNarrow pivot → k < length row → unsigned_abs (less row pivot q k) < 2 ^ 125
less_small row pivot q k long ql rn pn kl = difference_small (at pivot (q + 2) *ℤ at row k) (at row (q + 2) *ℤ at pivot k) (product_small (at pivot (q + 2)) (at row k) (pn (q + 2) (omega arith)) (rn k kl)) (product_small (at row (q + 2)) (at pivot k) (rn (q + 2) ql) (pn k (omega arith)))

below_125 : (z : ℤ) → unsigned_abs z < 2 ^ 124 → unsigned_abs z < 2 ^ 125
below_125 z h = (let wide : 2 ^ 124 ≤ 2 ^ 125 = lit≤ tt in omega arith)

minus_small : (z : ℤ) → unsigned_abs z < 2 ^ 124 → unsigned_abs (pos 0 -ℤ z) < 2 ^ 125
minus_small z h = difference_small (pos 0) z (let some : 0 < 2 ^ 124 = lit≤ tt in omega arith) h

pub combined_row : (row pivot now : List ℤ) (q : ℕ) (a b : ℤ) → length pivot ≡ length row → q + 2 < length row → AllNarrow row → AllNarrow pivot → length now ≡ length row
    → ((k : ℕ) → k < length row → at now k ≡ less row pivot q k) → a ≡ at pivot (q + 2) *ℤ at row 0 → b ≡ pos 0 -ℤ at row (q + 2) *ℤ at pivot 0 → IsCombined row pivot q (set (set now 0 a) (q + 2) b)
combined_row row pivot now q a b same ql rn pn long h ea eb =
    let one : List ℤ = set now 0 a in
    let two : List ℤ = set one (q + 2) b in
    let ol : length one ≡ length row = length-set now 0 a ∙ long in
    let at_place : at two (q + 2) ≡ b = get_or-set_same one (q + 2) b (pos 0) (omega arith) in
    let at_lead : at two 0 ≡ a = get_or-set_other one (q + 2) 0 b (pos 0) (λ e. absurd (omega arith)) ∙ get_or-set_same now 0 a (pos 0) (omega arith) in
    let at_other : (k : ℕ) → k < length row → k ≢ 0 → k ≢ q + 2 → at two k ≡ less row pivot q k = λ k kl z p. get_or-set_other one (q + 2) k b (pos 0) p ∙ get_or-set_other now 0 k a (pos 0) z ∙ h k kl in
    record {
      long = length-set one (q + 2) b ∙ ol;
      each = λ k kl. elim (cases_eq k 0) [
        | inl z ↦ ap (at two) z ∙ at_lead ∙ ea ∙ sym (ap (eliminated row pivot q) z ∙ lead_there row pivot q)
        | inr nz ↦ elim (cases_eq k (q + 2)) [
          | inl p ↦ ap (at two) p ∙ at_place ∙ eb ∙ sym (ap (eliminated row pivot q) p ∙ place_there row pivot q)
          | inr np ↦ at_other k kl nz np ∙ sym (plain_there row pivot q k nz np)
        ]
      ];
      small = λ k kl. elim (cases_eq k 0) [
        | inl z ↦ subst (λ (y : ℤ). unsigned_abs y < 2 ^ 125) (sym (ap (at two) z ∙ at_lead ∙ ea)) (below_125 (at pivot (q + 2) *ℤ at row 0) (product_small (at pivot (q + 2)) (at row 0) (pn (q + 2) (omega arith)) (rn 0 (omega arith))))
        | inr nz ↦ elim (cases_eq k (q + 2)) [
          | inl p ↦ subst (λ (y : ℤ). unsigned_abs y < 2 ^ 125) (sym (ap (at two) p ∙ at_place ∙ eb)) (minus_small (at row (q + 2) *ℤ at pivot 0) (product_small (at row (q + 2)) (at pivot 0) (rn (q + 2) ql) (pn 0 (omega arith))))
          | inr np ↦ subst (λ (y : ℤ). unsigned_abs y < 2 ^ 125) (sym (at_other k kl nz np)) (less_small row pivot q k same ql rn pn kl)
        ]
      ];
    }

-- ---- division, as far as a loop has come
pub positive_is : (g : ℤ) → pos 0 <ℤ g → pos (unsigned_abs g) ≡ g
positive_is g h = omega (arith, ints)

pub divided_none : (first : List ℤ) (start : ℤ) → pos 0 <ℤ start → ((d : ℕ) → ((k : ℕ) → k < length first → d ∣ unsigned_abs (at first k)) → d ∣ unsigned_abs start) → DividedSoFar first first start 0
divided_none first start positive h = record { long = refl; positive = positive; done = λ k kl. absurd (omega arith); left = λ k kl. refl; greatest = h }

pub divided_more : (first now : List ℤ) (g quotient : ℤ) (n : ℕ) → n < length now → g *ℤ quotient ≡ at now n → DividedSoFar first now g n → DividedSoFar first (set now n quotient) g (n + 1)
divided_more first now g quotient n nl e so = record {
  long = length-set now n quotient ∙ so.long;
  positive = so.positive;
  done = λ k kl. elim (cases_eq k n) [
    | inl same ↦ ap (λ (i : ℕ). g *ℤ at (set now n quotient) i) same ∙ ap (λ (y : ℤ). g *ℤ y) (get_or-set_same now n quotient (pos 0) nl) ∙ e ∙ so.left n (omega arith) ∙ ap (at first) (sym same)
    | inr ne ↦ ap (λ (y : ℤ). g *ℤ y) (get_or-set_other now n k quotient (pos 0) ne) ∙ so.done k (omega arith)
  ];
  left = set_left now first n quotient so.left;
  greatest = so.greatest;
}

-- the divisor is made smaller, and the numbers before are multiplied by what it lost
pub divided_shrunk : (first now scaled : List ℤ) (g ratio value quotient : ℤ) (common n : ℕ) → n < length now → length scaled ≡ length now → value ≡ at now n
    → pos common *ℤ ratio ≡ g → pos common *ℤ quotient ≡ value → IsGcd (unsigned_abs g) (unsigned_abs value) common → 0 < common
    → ((k : ℕ) → k < n → at scaled k ≡ ratio *ℤ at now k) → ((k : ℕ) → n ≤ k → at scaled k ≡ at now k)
    → DividedSoFar first now g n → DividedSoFar first (set scaled n quotient) (pos common) (n + 1)
divided_shrunk first now scaled g ratio value quotient common n nn long is eg ev gcd some done left so =
    let here : value ≡ at first n = is ∙ so.left n (omega arith) in
    let nl : n < length scaled = omega arith in
    let nf : n < length first = (let l = so.long in omega arith) in
    record {
      long = length-set scaled n quotient ∙ long ∙ so.long;
      positive = omega (arith, ints);
      done = λ k kl. elim (cases_eq k n) [
        | inl same ↦ ap (λ (i : ℕ). pos common *ℤ at (set scaled n quotient) i) same ∙ ap (λ (y : ℤ). pos common *ℤ y) (get_or-set_same scaled n quotient (pos 0) nl) ∙ ev ∙ here ∙ ap (at first) (sym same)
        | inr ne ↦ ap (λ (y : ℤ). pos common *ℤ y) (get_or-set_other scaled n k quotient (pos 0) ne ∙ done k (omega arith))
            ∙ ring (pos common ∷ ratio ∷ at now k ∷ []) (x 0 ⊗ (x 1 ⊗ x 2)) ((x 0 ⊗ x 1) ⊗ x 2) (omega arith)
            ∙ ap (λ (y : ℤ). y *ℤ at now k) eg ∙ so.done k (omega arith)
      ];
      left = set_left scaled first n quotient (λ k kl. left k kl ∙ so.left k kl);
      greatest = λ d h. gcd.2 d (so.greatest d h) (subst (λ (y : ℤ). d ∣ unsigned_abs y) (sym here) (h n nf));
    }

pub divided_all : (first now : List ℤ) (g : ℤ) (n : ℕ) → length first ≤ n → DividedSoFar first now g n → AreDivided first now
divided_all first now g n h so = record { g = g; positive = so.positive; each = λ k kl. so.done k (omega arith); greatest = so.greatest }

times_one_is : (y : ℤ) → pos 1 *ℤ y ≡ y
times_one_is y = ring (y ∷ pos 1 ∷ []) (x 1 ⊗ x 0) (x 0) (omega arith)

pub divided_by_one : (first now : List ℤ) (g : ℤ) (n : ℕ) → g ≡ pos 1 → DividedSoFar first now g n → AreDivided first now
divided_by_one first now g n one so = record {
  g = g;
  positive = so.positive;
  each = λ k kl. elim (cases_lt k n) [
    | inl lt ↦ so.done k lt
    | inr ge ↦ ap (λ (y : ℤ). y *ℤ at now k) one ∙ times_one_is (at now k) ∙ so.left k ge
  ];
  greatest = so.greatest;
}

-- a common divisor is not 0 where one of the numbers is not
pub common_positive : (a b : ℤ) (common : ℕ) → pos 0 <ℤ a → IsGcd (unsigned_abs a) (unsigned_abs b) common → 0 < common
common_positive a b common h gcd = elim (cases_eq common 0) [
  | inl z ↦ absurd (let none : unsigned_abs a ≡ 0 = eq-zero_of_zero-dvd (subst (λ (i : ℕ). i ∣ unsigned_abs a) z gcd.0) in omega (arith, ints))
  | inr ne ↦ omega arith
]

pub common_small : (a b : ℤ) (common : ℕ) → pos 0 <ℤ a → IsGcd (unsigned_abs a) (unsigned_abs b) common → common ≤ unsigned_abs a
common_small a b common h gcd = le_of_dvd (let i : 0 < unsigned_abs a = omega (arith, ints) in i) gcd.0

pub common_fits : (a b : ℤ) (common : ℕ) → FitsSigned w128 a → pos 0 <ℤ a → IsGcd (unsigned_abs a) (unsigned_abs b) common → common < 2 ^ 127
common_fits a b common f h gcd = (let most : common ≤ unsigned_abs a = common_small a b common h gcd in let fits : unsigned_abs a < 2 ^ 127 = omega (arith, ints) in omega arith)

-- a factor of a small product is small where the other is at least 1
pub part_small : (common : ℕ) (ratio g y : ℤ) → 0 < common → pos common *ℤ ratio ≡ g → unsigned_abs (g *ℤ y) < 2 ^ 125 → unsigned_abs (ratio *ℤ y) < 2 ^ 125
part_small common ratio g y some e h =
    let whole : unsigned_abs (g *ℤ y) ≡ common * unsigned_abs (ratio *ℤ y) =
    ap (λ (z : ℤ). unsigned_abs (z *ℤ y)) (sym e)
    ∙ ap unsigned_abs (ring (pos common ∷ ratio ∷ y ∷ []) ((x 0 ⊗ x 1) ⊗ x 2) (x 0 ⊗ (x 1 ⊗ x 2)) (omega arith))
    ∙ unsigned_abs-mul (pos common) (ratio *ℤ y) in
    omega (arith, mul-le-mul_left {m = 1} {n = common} (unsigned_abs (ratio *ℤ y)) some, mul_comm common (unsigned_abs (ratio *ℤ y)))

-- ---- the row that is made
abbrev pub divisor_is : (row pivot whole new : List ℤ) (q : ℕ) → IsCombined row pivot q whole → (h : AreDivided whole new) → IsDivisor row pivot q (unsigned_abs h.g)
divisor_is row pivot whole new q c h = record {
  positive = (let i = h.positive in omega (arith, ints));
  divides = λ k kl. subst (λ (y : ℕ). unsigned_abs h.g ∣ y) (sym (unsigned_abs-mul h.g (at new k)) ∙ ap unsigned_abs (h.each k (let l = c.long in omega arith) ∙ c.each k kl)) (dvd-mul_right (unsigned_abs h.g) (unsigned_abs (at new k)));
  greatest = λ d all. h.greatest d (λ k kl. subst (λ (y : ℤ). d ∣ unsigned_abs y) (sym (c.each k (let l = c.long in omega arith))) (all k (let l = c.long in omega arith)));
}

pub is_made : (row pivot whole new : List ℤ) (q : ℕ) → length new ≡ length row → IsCombined row pivot q whole → AreDivided whole new → AllNarrow new → IsMade row pivot q new
is_made row pivot whole new q long c h narrow = record {
  g = unsigned_abs h.g;
  divisor = divisor_is row pivot whole new q c h;
  reduced = record { long = long; each = λ k kl. ap (λ (y : ℤ). y *ℤ at new k) (positive_is h.g h.positive) ∙ h.each k (let l = c.long in omega arith) ∙ c.each k kl };
  narrow = narrow;
}

size_is : (g y z : ℤ) → g *ℤ y ≡ z → unsigned_abs z ≡ unsigned_abs g * unsigned_abs y
size_is g y z e = ap unsigned_abs (sym e) ∙ unsigned_abs-mul g y

pub is_made_wide : (row pivot whole new : List ℤ) (q column : ℕ) → length new ≡ length row → IsCombined row pivot q whole → AreDivided whole new
    → column < length new → 2 ^ 62 ≤ unsigned_abs (at new column) → ((k : ℕ) → k < column → IsNarrow (at new k)) → IsMadeWide row pivot q column
is_made_wide row pivot whole new q column long c h inside wide before =
    let g : ℕ = unsigned_abs h.g in
    let some : 0 < g = (let i = h.positive in omega (arith, ints)) in
    let size : (k : ℕ) → k < length row → unsigned_abs (eliminated row pivot q k) ≡ g * unsigned_abs (at new k) = λ k kl. size_is h.g (at new k) (eliminated row pivot q k) (h.each k (let l = c.long in omega arith) ∙ c.each k kl) in
    record {
      g = g;
      divisor = divisor_is row pivot whole new q c h;
      first = record {
        inside = omega arith;
        wide = subst (λ (i : ℕ). g * 2 ^ 62 ≤ i) (sym (size column (omega arith))) (mul-le-mul_left g wide);
        before = λ k kl. subst (λ (i : ℕ). i < g * 2 ^ 62) (sym (size k (omega arith))) (less_times g (unsigned_abs (at new k)) (2 ^ 62) some (before k kl));
      };
    }
  where
    less_times : (g a b : ℕ) → 0 < g → a < b → g * a < g * b
    less_times g a b some h = (let i : g * suc a ≤ g * b = mul-le-mul_left g (let l : suc a ≤ b = omega arith in l) in let j : g * suc a ≡ g * a + g = omega arith in omega arith)

pub combined_lead : (row pivot new : List ℤ) (q : ℕ) → 0 < length row → pos 0 <ℤ at row 0 → pos 0 <ℤ at pivot (q + 2) → IsCombined row pivot q new → pos 0 <ℤ at new 0
combined_lead row pivot new q some lead pivot_lead c = subst (λ (y : ℤ). pos 0 <ℤ y) (sym (c.each 0 some ∙ lead_there row pivot q)) (both (at pivot (q + 2)) (at row 0) pivot_lead lead)
  where
    both : (a b : ℤ) → pos 0 <ℤ a → pos 0 <ℤ b → pos 0 <ℤ (a *ℤ b)
    both (pos a) (pos b) h k = (let i : unsigned_abs (pos a *ℤ pos b) ≢ 0 = lead_positive (pos a) (pos b) h k in omega (arith, ints))
    both (pos a) (negsuc b) h k = absurd (omega (arith, ints))
    both (negsuc a) b h k = absurd (omega (arith, ints))

pub start_common : (numbers : List ℤ) (place common : ℕ) → 0 < length numbers → place < length numbers → IsGcd (unsigned_abs (at numbers 0)) (unsigned_abs (at numbers place)) common
    → (d : ℕ) → ((k : ℕ) → k < length numbers → d ∣ unsigned_abs (at numbers k)) → d ∣ common
start_common numbers place common some inside gcd d h = gcd.2 d (h 0 some) (h place inside)
